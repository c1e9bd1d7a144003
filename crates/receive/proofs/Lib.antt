-- Laws of a frame call that the program leans on.
pub mod Steps
