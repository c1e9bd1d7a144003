-- Laws of the commands of a chase script.
pub mod Hunting
pub mod Start
