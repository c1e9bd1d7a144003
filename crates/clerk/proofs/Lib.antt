-- Laws of what is lent, and of the lines of a clerk script.
pub mod Lent
pub mod Saying
pub mod Start
