-- Laws of the commands: what comes of a call, how many events a frame has, what is lent.
pub mod Outcomes
pub mod Listed
pub mod Lent
