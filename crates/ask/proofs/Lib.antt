-- Laws of the questions: what is handed on where nothing was found, and an entry that is there or is not.
pub mod Answered
