-- Laws of lines: of events one behind the other, of a read.
pub mod Telling
