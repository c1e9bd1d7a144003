-- Laws of digits read, of ranges, of the sequence written, and of a script: octet by octet, and as a whole.
pub mod Decoding
pub mod Questions
pub mod Checks
pub mod Sounding
pub mod Coming
pub mod Whole
