-- Laws of a walk's end: from where it stopped to all that comes of the octets that were read.
pub mod Ends
