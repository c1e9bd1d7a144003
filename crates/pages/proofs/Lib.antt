-- Laws of the octets in blocks one after the other, and of the loop that copies them.
pub mod Copying
