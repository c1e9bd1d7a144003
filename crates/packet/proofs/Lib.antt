-- Laws of the packet that the crates above cite.
pub mod Fields
pub mod Looks
pub mod Made
pub mod Plainly
