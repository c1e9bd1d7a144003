-- Laws of the script: one that is read whole, followed.
pub mod Following
