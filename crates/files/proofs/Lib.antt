-- What the calls on files know of the store lent and of a complete file's blocks.
pub mod Holding
pub mod Reading
