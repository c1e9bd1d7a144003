-- Laws of entering a file: what is settled before anything is written, and the call by the file's header.
pub mod Settling
pub mod Filing
