-- The packets' check. All of it is the paper.
pub mod Crc
