-- Laws of the raw stream.
pub mod Cutting
pub mod Seeking
pub mod Sounding
pub mod Feeding
pub mod Places
pub mod Stretches
pub mod Promised
