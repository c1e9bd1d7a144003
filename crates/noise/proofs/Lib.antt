-- The laws of the sequence and of the mixing.
pub mod Rule
pub mod Mixing
