-- The pseudo-random sequence. All of it is the paper.
pub mod Noise
