-- What the functions' proofs are made of: where data is written, what is known of an act, and how a promise follows from the calls.
pub mod Writing
pub mod Finding
pub mod Telling
