-- The modules of specs/. Assumes nothing.
pub mod Refusals
