-- Laws of refusals.
pub mod Passing
