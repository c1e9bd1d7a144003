-- Laws of the events as the list holds them.
pub mod Flat
