-- Laws of a catalogue that gets one entry more: entries written, the catalogue by its sections, and the sections in place.
pub mod Writing
pub mod Entering
pub mod Growing
