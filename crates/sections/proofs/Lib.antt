-- Laws of sections: written and read, by the places at which they begin, one behind the other, and with more entries.
pub mod Parts
pub mod Walks
pub mod Chain
pub mod Moves
pub mod Growing
