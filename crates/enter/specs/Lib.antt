-- One file more in a catalogue. The paper is in `catalogue` (Entering). Means: Contract, what the functions of this crate hand to each other.
pub mod Contract
