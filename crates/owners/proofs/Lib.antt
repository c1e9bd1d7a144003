-- Laws of the tally: one block more, and what it tells of owners and slots.
pub mod Counts
