-- Laws of the call that hunts: the test of a hunter, the frame behind a marker, and the ways through the search.
pub mod Judging
pub mod Filling
pub mod Hunting
