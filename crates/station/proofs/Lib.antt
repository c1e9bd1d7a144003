-- Laws of the calls: of a fresh station, of a slot that is asked for, of what reasons in order decide, of what each call gives back, of the
-- channel of a frame's desk, of the file counter, and the wild cases.
pub mod Fresh
pub mod Asking
pub mod Decided
pub mod Calls
pub mod Sorted
pub mod Counters
pub mod Frames
pub mod Handed
pub mod Wild
