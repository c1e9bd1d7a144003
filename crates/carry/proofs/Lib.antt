-- Laws of a frame's beginning: the packet that was held, and what comes of a frame in each case.
pub mod Carry
