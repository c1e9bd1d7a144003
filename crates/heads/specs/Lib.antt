-- The text of what a frame's header and a packet's say. docs/VECTORS.md, in place of the paper: Heads, all of it. No means.
pub mod Heads
