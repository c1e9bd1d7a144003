-- Room: finding slots, taking blocks for a file and giving them back, and a file's octets. All of it is the paper.
pub mod Find
pub mod Move
pub mod File
