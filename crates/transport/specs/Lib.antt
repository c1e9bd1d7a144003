-- The transport header: lengths, needs and shapes. All of it is the paper.
pub mod Length
pub mod Shape
pub mod Cases
