-- Means: runs of real frames, which show that no demand is empty.
pub mod Sent
pub mod Losses
pub mod Guards
