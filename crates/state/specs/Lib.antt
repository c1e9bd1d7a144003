-- The station's state: slots, blocks, and when it is sound. The paper: Slots, Blocks, Sound; of Decision `good_channels`; Plainly: an octet
-- behind a desk's, in the desks as lent. Means: the rest of Decision.
pub mod Slots
pub mod Blocks
pub mod Sound
pub mod Decision
pub mod Plainly
