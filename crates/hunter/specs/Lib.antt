-- The call that hunts. Means: what its functions ask and promise of one another. The paper is in stream.
pub mod Contract
