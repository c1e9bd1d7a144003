-- The desk behind a walk. Means: Contract.
pub mod Contract
