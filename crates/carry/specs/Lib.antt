-- How a frame begins. Means: Contract.
pub mod Contract
