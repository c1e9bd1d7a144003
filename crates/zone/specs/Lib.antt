-- From a frame's zone to packets, and what they do one after the other. The paper: Zone, Walk. Means: Contract.
pub mod Zone
pub mod Walk
pub mod Contract
