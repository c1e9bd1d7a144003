-- What one whole packet does. The paper: Judge; Packets, in other words; of Contract `Whole` and `Watched`. Means: Ruling, the rest of
-- Contract.
pub mod Judge
pub mod Packets
pub mod Ruling
pub mod Contract
