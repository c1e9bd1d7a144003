-- The trial script: its commands, the memory that they work on, and what M, P and Q do to it. docs/TRIAL.md stands in place of the paper.
pub mod Script
pub mod Pokes
pub mod Memory
-- and a script that is read whole, for the programs that have one: docs/STREAM.md and docs/CATALOGUE.md in place of the paper
pub mod Follow
