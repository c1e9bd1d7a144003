-- What is shown of a station: docs/TRIAL.md stands in place of the paper.
pub mod Shown
