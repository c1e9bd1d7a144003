-- What a command of the trial script does, and what it prints. docs/TRIAL.md stands in place of the paper.
pub mod Calls
pub mod Printed
