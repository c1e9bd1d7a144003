-- The starred cases are right.
pub mod Starred
