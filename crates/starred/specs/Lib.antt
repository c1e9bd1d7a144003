-- The starred cases. All of it is the paper.
pub mod Cases
