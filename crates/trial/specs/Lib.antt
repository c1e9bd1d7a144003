-- A command and its payload, as they come: means.
pub mod Fetch
