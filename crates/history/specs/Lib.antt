-- Every run of the station, and what the demands say of it.

-- The demands, one statement, and what they are made of.
pub mod Demands
pub mod Calls
pub mod Files
pub mod Store
pub mod Sorted
pub mod Freed
pub mod Openings
pub mod Heard
pub mod Events
pub mod Headers
-- What these speak of: a run, and the list of what happened in it.
pub mod Run
pub mod Things
pub mod Follow
pub mod Ledger
