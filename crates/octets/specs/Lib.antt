-- Octets: what a test decides, numbers in octets, buffers after a run of stores, and tables by a rule.

-- The paper: numbers most significant octet first, and "the lowest number that applies".
pub mod Number
pub mod Reasons
-- Means: words that all other definitions use.
pub mod Choice
pub mod Buffer
pub mod Each
pub mod Table
