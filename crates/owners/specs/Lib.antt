-- The tally of the blocks' owners: a means.
pub mod Tally
