-- The program that hunts through its input.

-- The paper (docs/STREAM.md, `hunt`): the command's words; the line that is said, but for `Tells`, which is a means.
pub mod Words
pub mod Said
-- Means: what is counted of an input.
pub mod Tally
