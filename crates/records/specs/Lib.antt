-- Header records. The paper: Table, the fixed types; Records, the list of a header's records with its refusals; Reader, what the reader
-- answers; Answers, the same in the paper's numbers and values; Together, what an accepted header has; Plainly, the fields in their octets.
-- Means: in Reader `Fine` and `StandsWhole`, what the reader's own functions ask of one another.
pub mod Table
pub mod Records
pub mod Reader
pub mod Answers
pub mod Together
pub mod Plainly
