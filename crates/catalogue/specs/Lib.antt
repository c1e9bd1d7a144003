-- The catalogue of the night. The paper: Catalogue, what is written for a list of files, up to `Catalogue`; Asking, the questions; Entering, one file
-- more, with its refusals; Answers, the answers' numbers and values; Night, a whole night; Promises, what is promised of all that. Means: the rest of
-- Catalogue, the tests by which it is read, proved to accept exactly that; Reading.
pub mod Catalogue
pub mod Asking
pub mod Entering
pub mod Answers
pub mod Reading
pub mod Night
pub mod Promises
