-- The raw stream: its frames, the hunter that it is fed to, and what is promised of both.

-- The paper: request 1/14, and Plainly, the stream once more by the places in it.
pub mod Stream
pub mod Hunter
pub mod Feed
pub mod Plainly
pub mod Promises
-- Means: the loop over a portion.
pub mod Seek
