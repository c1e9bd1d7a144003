-- Laws of the catalogue: the list that its sections stand for, what is accepted exactly, and the loops that read it.
pub mod Lists
pub mod Exact
pub mod Walks
pub mod Counting
pub mod Judging
pub mod Asking
pub mod Examples
pub mod Lengths
pub mod Telling
pub mod Night
pub mod Promised
