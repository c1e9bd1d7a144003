-- Laws that every crate above shares: of lists, of tests, of what holds below a bound, of tests that decide, of buffers after a run of stores,
-- of numbers in octets, read and written, of exclusive or, of blank stretches, of tables.
pub mod Lists
pub mod Tests
pub mod Below
pub mod Decide
pub mod Each
pub mod Put
pub mod Numbers
pub mod Storing
pub mod Signed
pub mod Xor
pub mod Zero
pub mod Table
pub mod Reasons
