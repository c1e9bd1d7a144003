-- Laws of the header's records: the record that 23 refuses, the walk over a header, what is judged of it; that each answer says the
-- paper's number and values (Said); the theorems about whole headers (Together), and headers on both sides of each refusal (Examples).
pub mod Cuts
pub mod Reading
pub mod Naming
pub mod Walk
pub mod Finding
pub mod Marking
pub mod Passing
pub mod Answering
pub mod Said
pub mod Together
pub mod Plainly
pub mod Placing
pub mod Examples
