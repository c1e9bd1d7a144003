-- Laws of the lengths of a file, which the crates above cite, and lengths that are computed (Examples).
pub mod Length
pub mod Begins
pub mod Examples
