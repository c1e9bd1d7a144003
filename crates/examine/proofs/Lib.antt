-- The marker's four octets, compared as one number.
pub mod Marks
