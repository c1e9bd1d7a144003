-- That the words choose what the page has them choose; and laws that the program leans on: of a portion fed call by call, of what is counted over all
-- portions.
pub mod Digits
pub mod Portions
pub mod Counting
