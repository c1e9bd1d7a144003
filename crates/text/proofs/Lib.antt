-- Laws of pieces of text: how many digits a number takes, its decimal digits, pieces that follow one another.
pub mod Places
pub mod Decimals
pub mod Following
