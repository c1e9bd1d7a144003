-- Pieces of text, and a piece in a lent buffer. All of it is the paper, but for `Written` in Pieces, which is a means.
pub mod Pieces
pub mod Lines
