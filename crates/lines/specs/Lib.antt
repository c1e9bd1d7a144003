-- Whole lines of text. All of it is the paper.
pub mod Lines
