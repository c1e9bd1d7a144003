-- The vectors program. docs/VECTORS.md, in place of the paper: Digits and Question, what is asked; Answers, what is answered; in Kept
-- `line_printed` and `script_printed`, what is printed of a line and of a script. Means: the rest of Kept, a line while its octets come.
pub mod Digits
pub mod Question
pub mod Answers
pub mod Kept
