-- Laws that the program leans on: the list taken file by file, the lines one behind the other, the whole text. And what is promised of the text; the
-- page's example.
pub mod Taking
pub mod Lines
pub mod Whole
pub mod Promised
pub mod Examples
