-- Sections of entries of fixed widths. The paper: a section written, and sections behind each other. Means: how they are read back, `whole` and
-- `whole_by`, whether octets are just so many sections, and `Fits`, `AllFit`, `Sections`, that each number has room.
pub mod Sections
