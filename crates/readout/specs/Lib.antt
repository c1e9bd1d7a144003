-- The text of what the reader of header records answers. docs/VECTORS.md, in place of the paper: Readout, all of it. No means.
pub mod Readout
