-- The program that prints a catalogue. The paper (docs/CATALOGUE.md, `printout`): Printed, what it prints; Promises, what is promised of that. Means:
-- Left, the list taken file by file.
pub mod Printed
pub mod Promises
pub mod Left
