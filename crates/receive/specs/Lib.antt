-- The program. The paper: Told, what it prints.
pub mod Told
