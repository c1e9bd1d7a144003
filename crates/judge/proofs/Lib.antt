-- Laws of the packet that is judged: its cases, the events as the list holds them, how few they are, what stays and stays sound, what each
-- slot goes through, the exact condition of each event, and what the functions' proofs are made of.
pub mod Parts
pub mod Flat
pub mod Few
pub mod Keeps
pub mod Most
pub mod Steps
pub mod Exact
pub mod Rulings
pub mod Reading
