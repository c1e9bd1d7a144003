-- Laws of what is shown: the lines one by one, and how much room they take.
pub mod Showing
