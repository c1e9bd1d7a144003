-- Laws of the frame for the crates above: where a channel stands, what the constructors make, which counter follows, the fields of the header,
-- the pointer's meaning, when a frame has its size and its marker, when each answer is given, how long the parts of a frame are,
-- and the header in the octets as they came.
pub mod Desks
pub mod Made
pub mod Counting
pub mod Fields
pub mod Pointers
pub mod Framing
pub mod Answers
pub mod Sizes
pub mod Plainly
