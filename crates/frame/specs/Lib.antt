-- The frame. All of it is the paper, but for `Bounded` in Header and `plain_after` in Refusals, which are means.
-- Kinds of number, the header, refusals 3 to 9:
pub mod Kinds
pub mod Header
pub mod Refusals
-- the header once more, in the octets as they came:
pub mod Plainly
