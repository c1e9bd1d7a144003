-- The packet. All of it is the paper, but for `Bounded` in Header, which is a means.
-- Kinds of number, the header:
pub mod Kinds
pub mod Header
-- the header once more, and when it is bad, in its octets:
pub mod Plainly
