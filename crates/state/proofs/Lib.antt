-- Laws of the state: of the blocks that a table gives to an owner, that the tests of soundness are exact, what soundness says of places and
-- the types of slots; and of loops that go through a list, turn by turn.
pub mod Blocks
pub mod Exactly
pub mod Plainly
pub mod Places
pub mod Fits
pub mod Walk
