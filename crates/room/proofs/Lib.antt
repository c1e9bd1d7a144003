-- Laws of room: of blocks that change their owner, of the searches, and that the moves keep the state sound.
pub mod Given
pub mod Find
pub mod Keeps
