-- Laws of the zone: the packets in it, where reading goes on in a frame, the sequel of a held packet, the desk set in order, the walk turn by turn,
-- and all that a frame keeps.
pub mod Split
pub mod Readings
pub mod Sequels
pub mod Desks
pub mod Walks
pub mod Turns
