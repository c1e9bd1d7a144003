-- The premises of the demands are met by runs that can be written down (Guards).
pub mod Sending
pub mod Making
pub mod Packets
pub mod ReadOut
pub mod Losses
pub mod Guards
