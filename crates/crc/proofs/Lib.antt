-- The laws of the packets' check, that the register is linear, the part that each octet has in it, and which polynomial it is.
pub mod Laws
pub mod Linear
pub mod Parts
pub mod Examples
