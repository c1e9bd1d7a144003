-- Laws of signs.
pub mod Signs
