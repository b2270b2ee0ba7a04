pub mod Laws
pub mod Items
pub mod Turns
pub mod Once
