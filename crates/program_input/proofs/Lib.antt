-- A path's bytes one after the other (Laws).
pub mod Laws
