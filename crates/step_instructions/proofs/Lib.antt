-- Slots zeroed one by one (Slots), what had been pushed before (Begun), and the instruction before a place (Pushes).
pub mod Slots
pub mod Begun
pub mod Pushes
