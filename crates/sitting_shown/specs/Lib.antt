-- What a marker is shown of a candidate's bytes (Shown), what holds of it (Readable), and the place of a line (Place).
pub mod Shown
pub mod Readable
pub mod Place
