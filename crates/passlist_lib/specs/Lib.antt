-- What the readers of cells say (Says).
pub mod Says
