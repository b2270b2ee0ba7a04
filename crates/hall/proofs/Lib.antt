pub mod Screen
pub mod Proper
pub mod Alike
pub mod Clauses
pub mod Slots
pub mod Once
pub mod Words
