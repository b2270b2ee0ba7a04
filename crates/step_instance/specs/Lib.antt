-- What an instance has and may do by itself (Alone).
pub mod Alone
