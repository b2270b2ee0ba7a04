-- The use ports of a table one by one (Servers).
pub mod Servers
