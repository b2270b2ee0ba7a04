-- What one word put does to what the words say (Puts), the first of its kind (Find), and that what the words say tells them all (Told).
pub mod Puts
pub mod Find
pub mod Told
