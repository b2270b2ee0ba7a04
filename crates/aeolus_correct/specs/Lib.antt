-- The tests that are counted, as values (Tests), and among whom the users of a component are looked for (Users).
pub mod Tests
pub mod Users
