-- What is asked of a number by cases (Numbers), loops over the members of a set (Members), one search of a type's names (Places), and the users of a
-- component (Users).
pub mod Numbers
pub mod Members
pub mod Places
pub mod Users
