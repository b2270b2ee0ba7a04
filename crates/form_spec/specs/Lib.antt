-- What a form and a sheet say (Said), what says nothing or the same (Alike), what is written from them (Drafts), and that
-- the form of a sheet gives that very sheet (Round).
pub mod Said
pub mod Alike
pub mod Drafts
pub mod Round
