-- What is claimed of every page (Claims, Ascii, Room), and how a page's text is put together (Texts).
pub mod Claims
pub mod Texts
pub mod Ascii
pub mod Room
