-- What a path's last part is (Last), and what a part of the list of names says (Listed).
pub mod Last
pub mod Listed
