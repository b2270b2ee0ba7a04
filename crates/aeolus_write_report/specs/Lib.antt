-- What a run came to, as the rules say it (Ran), and the next name for which there are bindings (Names).
pub mod Ran
pub mod Names
