-- The views through which every definition looks at the tables and the configuration, and the only updates of a configuration.
pub mod Empty
pub mod View
pub mod Verb
