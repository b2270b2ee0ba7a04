-- The rules of the Aeolus paper: its numbers (Refusal), document 003's definitions 3 (Correct as a test, Definition3 in its own words) and 5 (an
-- action a file, Action), the run of a plan (Run), definitions 1, 2, 5 and 7, and what is proved of them. A component is one of 003's resources.
-- Components are z and y, interfaces r and p, types k, states q, places of interfaces in a type j; m is one of D(q)'s three maps.
pub mod Definition1
pub mod Refusal
pub mod Correct
pub mod New
pub mod Del
pub mod Change
pub mod Bind
pub mod Unbind
pub mod Action
pub mod Run
pub mod Definition2
pub mod Definition3
pub mod Definition7
pub mod Definition5
pub mod Refused
