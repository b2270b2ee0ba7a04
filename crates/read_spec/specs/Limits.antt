-- Every limit of 01 (number 3) and every clause of number 4, each named once: the readers and the hall's number 7 cite them.
use Rattle.std.specs.Prelude.{ℕ, ◌^◌, Bool, ◌&&◌, ◌||◌, not, ltb, leb, eqb}
use Rattle.sets.specs.Mask.{overlaps}

-- "Numbers are decimal, one to five digits"; "Each text has at most 32,768 bytes"
abbrev pub five_digits : ℕ
five_digits = 5

abbrev pub length_ok : ℕ → Bool
length_ok n = leb n 32768

-- "`depth=D` (1 to 8, the queue depth; 0 stands for the default, 4)"; "`types=` (1 to 16)"
abbrev pub depth_ok : ℕ → Bool
depth_ok d = leb d 8

abbrev pub types_ok : ℕ → Bool
types_ok n = leb 1 n && leb n 16

-- for each type "`places=` (1 to 16)", "`transitions=` (0 to 32)", "`behaviors=` (0 to 8)", "`ports=` (0 to 16)"
abbrev pub places_ok : ℕ → Bool
places_ok n = leb 1 n && leb n 16

abbrev pub transitions_ok : ℕ → Bool
transitions_ok k = leb k 32

abbrev pub behaviors_ok : ℕ → Bool
behaviors_ok b = leb b 8

abbrev pub ports_ok : ℕ → Bool
ports_ok p = leb p 16

-- "`port=use,..` or `port=provide,..`": 1 and 0
abbrev pub kind_ok : ℕ → Bool
kind_ok u = leb u 1

-- "`program=` (0 to 256)"; "`steps=` (0 to 1,024)"
abbrev pub program_ok : ℕ → Bool
program_ok n = leb n 256

abbrev pub steps_ok : ℕ → Bool
steps_ok n = leb n 1024

-- "Inside a type, numbers lie below the counts of that type": a list, whose members are below `top`; the set of its members; a place
abbrev pub list_ok : ℕ → ℕ → Bool
list_ok n top = leb top n

abbrev pub mask_ok : ℕ → ℕ → Bool
mask_ok n m = ltb m (2 ^ n)

abbrev pub end_ok : ℕ → ℕ → Bool
end_ok n p = ltb p n

-- "Ids are 0 to 31. Inside `do` and `step` lines, places and ports run to 15, transitions to 31, behaviors to 7, types below the sheet's count."
abbrev pub id_ok : ℕ → Bool
id_ok i = leb i 31

abbrev pub place_ok : ℕ → Bool
place_ok p = leb p 15

abbrev pub port_ok : ℕ → Bool
port_ok q = leb q 15

abbrev pub transition_ok : ℕ → Bool
transition_ok x = leb x 31

abbrev pub behavior_ok : ℕ → Bool
behavior_ok b = leb b 7

-- "tickets 0 to 255, in sheets that open with `sheet=2`"
abbrev pub ticket_ok : ℕ → Bool
ticket_ok x = leb x 255

abbrev pub has_tickets : ℕ → Bool
has_tickets edition = eqb edition 2

abbrev pub edition_ok : ℕ → Bool
edition_ok edition = eqb edition 1 || has_tickets edition

abbrev pub type_ok : ℕ → ℕ → Bool
type_ok n k = ltb k n

-- 4: "`initial` empty; `tran` with source equal to destination; a use port whose group has an initial place"
abbrev pub initial_ok : ℕ → Bool
initial_ok initial = not (eqb initial 0)

abbrev pub ends_ok : ℕ → ℕ → Bool
ends_ok source destination = not (eqb source destination)

abbrev pub use_ok : ℕ → ℕ → Bool
use_ok initial places = not (overlaps initial places)
