-- Whether a report has room, known before its first byte is written.
use Rattle.std.specs.Prelude.{ℕ, ◌≤◌, ◌<◌, Bool, ◌||◌, List, leb, length}
use Rattle.judge_spec.specs.Judged.{lent_bytes}
use Rattle.step_walk.specs.declared.Passed.{Passed}

-- n bytes have room; "It lends 8,192 bytes, and 6 is shown never to occur there"
abbrev pub room_for : ℕ → ℕ → Bool
room_for n room = leb lent_bytes room || leb n room

-- what a walk of texts that are read keeps to, with its report r: so many bytes, and a number that is one of 01's
pub record Short (w : Passed) (r : List ℕ) : Type 0 where
  pub few : length r ≤ lent_bytes
  pub small : w.refused < 256
