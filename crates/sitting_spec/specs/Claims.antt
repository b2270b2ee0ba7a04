-- What is claimed of a candidate's lines: whatever the name and the answer hold, no byte of theirs begins a line. Proved in proofs/Claims.
use Rattle.std.specs.Prelude.{ℕ, List, ◌≡◌}
use Rattle.read_spec.specs.Place.{lfs}
use Rattle.start_spec.specs.Paper.{Paper}
use Rattle.sitting_spec.specs.Block.{end_text}
use Rattle.sitting_spec.specs.Plan.{plan_end}
use Rattle.sitting_spec.specs.Candidate.{name_text}

-- "seven lines at a block's end"
unfoldable pub SevenLines : Type 0
SevenLines = (s : Paper) (a : List ℕ) → lfs (end_text s a) ≡ 7

unfoldable pub SevenLinesOfPlans : Type 0
SevenLinesOfPlans = (s a : List ℕ) → lfs (plan_end s a) ≡ 7

unfoldable pub NamesAreLines : Type 0
NamesAreLines = (name : List ℕ) → lfs (name_text name) ≡ 1
