-- A paper alone is refused as the judge refuses it.
use Rattle.std.specs.Prelude.{true, List, ◌≡◌, ℕ, length}
use Rattle.model.specs.declared.Text.{Text}
use Rattle.read_spec.specs.Limits.{length_ok}
use Rattle.start_spec.specs.Paper.{Paper}
use Rattle.judge_spec.specs.Course.{faulty, paper_course, course}

-- a fault of the sheet or of the start is the judge's, beside every answer that is not too long
unfoldable pub RefusedAsJudged : Type 0
RefusedAsJudged =
    (s : Paper) (a : List ℕ) (x : Text) (n at : ℕ) → length_ok (length a) ≡ true → paper_course s ≡ faulty x n at → course s a ≡ faulty x n at
