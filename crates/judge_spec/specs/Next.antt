-- Where an answer ends, as the start of another paper, so that a long paper can be cut in two: what `start-from` prints.
use Rattle.std.specs.Prelude.{ℕ, ◌≤◌, List, [], true, false, ◌≡◌, eqb, length}
use Rattle.model.specs.declared.Program.{Program}
use Rattle.model.specs.declared.Walked.{Walked}
use Rattle.read_spec.specs.Limits.{has_tickets}
use Rattle.rules_spec.specs.Walk.{walk_from}
use Rattle.start_spec.specs.Paper.{Paper}
use Rattle.start_spec.specs.Round.{plain_start, start_of}
use Rattle.judge_spec.specs.Course.{Course, faulty, reached, ◌>>=◌, default_depth, all_under}
use Rattle.judge_spec.specs.Judged.{lent_bytes}

-- the course, and beside the walk its program, with what had been pushed before the first line
unfoldable pub whole_course : Paper → List ℕ → Course (Program × Walked)
whole_course s a = do
  (t, p, c, y) ← all_under default_depth s a
  reached (p, walk_from default_depth t p c y)

-- the start's bytes, with the last tickets where there are tickets: none where a text or a step is refused
unfoldable pub next_of : Course (Program × Walked) → List ℕ
next_of (faulty x n at) = []
next_of (reached x) = elim (eqb x.1.refused 0) [ true ↦ start_of x.0 x.1.configuration | false ↦ [] ]

unfoldable pub next_start : Paper → List ℕ → List ℕ
next_start s a = next_of (whole_course s a)

-- "with 1 past 8,192 bytes": it has no more, whatever the texts are
unfoldable pub NextStartsFit : Type 0
NextStartsFit = (s : Paper) (a : List ℕ) → length (next_start s a) ≤ lent_bytes

-- in a sheet without tickets it is the report's lines as they are
unfoldable pub PlainNextStarts : Type 0
PlainNextStarts =
    (p : Program) (w : Walked) → has_tickets p.edition ≡ false
    → next_of (reached (p, w)) ≡ elim (eqb w.refused 0) [ true ↦ plain_start w.configuration | false ↦ [] ]
