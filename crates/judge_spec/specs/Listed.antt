-- What was judged and printed while the connections stood in a list: the old side of `EachReportIsTheSame`.
use Rattle.std.specs.Prelude.{ℕ, List, ◌≡◌}
use Rattle.model.specs.View.{steps_of}
use Rattle.rules_spec.specs.Listed.{listed_start, ListedWalked, listed_walk}
use Rattle.report_spec.specs.Faults.{fault_text}
use Rattle.report_spec.specs.Listed.{unlisted_walked, listed_report}
use Rattle.start_spec.specs.Paper.{nothing_up}
use Rattle.judge_spec.specs.Course.{Course, faulty, reached, ◌>>=◌, default_depth, all_under}
use Rattle.judge_spec.specs.Judged.{Judgement, paper_text, fault_line, after_fault, in_room, judged, printed, lent_bytes}

unfoldable pub listed_course : List ℕ → List ℕ → Course ListedWalked
listed_course s a = do
  (t, p, c, y) ← all_under default_depth (nothing_up s) a
  reached (listed_walk default_depth t p listed_start (steps_of y))

unfoldable pub listed_ending : List ℕ → List ℕ → ℕ → Course ListedWalked → Judgement
listed_ending s a room (faulty x n at) = after_fault x n at (paper_text x (nothing_up s) a)
listed_ending s a room (reached v) = in_room room (unlisted_walked v) (listed_report v) a

unfoldable pub listed_judged : List ℕ → List ℕ → ℕ → Judgement
listed_judged s a room = listed_ending s a room (listed_course s a)

unfoldable pub listed_printing : List ℕ → List ℕ → Course ListedWalked → List ℕ
listed_printing s a (faulty x n at) = fault_text x (fault_line n at (paper_text x (nothing_up s) a)) n
listed_printing s a (reached v) = (in_room lent_bytes (unlisted_walked v) (listed_report v) a).bytes

unfoldable pub listed_printed : List ℕ → List ℕ → List ℕ
listed_printed s a = listed_printing s a (listed_course s a)

-- whatever the two texts are: the same bytes are printed
unfoldable pub EachReportIsTheSame : Type 0
EachReportIsTheSame = (s a : List ℕ) → listed_printed s a ≡ printed (nothing_up s) a

-- and in any room the verdict, the bytes written and the place are the same
unfoldable pub EachJudgementIsTheSame : Type 0
EachJudgementIsTheSame = (s a : List ℕ) (room : ℕ) → listed_judged s a room ≡ judged (nothing_up s) a room
