-- The judge where depth 0 stands for d.
use Rattle.std.specs.Prelude.{ℕ, List, ◌≡◌}
use Rattle.start_spec.specs.Paper.{Paper}
use Rattle.judge_spec.specs.Course.{default_depth, course_under}
use Rattle.judge_spec.specs.Judged.{Judgement, ending, judged, printing, printed}

unfoldable pub judged_under : ℕ → Paper → List ℕ → ℕ → Judgement
judged_under d s a room = ending s a room (course_under d s a)

unfoldable pub printed_under : ℕ → Paper → List ℕ → List ℕ
printed_under d s a = printing s a (course_under d s a)

-- the judge is the one under the new rule
unfoldable pub UnderTheNewRule : Type 0
UnderTheNewRule =
    (s : Paper) (a : List ℕ)
    → ((room : ℕ) → judged_under default_depth s a room ≡ judged s a room)
    × (printed_under default_depth s a ≡ printed s a)
