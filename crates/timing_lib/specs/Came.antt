-- How far the three texts came: the walk, its mark and the configuration it came to, as the definition's course has them.
use Rattle.std.specs.Prelude.{ℕ, List, length}
use Rattle.model.specs.declared.Walked.{Walked}
use Rattle.judge_spec.specs.Judged.{Judgement, in_room}
use Rattle.timing_spec.specs.Timed.{marked_report}
use Rattle.words.specs.Words.{state_in}
use Rattle.step_walk.specs.Reached.{walked}
use Rattle.timing_clock.specs.declared.TimedWalk.{TimedWalk}

-- a walk that has come to what the words of the state say, and its mark
abbrev pub clocked_as : List ℕ → TimedWalk → Walked × ℕ
clocked_as ws w = (walked w.passed (state_in ws), w.mark)

-- the report with its mark of a walk that has come to what the words of the state say, and its judgement in a lent buffer
abbrev pub marked_in : TimedWalk → List ℕ → List ℕ
marked_in w ws = marked_report (walked w.passed (state_in ws)) w.mark

abbrev pub in_room_of : List ℕ → TimedWalk → List ℕ → List ℕ → Judgement
in_room_of lent w ws a = in_room (length lent) (walked w.passed (state_in ws)) (marked_in w ws) a
