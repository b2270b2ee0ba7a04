-- Shams of the mark, each with one thing changed: one that is always 1,000, one whose halves go up, one that rounds at each step. Each is
-- held against the promise, on three texts where every step is allowed.
use Rattle.std.specs.Prelude.{ℕ, ◌+◌, ◌*◌, ◌/◌, ◌<◌, ◌≤◌, min, cond, List, ◌≡◌, eqb, length}
use Rattle.model.specs.declared.Tables.{Tables}
use Rattle.model.specs.declared.Program.{Program}
use Rattle.model.specs.declared.Answer.{Answer}
use Rattle.model.specs.declared.Text.TheVariants as text
use Rattle.model.specs.declared.Walked.{Walked}
use Rattle.model.specs.declared.Configuration.{Configuration}
use Rattle.model.specs.View.{steps_of}
use Rattle.rules_spec.specs.Step.{step}
use Rattle.rules_spec.specs.Walk.{beside_by, walk_from}
use Rattle.start_spec.specs.Paper.{Paper}
use Rattle.judge_spec.specs.Course.{Course, reached, ◌>>=◌, ◌>>◌, short, read, all_under, default_depth}
use Rattle.judge_spec.specs.Judged.{over, lent_bytes}
use Rattle.times_spec.specs.declared.Times.{Times}
use Rattle.times_spec.specs.Text.{times}
use Rattle.timing_spec.specs.declared.Timed.{Timed}
use Rattle.timing_spec.specs.Clock.{tick_by, at_start}
use Rattle.timing_spec.specs.Mark.{mark_of}
use Rattle.timing_spec.specs.Timed.{Marked, timed_ending, timed}
use Rattle.timing_spec.specs.Once.{TimedPromised}

-- what a clock shows of the time that an `end` comes to, and the mark of a par and a clock
pub record Marking : Type 0 where
  pub shown : ℕ → ℕ
  pub marks : ℕ → ℕ → ℕ

-- C-14's own
abbrev pub marked_as_ruled : Marking
marked_as_ruled = record { shown = λ n. n; marks = mark_of }

-- the timing of three texts by a marking, in all else as ruled
unfoldable pub clock_by : Marking → Tables → Program → Configuration → Answer → Times → ℕ
clock_by m t p c y ts = (beside_by (step default_depth t p) (tick_by m.shown ts) c (steps_of y) at_start).now

unfoldable pub course_by : Marking → Paper → List ℕ → List ℕ → Course (Walked × ℕ)
course_by m s a x = do
  (t, p, c, y) ← all_under default_depth s a
  short text.Times x
  ts ← read text.Times times x
  reached (walk_from default_depth t p c y, cond (eqb (walk_from default_depth t p c y).refused 0) (m.marks ts.par (clock_by m t p c y ts)) 0)

unfoldable pub timed_by : Marking → Paper → List ℕ → List ℕ → ℕ → Marked
timed_by m s a x room = timed_ending s a x room (course_by m s a x)

-- with nothing changed it is the rule, so a sham differs from the rule in its own notion alone
unfoldable pub MarkedAsRuledIsTheRule : Type 0
MarkedAsRuledIsTheRule = (s : Paper) (a x : List ℕ) (room : ℕ) → timed_by marked_as_ruled s a x room ≡ timed s a x room

-- always the full mark
abbrev pub always_full : Marking
always_full = record { shown = λ n. n; marks = λ par clock. 1000 }

-- halves go up
abbrev pub halves_up : Marking
halves_up = record { shown = λ n. n; marks = λ par clock. cond (eqb clock 0) 1000 (min 1000 ((2000 * par + clock) / (2 * clock))) }

-- rounded at each step: an `end` leaves the clock at the nearest ten seconds, halves going down
abbrev pub to_tens : ℕ → ℕ
to_tens n = (n + 4) / 10 * 10

abbrev pub rounds_each_step : Marking
rounds_each_step = record { shown = to_tens; marks = mark_of }

-- three texts, all steps allowed, where what the sham makes of them and of any buffer of 8,192 bytes is not what is promised
abbrev pub ToldApart : Marking → Type 0
ToldApart m =
    (s : Paper) × (a : List ℕ) × (x : List ℕ)
    × ((timed s a x lent_bytes).judgement.verdict.refused ≡ 0)
    × ((old : List ℕ) → length old ≡ lent_bytes → let j = timed_by m s a x lent_bytes in
    ¬ TimedPromised s a x old (record { verdict = j.judgement.verdict; mark = j.mark }) (over j.judgement.bytes old) j.judgement.place)

unfoldable pub ShamsToldApart : Type 0
ShamsToldApart = ToldApart always_full × ToldApart halves_up × ToldApart rounds_each_step

-- "rounding at each step has lifted failing marks over the pass line": a pass line, and a mark that fails by the rule and passes so
abbrev pub pass_line : ℕ
pass_line = 500

unfoldable pub RoundingLifts : Type 0
RoundingLifts =
    (s : Paper) × (a : List ℕ) × (x : List ℕ)
    × ((timed s a x lent_bytes).judgement.verdict.refused ≡ 0) × ((timed s a x lent_bytes).mark < pass_line) × (pass_line ≤ (timed_by rounds_each_step s a x lent_bytes).mark)
