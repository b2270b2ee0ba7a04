-- How far the texts came: the order of what is looked at, and the definition's course, with a text's fault or with none.
use Rattle.std.specs.Prelude.{ℕ, List, Bool, false, cond, ltb, eqb, length, Result, Ok, Err}
use Rattle.model.specs.declared.Text.{Text}
use Rattle.model.specs.declared.Text.TheVariants as text
use Rattle.model.specs.declared.Tables.{Tables}
use Rattle.model.specs.declared.Begun.{Begun}
use Rattle.model.specs.declared.Configuration.{Configuration}
use Rattle.model.specs.Empty.{start, none_begun}
use Rattle.report_spec.specs.Report.{report}
use Rattle.read_chain.specs.declared.Place.{Place}
use Rattle.read_chain.specs.Whole.{Whole}
use Rattle.read_start.specs.Start.{start_read}
use Rattle.judge_spec.specs.Course.{Course, faulty, reached}
use Rattle.judge_spec.specs.Judged.{Judgement, paper_text, after_fault, in_room}
use Rattle.words.specs.Words.{state_in}
use Rattle.step_walk.specs.declared.Passed.{Passed}
use Rattle.step_walk.specs.Reached.{walked}
use Rattle.judge_lib.specs.declared.pairs.TextFault.{TextFault}
use Rattle.judge_lib.specs.declared.pairs.Opened.{Opened}
use Rattle.start_spec.specs.Paper.{Beginning, nothing, given, Paper}

-- a text is refused, or all are read
abbrev pub Outcome : Type 0
Outcome = Result (Unit {0}) TextFault

-- text x is refused with n at a place of it
abbrev pub refused_in : Text → ℕ → ℕ → Outcome
refused_in x n at = Err (record { text = x; refused = n; at = at })

-- the course, with what f makes of the value where all are read
abbrev pub came : {A B : Type 0} → Result A TextFault → (A → B) → Course B
came (Err e) f = faulty e.text e.refused e.at
came (Ok x) f = reached (f x)

-- what a reader answered beside the value
abbrev pub answered : {A : Type 0} → Whole A → Place
answered r = record { refused = r.refused; place = r.place }

-- "with 1 past 8,192 bytes"
abbrev pub start_long : Beginning → Bool
start_long nothing = false
start_long (given x) = ltb 8192 (length x)

-- "with 1" where a text is too long
abbrev pub short_as : Text → Bool → Outcome
short_as x long = cond long (refused_in x 1 0) (Ok tt)

-- what the reader of a text answered
abbrev pub read_as : Text → Place → Outcome
read_as x p = cond (eqb p.refused 0) (Ok tt) (refused_in x p.refused p.place)

-- the first of two that is refused
abbrev pub and_then : Outcome → Outcome → Outcome
and_then (Err e) o = Err e
and_then (Ok x) o = o

-- "The three lengths come first (sheet, start, answer), then the lines in that order", of a sheet and an answer of m and n bytes
unfoldable pub outcome_of : ℕ → Opened → ℕ → Place → Outcome
outcome_of m o n a =
    and_then (short_as text.Sheet (ltb 32768 m))
    (and_then (short_as text.Start o.long)
    (and_then (short_as text.Answer (ltb 32768 n))
    (and_then (read_as text.Sheet o.sheet)
    (and_then (read_as text.Start o.start)
    (read_as text.Answer a)))))

-- where a paper begins, of a start where there is one: "no file: nothing up"
unfoldable pub begin_read : ℕ → ℕ → Tables → Beginning → Whole (Configuration × Begun)
begin_read e d t nothing = record { refused = 0; place = 0; value = (start, none_begun) }
begin_read e d t (given s) = start_read e d t s

-- a sheet with no start beside it
abbrev pub alone_as : Place → Opened
alone_as p = record { sheet = p; long = false; start = record { refused = 0; place = 0 } }

-- what the readers of a sheet and of a start answered, which is too long or not
abbrev pub opened_as : {A B : Type 0} → Whole A → Bool → Whole B → Opened
opened_as r l b = record { sheet = answered r; long = l; start = answered b }

-- the report of a walk that has come to what the words of the state say
abbrev pub report_in : Passed → List ℕ → List ℕ
report_in w ws = report (walked w (state_in ws))

-- the judgement of a walk in a lent buffer
abbrev pub in_room_of : List ℕ → Passed → List ℕ → List ℕ → Judgement
in_room_of lent w ws a = in_room (length lent) (walked w (state_in ws)) (report_in w ws) a

-- the judgement of a paper and an answer of which a text is at fault
abbrev pub fault_judged : Paper → List ℕ → TextFault → Judgement
fault_judged s a e = after_fault e.text e.refused e.at (paper_text e.text s a)
