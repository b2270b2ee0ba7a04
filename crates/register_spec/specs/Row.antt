-- What a row of the register says of an answer on a paper: the numbers are the judge's, the mark is the timing's.
use Rattle.std.specs.Prelude.{ℕ, Bool, cond, List}
use Rattle.std.specs.declared.option.Option.{Option}
use Rattle.std.specs.declared.option.Option.TheVariants.{Some, None}
use Rattle.read_spec.specs.Place.{line_number}
use Rattle.start_spec.specs.Paper.{Paper}
use Rattle.judge_spec.specs.declared.Verdict.{Verdict}
use Rattle.judge_spec.specs.declared.Place.{Place}
use Rattle.judge_spec.specs.Judged.{judged, lent_bytes}
use Rattle.timing_spec.specs.Timed.{timed}
use Rattle.outcome_spec.specs.declared.Outcome.{Outcome}
use Rattle.outcome_spec.specs.declared.Outcome.TheVariants.{Done, Unfinished, Refused, Fault, OfPaper}
use Rattle.outcome_spec.specs.Outcome.{said_program, outcome_of}
use Rattle.register_spec.specs.declared.Row.{Row}

-- 01: "for a step, its line", at the judge's place; of a text at fault the verdict tells it
abbrev pub line_of : Outcome → List ℕ → Verdict → Place → ℕ
line_of Done a v p = v.line
line_of Unfinished a v p = v.line
line_of Refused a v p = line_number a p.start
line_of Fault a v p = v.line
line_of OfPaper a v p = v.line

-- with this verdict, this place and this mark
abbrev pub row_with : Paper → List ℕ → Verdict → Place → Option ℕ → Row
row_with s a v p m = record {
  outcome = outcome_of s a;
  number = v.refused;
  port = v.port;
  line = line_of (outcome_of s a) a v p;
  accepted = v.accepted;
  next = v.next;
  program = (said_program s.sheet).count;
  mark = m;
}

-- x are the times, where there are some
unfoldable pub row_of : Paper → Bool → List ℕ → List ℕ → Row
row_of s b x a = row_with s a (judged s a lent_bytes).verdict (judged s a lent_bytes).place (cond b (Some (timed s a x lent_bytes).mark) None)
