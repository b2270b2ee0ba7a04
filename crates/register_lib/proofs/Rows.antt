-- What a row says, of what the judge, the timing and the outcome answered.
-- Assumes nothing.
use Prim.Native.Nat.{ℕ}
use mathlib.Core.Bool.{Bool, cond}
use mathlib.Core.List.{List}
use mathlib.Core.Path.{◌≡◌}
use Rattle.std.specs.declared.option.Option.{Option}
use Rattle.std.specs.declared.option.Option.TheVariants.{Some, None}
use Rattle.start_spec.specs.Paper.{Paper}
use Rattle.judge_spec.specs.declared.Verdict.{Verdict}
use Rattle.judge_spec.specs.declared.Place.{Place}
use Rattle.judge_spec.specs.Judged.{judged, lent_bytes}
use Rattle.timing_spec.specs.Timed.{timed}
use Rattle.outcome_spec.specs.declared.Outcome.{Outcome}
use Rattle.outcome_spec.specs.Outcome.{said_program, outcome_of}
use Rattle.register_spec.specs.declared.Row.{Row}
use Rattle.register_spec.specs.Row.{line_of, row_of}

pub row_is : (s : Paper) (b : Bool) (x a : List ℕ) {o : Outcome} {v : Verdict} {p : Place} {l n : ℕ} {m : Option ℕ} → l ≡ line_of o a v p → o ≡ outcome_of s a → v ≡ (judged s a lent_bytes).verdict
    → p ≡ (judged s a lent_bytes).place → n ≡ (said_program s.sheet).count → m ≡ cond b (Some (timed s a x lent_bytes).mark) None
    → ◌≡◌ {A = Row} (record {
      outcome = o;
      number = v.refused;
      port = v.port;
      line = l;
      accepted = v.accepted;
      next = v.next;
      program = n;
      mark = m;
    }) (row_of s b x a)
unfolding row_of
row_is s b x a li oi vi pi ni mi = rw (li, oi, vi, pi, ni, mi)
