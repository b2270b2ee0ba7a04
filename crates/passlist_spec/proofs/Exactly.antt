-- Who is on the list.
-- Assumes nothing.
use Prim.Native.Nat.{ℕ, ◌≤◌}
use mathlib.Core.Bool.{true, false}
use mathlib.Core.Path.{◌≡◌, refl, sym, ap, ◌∙◌}
use native.Mathlib.Omega.{arith}
use borrow.Author.Tests.{leb-true, le-leb}
use lib.Dec.{leb}
use Rattle.item_spec.proofs.Tests.{by-test}
use Rattle.judge_spec.specs.Judged.{lent_bytes}
use Rattle.timing_spec.specs.Timed.{timed}
use Rattle.outcome_spec.specs.declared.Outcome.{Outcome}
use Rattle.outcome_spec.specs.declared.Outcome.TheVariants.{Done, Unfinished, Refused, Fault, OfPaper}
use Rattle.outcome_spec.specs.Outcome.{outcome_of}
use Rattle.register_spec.specs.Row.{row_of}
use Rattle.passlist_spec.specs.declared.Pass.TheVariants.{AtLeast, NoTimes}
use Rattle.std.specs.declared.option.Option.TheVariants as mark
use Rattle.passlist_spec.specs.declared.Standing.{Standing}
use Rattle.passlist_spec.specs.declared.Standing.TheVariants as stands
use Rattle.passlist_spec.specs.Listed.{place_of}
use Rattle.passlist_spec.specs.Claims.{PassesExactly, PassesWithoutTimes}
use Rattle.passlist_spec.proofs.Few.{marks-few}
use Rattle.passlist_spec.proofs.Read.{standing_for, row-stands}

-- one of any other standing didn't pass
other : {W : Type 0} {s : Standing} (n : ℕ) → place_of s ≡ n → 1 ≤ n → s ≡ stands.Passed → W
other n e h p = let z : n ≡ 0 = sym e ∙ ap place_of p in absurd (omega arith)

-- ---- with times

passed-so : (o : Outcome) (n m : ℕ) → standing_for (AtLeast n) o (mark.Some m) ≡ stands.Passed → (o ≡ Done) × (n ≤ m)
passed-so Done n m e = by-test (leb n m) (λ q. (refl, leb-true n m q)) (λ q. other 1 refl (omega arith) (rw q at e))
passed-so Unfinished n m e = other 2 refl (omega arith) e
passed-so Refused n m e = other 3 refl (omega arith) e
passed-so Fault n m e = other 4 refl (omega arith) e
passed-so OfPaper n m e = other 7 refl (omega arith) e

passes-so : (o : Outcome) (n m : ℕ) → o ≡ Done → n ≤ m → standing_for (AtLeast n) o (mark.Some m) ≡ stands.Passed
passes-so o n m e h = rw (e, le-leb n m h)

pub passes-exactly : PassesExactly
unfolding PassesExactly row_of
passes-exactly name s x a n =
    let e = row-stands (AtLeast n) name (row_of s true x a) (marks-few s a x lent_bytes) in
    (λ p. passed-so (outcome_of s a) n (timed s a x lent_bytes).mark (sym e ∙ p), λ d h. e ∙ passes-so (outcome_of s a) n (timed s a x lent_bytes).mark d h)

-- ---- without

passed-untimed : (o : Outcome) → standing_for NoTimes o mark.None ≡ stands.Passed → o ≡ Done
passed-untimed Done e = refl
passed-untimed Unfinished e = other 2 refl (omega arith) e
passed-untimed Refused e = other 3 refl (omega arith) e
passed-untimed Fault e = other 4 refl (omega arith) e
passed-untimed OfPaper e = other 7 refl (omega arith) e

pub passes-without-times : PassesWithoutTimes
unfolding PassesWithoutTimes row_of
passes-without-times name s x a =
    let e = row-stands NoTimes name (row_of s false x a) tt in
    (λ p. passed-untimed (outcome_of s a) (sym e ∙ p), λ d. e ∙ rw d)
