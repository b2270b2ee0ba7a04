-- Those of m that are behind are gathered.
use mathlib.Core.Path.{◌≡◌, ap₂, ◌∙◌}
use mathlib.Core.Bool.{Bool, true, false}
use mathlib.Core.Logic.{⊎_elim}
use lib.Dec.{eqb}
use borrow.Author.Rules.{rules}
use borrow.Author.Tests.{eq-eqb, ne_eqb}
use Rattle.sets.specs.Mask.{collect, with, least}
use Rattle.sets.proofs.Members.{Rest, rest-start, rest-later, left, left_less, behind, members-start, members-in, members-out, members-end}
use Rattle.rules_spec.specs.Instance.{ends_at}
use Rattle.words.specs.Words.{tables_in}
use Rattle.step_instance.specs.Alone.{end_of}
use Rattle.step_instance.proofs.ending_at.Statement.{statement}
use Rattle.step_instance.proofs.ending_at.Tie as tie

abbrev invariant-loop : tie.invariant-loop-rest
invariant-loop tables out k m p xs₀ rest₀ xs rest = Rest m rest × (xs ≡ collect 32 (behind m (λ x. eqb (end_of (tables_in tables) out k x) p) rest))

abbrev decreases-loop : tie.decreases-loop-rest
decreases-loop tables out k m p xs₀ rest₀ xs rest = left rest

loop-holds : tie.Need-loop-rest-init invariant-loop decreases-loop
loop-holds c = (rest-start c.args.m c.ranges.m.fits, members-start c.args.m _)

loop-less : tie.Need-loop-rest-smaller invariant-loop decreases-loop
loop-less c =
    let t = c in
    rw c.later-rest.ensures (left_less _ t.loop-rest.rest t.loop-rest.invariant.0 t.loop-rest-test.true)

-- the transition looked at
abbrev passed : tie.After-end_of invariant-loop decreases-loop → Bool → Type 0
passed e b =
    let a = e.args in
    eqb (end_of (tables_in a.tables.now) a.out a.k (least e.loop-rest.rest)) a.p ≡ b

own : (e : tie.After-end_of invariant-loop decreases-loop) (b : Bool) → eqb e.end_of.result e.args.p ≡ b → passed e b
own e b h = rw (← e.least-x.ensures, ← e.end_of.ensures) h

loop-again : tie.Need-loop-rest-preserved invariant-loop decreases-loop
loop-again c =
    let e = c in
    let t = c in
    let l = c.loop-rest in
    let some = c.loop-rest-test.true in
    rw c.later-rest.ensures (
      rest-later _ l.rest l.invariant.0 some,
      ⊎_elim
          (λ w. w.xs-is ∙ w.with-xs.ensures ∙ ap₂ with e.least-x.ensures l.invariant.1 ∙ members-in _ _ l.rest l.invariant.0 some (own c.before.before true (eq-eqb _ _ w.if-end_of-p.true)))
          (λ w. w.xs-is ∙ l.invariant.1 ∙ members-out _ _ l.rest l.invariant.0 some (own c.before.before false (ne_eqb _ _ w.if-end_of-p.false)))
          c.if-end_of-p.branch-raw,
    )

returns : tie.Need-returns invariant-loop decreases-loop
unfolding ends_at
returns c = let l = c.loop-rest in l.invariant.1 ∙ members-end _ _ l.rest c.loop-rest-test.false

pub ending_at_spec : {M : Type 1} → statement M
ending_at_spec =
    tie.close
    (tie.spec
    invariant-loop decreases-loop loop-holds (λ c κs. search rules) (λ c κs. search rules) (λ c κs. search rules) (λ c κs. search rules) loop-less
    loop-again returns)
