-- Those that are behind and have z as a target are gathered.
use mathlib.Core.Path.{◌≡◌, sym, ap₂, ◌∙◌}
use mathlib.Core.Bool.{Bool, true, false}
use mathlib.Core.Logic.{⊎_elim}
use native.Mathlib.Omega.{arith}
use lib.ListN.{get_or}
use Rattle.sets.specs.Mask.{member, collect, with, least}
use Rattle.sets.proofs.Members.{Rest, rest-start, rest-later, left, left_less, least_lt, behind, members-start, members-in, members-out, members-end}
use borrow.Author.Rules.{rules}
use Rattle.aeolus_correct.proofs.users_of.Statement.{statement}
use Rattle.aeolus_correct.proofs.users_of.Tie as tie

abbrev invariant-loop : tie.invariant-loop-rest
invariant-loop deployed targets m z all users₀ rest₀ users rest = Rest all rest × (users ≡ collect 32 (behind all (λ y. member z (get_or targets y 0)) rest))

abbrev decreases-loop : tie.decreases-loop-rest
decreases-loop deployed targets m z all users₀ rest₀ users rest = left rest

loop-holds : tie.Need-loop-rest-init invariant-loop decreases-loop
loop-holds c = (rest-start c.present-all.result c.present-all.type_inv, members-start c.present-all.result _)

inside : tie.Need-bounds-targets-y invariant-loop decreases-loop
inside c =
    let t = c in
    omega (arith, c.least-y.ensures, least_lt _ t.loop-rest.rest t.loop-rest.invariant.0 t.loop-rest-test.true)

loop-less : tie.Need-loop-rest-smaller invariant-loop decreases-loop
loop-less c =
    let t = c in
    rw c.later-rest.ensures (left_less _ t.loop-rest.rest t.loop-rest.invariant.0 t.loop-rest-test.true)

-- whether the component looked at has z as a target
own : (e : tie.After-member invariant-loop decreases-loop) (b : Bool) → e.member.result ≡ b
    → member e.args.z (get_or e.args.targets.now (least e.loop-rest.rest) 0) ≡ b
own e b h = rw (← e.least-y.ensures) (sym e.member.ensures ∙ h)

loop-again : tie.Need-loop-rest-preserved invariant-loop decreases-loop
loop-again c =
    let e = c in
    let t = c in
    let l = c.loop-rest in
    let some = c.loop-rest-test.true in
    rw c.later-rest.ensures (
      rest-later _ l.rest l.invariant.0 some,
      ⊎_elim
          (λ w. w.users-is ∙ w.with-users.ensures ∙ ap₂ with e.least-y.ensures l.invariant.1 ∙ members-in _ _ l.rest l.invariant.0 some (own c.before.before true w.if-member.true))
          (λ w. w.users-is ∙ l.invariant.1 ∙ members-out _ _ l.rest l.invariant.0 some (own c.before.before false w.if-member.false))
          c.if-member.branch-raw,
    )

returns-2 : tie.Need-returns invariant-loop decreases-loop
returns-2 c =
    let l = c.loop-rest in
    λ e. rw (← c.present-all.ensures) (l.invariant.1 ∙ members-end _ _ l.rest c.loop-rest-test.false)

pub users_of_spec : {M : Type 1} → statement M
users_of_spec =
    tie.close
    (tie.spec
    invariant-loop decreases-loop (λ c e. absurd (c.if-m-ne0.true e)) (λ c κs. search rules) loop-holds (λ c κs. search rules) (λ c. search rules)
    (λ c. search rules) inside (λ c κs. search rules) (λ c κs. search rules) (λ c κs. search rules) loop-less loop-again returns-2)
