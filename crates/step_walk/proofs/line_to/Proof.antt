use mathlib.Core.Path.{refl, ◌∙◌}
use Prim.Native.Nat.{◌<◌}
use lib.Dec.{eqb}
use Rattle.item_spec.proofs.Tests.{by-test}
use Rattle.model.specs.Verb.{wait_ticket_verb}
use Rattle.rules_spec.specs.Action.{instruction_action, effect}
use Rattle.step_walk.specs.Held.{held}
use borrow.Author.Rules.{rules}
use borrow.Author.Tests.{ne_eqb, lt-ltb}
use Rattle.step_walk.proofs.line_to.Statement.{statement}
use Rattle.step_walk.proofs.line_to.Tie as tie

-- a push without ticket is a word as it stands
number_fits : (s : tie.Start) → s.args.line.number < 4294967296
number_fits s = search rules

pub line_to_spec : {M : Type 1} → statement M
unfolding instruction_action effect held
line_to_spec =
    tie.close
    (tie.spec
    (λ c κs. search rules) (λ c κs. search rules) (λ c κs. search rules) (λ c κs. search rules) (λ c κs. search rules) (λ c κs. search rules)
    (λ c l room. rw c.in-0.is c.add_to.ensures) (λ c l room. rw c.in-1.is c.del_to.ensures)
    (λ c l room. let m = c.in-2.is in rw m (c.push_to.ensures ∙ rw (lt-ltb _ _ (rw m at room), lt-ltb _ _ (number_fits c.before.before.before)) refl))
    (λ c l room. let m = c.in-3.is in rw m c.connect.ensures) (λ c l room. rw c.in-4.is (c.disconnect.ensures _ _))
    (λ c l room. let m = c.in-6.is in rw m (c.push_ticket_to.ensures ∙ rw (lt-ltb _ _ (rw m at room)) refl))
    (λ c l room. let r = c.in_default.in_default-own.rest in
    rw (ne_eqb _ _ r.0.0.0.0.0.1, ne_eqb _ _ r.0.0.0.0.1, ne_eqb _ _ r.0.0.0.1, ne_eqb _ _ r.0.0.1, ne_eqb _ _ r.0.1, ne_eqb _ _ r.1)
    (by-test (eqb c.args.line.verb wait_ticket_verb) (λ w. rw w) (λ w. rw w))))
