use borrow.Author.Tests.{eq-eqb, ne_eqb, lt-ltb, le-ltb}
use borrow.Author.Rules.{rules}
use Rattle.model_walk_lib.specs.Turns.{on_instance, ordered_at}
use Rattle.model_walk_lib.proofs.turns.ordered.Statement.{statement}
use Rattle.model_walk_lib.proofs.turns.ordered.Tie as tie

returns : tie.Need-returns-then-k-eq0
unfolding ordered_at
returns c = rw (eq-eqb _ _ c.if-k-eq0.true) c.step_of.ensures

returns-2 : tie.Need-returns-then-x-eq0
unfolding ordered_at on_instance
returns-2 c = rw (ne_eqb _ _ c.if-k-eq0.false, eq-eqb _ _ c.if-x-eq0.true) c.step_of-then-x-eq0.ensures

returns-3 : tie.Need-returns-then-enters
unfolding ordered_at on_instance
returns-3 c = rw (ne_eqb _ _ c.if-k-eq0.false, ne_eqb _ _ c.if-x-eq0.false, lt-ltb _ _ c.if-enters.true) c.step_of-then-enters.ensures

returns-4 : tie.Need-returns-then-x-lt49
unfolding ordered_at on_instance
returns-4 c =
    let e = c in
    rw (ne_eqb _ _ e.if-k-eq0.false, ne_eqb _ _ e.if-x-eq0.false, le-ltb _ _ e.if-enters.false, lt-ltb _ _ c.if-x-lt49.true) c.step_of-then-x-lt49.ensures

returns-5 : tie.Need-returns
unfolding ordered_at on_instance
returns-5 c =
    let e = c in
    rw (ne_eqb _ _ e.if-k-eq0.false, ne_eqb _ _ e.if-x-eq0.false, le-ltb _ _ e.if-enters.false, le-ltb _ _ c.if-x-lt49.false) c.step_of-2.ensures

pub ordered_spec : {M : Type 1} → statement M
ordered_spec =
    tie.close
    (tie.spec
    (λ c κs. search rules) returns (λ c. search rules) (λ c. search rules) (λ c κs. search rules) returns-2 (λ c. search rules) (λ c κs. search rules)
    returns-3 (λ c. search rules) (λ c κs. search rules) returns-4 (λ c κs. search rules) returns-5)
