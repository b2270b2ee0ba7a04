use mathlib.Core.Path.{refl}
use borrow.Author.Tests.{le-leb, lt-leb}
use borrow.Author.Rules.{rules}
use Rattle.model_walk_lib.proofs.endings.ending_of.Statement.{statement}
use Rattle.model_walk_lib.proofs.endings.ending_of.Tie as tie

returns : tie.Need-returns-then-all_done
returns c = rw (← c.all_done.ensures, c.if-all_done.true) refl

returns-2 : tie.Need-returns-then-steps-ge-MOST_STEPS
returns-2 c = rw (← c.all_done.ensures, c.if-all_done.false, le-leb _ _ c.if-steps-ge-MOST_STEPS.true) refl

returns-3 : tie.Need-returns
returns-3 c = rw (← c.all_done.ensures, c.if-all_done.false, lt-leb _ _ c.if-steps-ge-MOST_STEPS.false) refl

pub ending_of_spec : {M : Type 1} → statement M
ending_of_spec = tie.close (tie.spec
    (λ c κs. search rules) returns returns-2 returns-3)
