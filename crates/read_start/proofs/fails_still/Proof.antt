use mathlib.Core.Path.{sym, ◌∙◌}
use Rattle.start_spec.specs.Served.{fails_still}
use borrow.Author.Rules.{rules}
use Rattle.read_start.proofs.fails_still.Statement.{statement}
use Rattle.read_start.proofs.fails_still.Tie as tie

returns : tie.Need-returns-then-not-present
unfolding fails_still
returns c = rw (sym c.present.ensures ∙ c.if-not-present.true)

returns-2 : tie.Need-returns
unfolding fails_still
returns-2 c =
    rw (c.still_check.ensures, sym c.present.ensures ∙ c.if-not-present.false)

pub fails_still_spec : {M : Type 1} → statement M
fails_still_spec = tie.close (tie.spec
    (λ c κs. search rules) returns (λ c κs. search rules) returns-2)
