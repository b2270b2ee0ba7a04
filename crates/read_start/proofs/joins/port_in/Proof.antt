use mathlib.Core.Path.{sym, ◌∙◌}
use borrow.Author.Rules.{rules}
use Rattle.read_start.proofs.joins.port_in.Statement.{statement}
use Rattle.read_start.proofs.joins.port_in.Tie as tie

returns : tie.Need-returns-then-present
returns c = rw (c.ports_of.ensures, c.kind.ensures, sym c.present.ensures ∙ c.if-present.true)

returns-2 : tie.Need-returns-else-present
returns-2 c = rw (sym c.present.ensures ∙ c.if-present.false)

pub port_in_spec : {M : Type 1} → statement M
port_in_spec = tie.close (tie.spec
    (λ c κs. search rules) (λ c κs. search rules) (λ c κs. search rules) returns returns-2)
