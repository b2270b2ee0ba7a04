use mathlib.Core.Path.{sym, ◌∙◌}
use Rattle.aeolus_write_report.proofs.Names.{next-unbound, next-early, next-late, next-is}
use borrow.Author.Rules.{rules}
use Rattle.aeolus_write_report.proofs.nearer.Statement.{statement}
use Rattle.aeolus_write_report.proofs.nearer.Tie as tie

returns : tie.Need-returns-then-bound_at-eq0
returns c = next-unbound (sym c.bound_at.ensures ∙ c.if-bound_at-eq0.true)

returns-2 : tie.Need-returns-then-r-from
returns-2 c = next-early (rw c.kind_of.ensures at c.name_of-r.ensures) c.if-r-from.true

returns-3 : tie.Need-returns-then-next-r
returns-3 c = next-late (rw c.kind_of.ensures at c.name_of-r.ensures) c.if-next-r.true

returns-4 : tie.Need-returns
returns-4 c = next-is (rw c.kind_of.ensures at c.name_of-r.ensures) c.if-r-from.false c.if-next-r.false

pub nearer_spec : {M : Type 1} → statement M
nearer_spec = tie.close (tie.spec
    (λ c κs. search rules) returns (λ c κs. search rules) (λ c κs. search rules) returns-2 returns-3 returns-4)
