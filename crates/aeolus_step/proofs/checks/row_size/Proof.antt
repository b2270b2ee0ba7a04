use mathlib.Core.Path.{sym, ap, ◌∙◌}
use Rattle.aeolus_rules_spec.proofs.Bindings.{size, none-size}
use borrow.Author.Rules.{rules}
use Rattle.aeolus_step.proofs.checks.row_size.Statement.{statement}
use Rattle.aeolus_step.proofs.checks.row_size.Tie as tie

returns : tie.Need-returns-then-m-eq0
returns c = sym (none-size 32) ∙ ap size (sym c.if-m-eq0.true ∙ c.bound_row-m.ensures)

returns-2 : tie.Need-returns
returns-2 c = c.size_of.ensures ∙ ap size c.bound_row-m.ensures

pub row_size_spec : {M : Type 1} → statement M
row_size_spec = tie.close (tie.spec
    (λ c κs. search rules) returns (λ c κs. search rules) returns-2)
