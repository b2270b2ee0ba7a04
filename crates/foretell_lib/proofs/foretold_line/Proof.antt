use mathlib.Core.Path.{refl}
use borrow.Author.Tests.{eq-eqb, ne_eqb}
use borrow.Author.Rules.{rules}
use Rattle.foretell_spec.specs.Lines.{instruction_line}
use Rattle.foretell_lib.proofs.foretold_line.Statement.{statement}
use Rattle.foretell_lib.proofs.foretold_line.Tie as tie

returns : tie.Need-returns-then-refused-eq0
returns c = rw (eq-eqb _ _ c.if-refused-eq0.true) refl

returns-2 : tie.Need-returns
unfolding instruction_line
returns-2 c =
    let l = c in
    let i = c in
    rw (ne_eqb _ _ i.if-refused-eq0.false, ← i.instructions.ensures, ← l.fewer-left.ensures, ← l.line_number.ensures) c.less.ensures

pub foretold_line_spec : {M : Type 1} → statement M
foretold_line_spec =
    tie.close (tie.spec
    returns (λ c κs. search rules) (λ c κs. search rules) (λ c κs. search rules) (λ c. search rules) (λ c κs. search rules) returns-2)
