use borrow.Author.Tests.{eq-eqb, ne_eqb}
use Rattle.judge_spec.specs.Judged.{fault_line}
use borrow.Author.Rules.{rules}
use Rattle.judge_verdicts.proofs.fault_line.Statement.{statement}
use Rattle.judge_verdicts.proofs.fault_line.Tie as tie

returns : tie.Need-returns-in-1
unfolding fault_line
returns c = rw (eq-eqb _ 1 c.in-1.is, fault_line)

returns-2 : tie.Need-returns-in-50
unfolding fault_line
returns-2 c = rw c.in-50.is

returns-3 : tie.Need-returns-in_default
unfolding fault_line
returns-3 c = rw (c.line_number.ensures, ne_eqb _ 1 c.in_default.in_default-own.rest.0.1, ne_eqb _ 50 c.in_default.in_default-own.rest.1, fault_line)

pub fault_line_spec : {M : Type 1} → statement M
fault_line_spec = tie.close (tie.spec
    (λ c κs. search rules) returns returns-2 returns-3)
