use borrow.Author.Tests.{ne_eqb}
use Rattle.times_spec.specs.Refusal.{times_number}
use Rattle.read_times.proofs.times_number.Statement.{statement}
use Rattle.read_times.proofs.times_number.Tie as tie

returns : tie.Need-returns-in-3
unfolding times_number
returns c = rw c.in-3.is

returns-2 : tie.Need-returns-in-4
unfolding times_number
returns-2 c = rw c.in-4.is

returns-3 : tie.Need-returns-in_default
unfolding times_number
returns-3 c = let h = c.in_default.in_default-own.rest in rw (ne_eqb _ 3 h.0.1, ne_eqb _ 4 h.1)

pub times_number_spec : {M : Type 1} → statement M
times_number_spec =
    tie.close
    (tie.spec
    returns returns-2 returns-3)
