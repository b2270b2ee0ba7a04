use mathlib.Core.Path.{ap}
use Prim.Native.Nat.{ℕ}
use lib.Dec.{eqb}
use borrow.Author.Rules.{rules}
use Rattle.words.proofs.tables.is_use.Statement.{statement}
use Rattle.words.proofs.tables.is_use.Tie as tie

returns : tie.Need-returns
returns c = ap (λ (x : ℕ). eqb x 1) c.port_kind.ensures

pub is_use_spec : {M : Type 1} → statement M
is_use_spec = tie.close (tie.spec
    (λ c κs. search rules) returns)
