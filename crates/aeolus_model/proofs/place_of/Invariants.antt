-- None of the interfaces up to j is r.
use Rattle.aeolus_model.specs.Model.{name_of}
use Rattle.aeolus_model.specs.Words.{universe_in}
use Rattle.sets.specs.Test.{any_below}
use lib.Dec.{eqb}
use mathlib.Core.Bool.{false}
use mathlib.Core.Path.{◌≡◌}
use Rattle.aeolus_model.proofs.place_of.Given as goal

abbrev pub invariant-loop-j : goal.invariant-loop-j
invariant-loop-j l = any_below l.j (λ i. eqb (name_of (universe_in l.universe) l.k i) l.r) ≡ false
