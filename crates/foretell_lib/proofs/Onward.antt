-- One instruction more, by the names.
-- Assumes nothing.
use Prim.Native.Nat.{ℕ, suc, ◌+◌, ◌-◌, ◌<◌, ◌≤◌}
use mathlib.Core.Bool.{true, false}
use mathlib.Core.Logic.{◌≢◌}
use mathlib.Core.Path.{◌≡◌, sym, ap, ◌∙◌}
use native.Mathlib.Omega.{arith}
use lib.Dec.{eqb}
use borrow.Author.Tests.{eq-eqb, ne_eqb}
use Rattle.model.specs.declared.Tables.{Tables}
use Rattle.model.specs.declared.Program.{Program}
use Rattle.model.specs.declared.Configuration.{Configuration}
use Rattle.model.specs.declared.Stepped.{Stepped}
use Rattle.rules_spec.specs.Step.{step}
use Rattle.rules_spec.specs.Refused.{RefusedChangesNothing}
use Rattle.rules_spec.proofs.Walks.{refused-changes-nothing}
use Rattle.foretell_spec.specs.declared.Foretelling.{Foretelling}
use Rattle.foretell_spec.specs.Names.{names_of, next_step, room_for_one, foretold_from}

module _ (t : Tables) (p : Program) (c : Configuration) where
  onward : ℕ → Stepped → Foretelling
  onward n m = elim (eqb m.refused 0) [ true ↦ foretold_from t p n (names_of m.configuration) | false ↦ record { next = c.done; refused = m.refused } ]

  one_more : (n k : ℕ) → k < n → foretold_from t p (n - k) c ≡ onward (n - (k + 1)) (step room_for_one t p c next_step)
  unfolding foretold_from onward
  one_more n k h = ap (λ (j : ℕ). foretold_from t p j c) (let e : n - k ≡ suc (n - (k + 1)) = omega arith in e)

  module _ (m : Stepped) (is : m ≡ step room_for_one t p c next_step) (n k : ℕ) (h : k < n) where
    pub goes_on : m.refused ≡ 0 → foretold_from t p (n - k) c ≡ foretold_from t p (n - (k + 1)) (names_of m.configuration)
    unfolding onward
    goes_on z = one_more n k h ∙ ap (onward (n - (k + 1))) (sym is) ∙ rw (eq-eqb m.refused 0 z, onward)

    pub stops-here : m.refused ≢ 0 → foretold_from t p (n - k) c ≡ record { next = m.configuration.done; refused = m.refused }
    unfolding onward RefusedChangesNothing
    stops-here z =
        let same : m.configuration ≡ c = rw is (refused-changes-nothing room_for_one t p c next_step (rw is at z)) in
        one_more n k h ∙ ap (onward (n - (k + 1))) (sym is) ∙ rw (ne_eqb m.refused 0 z, onward, same)

  pub ends-here : (n k : ℕ) → n ≤ k → foretold_from t p (n - k) c ≡ record { next = c.done; refused = 0 }
  unfolding foretold_from
  ends-here n k h = ap (λ (j : ℕ). foretold_from t p j c) (let e : n - k ≡ 0 = omega arith in e)
