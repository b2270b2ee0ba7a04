-- What a port's number asks: nothing where it is not active, that no other provides for 0, that so many serve for any other.
-- Assumes nothing.
use mathlib.Core.Path.{◌≡◌, refl, ap, ◌∙◌}
use mathlib.Core.Logic.{◌≢◌}
use mathlib.Core.Bool.{Bool, true, ◌&&◌}
use Prim.Native.Nat.{ℕ, zero, suc, ◌-◌}
use native.Mathlib.Omega.{arith}
use lib.Dec.{eqb, leb}
use borrow.Author.Tests.{eq-eqb, ne_eqb}
use Rattle.sets.specs.Test.{tally}
use Rattle.sets.specs.Mask.{member}
use Rattle.aeolus_model.specs.Model.{Universe, Configuration, bound}
use Rattle.aeolus_rules_spec.specs.Correct.{serves, required, provided, asked}
use Rattle.aeolus_correct.specs.declared.Test.{Test}
use Rattle.aeolus_correct.specs.Tests.{passes}
use Rattle.aeolus_correct.proofs.Users.{providers-counted, servers-counted}

module _ (u : Universe) (c : Configuration) (z r n m : ℕ) where
  -- counted among all deployed components
  pub none-required : n ≡ 0 → m ≡ c.present → {k : ℕ} → k ≡ tally 32 (λ y. member y m && passes Test.Provides u c r z y) → eqb k 0 ≡ required u c z r n
  unfolding required passes
  none-required e here f = rw (e, f, here, providers-counted u c z r)

  -- counted among those to which z is bound
  pub some-required : n ≢ 0 → ((y : ℕ) → member y m ≡ bound u c r z y) → {k : ℕ} → k ≡ tally 32 (λ y. member y m && passes Test.Provides u c r z y)
      → leb n k ≡ required u c z r n
  unfolding required passes
  some-required d those {k} f = rw (f, servers-counted u c z r m those) (so n d)
    where
      so : (n : ℕ) → n ≢ 0 → leb n (tally 32 (serves u c r z)) ≡ required u c z r n
      so zero d = absurd (d refl)
      so (suc n) d = refl

module _ (u : Universe) (c : Configuration) (m z r : ℕ) where
  pub nothing-asked : {x : ℕ} → x ≡ 0 → true ≡ asked u c m z r x
  unfolding asked
  nothing-asked e = rw e

  pub provision-asked : (x : ℕ) → x ≢ 0 → m ≡ 0 → {b : Bool} → b ≡ provided u c z r (x - 1) → b ≡ asked u c m z r x
  unfolding asked
  provision-asked zero d e f = absurd (d refl)
  provision-asked (suc n) d e f = rw (eq-eqb m 0 e) (f ∙ ap (provided u c z r) (let q : suc n - 1 ≡ n = omega arith in q))

  pub demand-asked : (x : ℕ) → x ≢ 0 → m ≢ 0 → {b : Bool} → b ≡ required u c z r (x - 1) → b ≡ asked u c m z r x
  unfolding asked
  demand-asked zero d e f = absurd (d refl)
  demand-asked (suc n) d e f = rw (ne_eqb m 0 e) (f ∙ ap (required u c z r) (let q : suc n - 1 ≡ n = omega arith in q))
