-- The first number that passes: by a search that goes up, and whether there is one.
-- Assumes nothing.
use mathlib.Core.Path.{◌≡◌, refl, sym, ap, ◌∙◌}
use mathlib.Core.Logic.{by_cases}
use mathlib.Core.Bool.{Bool, true, false, ◌||◌}
use Prim.Native.Nat.{ℕ, zero, suc, ◌<◌}
use native.Mathlib.Omega.{arith}
use native.Mathlib.Decide.{dec_lt}
use lib.Dec.{ltb}
use borrow.Author.Tests.{lt-ltb, le-ltb}
use Rattle.sets.specs.Test.{any_below}
use Rattle.sets.proofs.Laws.{any-hit, any_none}
use Rattle.item_spec.proofs.Tests.{by-test}
use Rattle.aeolus_model.specs.Model.{find}

module _ (p : ℕ → Bool) where
  pub find_none : (n : ℕ) → any_below n p ≡ false → find n p ≡ n
  unfolding find any_below
  find_none zero e = refl
  find_none (suc n) e = rw (any_none (suc n) p e n (omega arith), earlier, find)
    where
      earlier : any_below n p ≡ false
      earlier = by-test (any_below n p) (λ t. t ∙ sym (ap (λ (b : Bool). b || p n) t) ∙ e) (λ t. t)

  pub find-hit : (n i : ℕ) → i < n → any_below i p ≡ false → p i ≡ true → find n p ≡ i
  unfolding find
  find-hit zero i h e f = absurd (omega arith)
  find-hit (suc n) i h e f =
      by_cases (dec_lt i n)
      (λ l. rw (any-hit n p i l f, find) (find-hit n i l e f))
      (λ l.
      let q : i ≡ n = omega arith in
      rw (ap (λ (k : ℕ). any_below k p) (sym q) ∙ e, ap p (sym q) ∙ f, find) (sym q))

  find-some : (n : ℕ) → any_below n p ≡ true → find n p < n
  unfolding find any_below
  find-some zero e = absurd (no e)
    where
      no : false ≡ true → ⊥
      no q = let z : ◌≡◌ {A = ℕ} 0 1 = cc in omega arith
  find-some (suc n) e =
      by-test (any_below n p)
      (λ t. rw (t, find) (omega (arith, find-some n t)))
      (λ t. rw (t, sym (ap (λ (b : Bool). b || p n) t) ∙ e, find) (omega arith))

  pub some-found : (n : ℕ) → any_below n p ≡ ltb (find n p) n
  some-found n =
      by-test (any_below n p)
      (λ t. t ∙ sym (lt-ltb (find n p) n (find-some n t)))
      (λ t. t ∙ sym (le-ltb (find n p) n (rw (find_none n t) (omega arith))))
