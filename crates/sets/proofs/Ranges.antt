-- What a chain over the numbers below n answers: that all of them pass, or that one does.
-- Assumes nothing.
use Rattle.std.proofs.Common.{◌≡◌, ℕ, zero, suc, ◌+◌, Bool, ◌&&◌, ◌||◌, refl, sym, ap, ◌∙◌, arith}
use Rattle.std.specs.List.{list_all, list_any, range_with_len}
use mathlib.Core.Bool.{and-true, and_assoc, or-false, or_assoc}
use native.Mathlib.Nat.{add-zero, zero-add}
use Rattle.sets.specs.Test.{all_below, any_below}
use Rattle.sets.proofs.Laws.{all_same, any_same}

-- the lowest by itself
all-first : (n : ℕ) (p : ℕ → Bool) → all_below (suc n) p ≡ (p 0 && all_below n (λ k. p (suc k)))
unfolding all_below
all-first zero p = sym (and-true (p 0))
all-first (suc n) p = ap (λ (b : Bool). b && p (suc n)) (all-first n p) ∙ and_assoc (p 0) (all_below n (λ k. p (suc k))) (p (suc n))

any-first : (n : ℕ) (p : ℕ → Bool) → any_below (suc n) p ≡ (p 0 || any_below n (λ k. p (suc k)))
unfolding any_below
any-first zero p = sym (or-false (p 0))
any-first (suc n) p = ap (λ (b : Bool). b || p (suc n)) (any-first n p) ∙ or_assoc (p 0) (any_below n (λ k. p (suc k))) (p (suc n))

all-from : (n a : ℕ) (p : ℕ → Bool) → list_all p (range_with_len a n) ≡ all_below n (λ k. p (a + k))
unfolding all_below
all-from zero a p = refl
all-from (suc n) a p =
    ap (λ (b : Bool). p a && b) (all-from n (a + 1) p ∙ all_same n (λ k. p (a + 1 + k)) (λ k. p (a + suc k)) (λ k h. ap p (omega arith)))
    ∙ ap (λ (m : ℕ). p m && all_below n (λ k. p (a + suc k))) (sym (add-zero a))
    ∙ sym (all-first n (λ k. p (a + k)))

any-from : (n a : ℕ) (p : ℕ → Bool) → list_any p (range_with_len a n) ≡ any_below n (λ k. p (a + k))
unfolding any_below
any-from zero a p = refl
any-from (suc n) a p =
    ap (λ (b : Bool). p a || b) (any-from n (a + 1) p ∙ any_same n (λ k. p (a + 1 + k)) (λ k. p (a + suc k)) (λ k h. ap p (omega arith)))
    ∙ ap (λ (m : ℕ). p m || any_below n (λ k. p (a + suc k))) (sym (add-zero a))
    ∙ sym (any-first n (λ k. p (a + k)))

module _ (n : ℕ) (p : ℕ → Bool) where
  pub all-range : list_all p (range_with_len 0 n) ≡ all_below n p
  all-range = all-from n 0 p ∙ all_same n (λ k. p (0 + k)) p (λ k h. ap p (zero-add k))

  pub any-range : list_any p (range_with_len 0 n) ≡ any_below n p
  any-range = any-from n 0 p ∙ any_same n (λ k. p (0 + k)) p (λ k h. ap p (zero-add k))
