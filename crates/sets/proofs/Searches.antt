-- Searches that find alike: over another bound, over two parts, row by row, and with one more that passes.
-- Assumes nothing.
use mathlib.Core.Path.{◌≡◌, refl, sym, ap, ◌∙◌}
use mathlib.Core.Logic.{◌≢◌}
use mathlib.Core.Bool.{Bool, true, false, ◌||◌, or_assoc, or-false, or_comm, true≢false}
use Prim.Native.Nat.{ℕ, zero, suc, ◌+◌, ◌*◌, ◌<◌}
use native.Mathlib.Omega.{arith}
use Rattle.sets.specs.Test.{any_below}
use Rattle.sets.proofs.Laws.{any-hit, any_some, any_none, none_any}

-- what one search finds the other finds too
pub any-alike : (m n : ℕ) (p q : ℕ → Bool) → ((i : ℕ) → i < m → p i ≡ true → (i < n) × (q i ≡ true))
    → ((i : ℕ) → i < n → q i ≡ true → (i < m) × (p i ≡ true)) → any_below m p ≡ any_below n q
any-alike m n p q there back = go (any_below m p) refl
  where
    none : any_below m p ≡ false → (i : ℕ) → i < n → (b : Bool) → q i ≡ b → b ≡ false
    none e i h true f = let (l, g) = back i h f in sym g ∙ any_none m p e i l
    none e i h false f = refl

    go : (b : Bool) → any_below m p ≡ b → b ≡ any_below n q
    go true e = let (i, (h, f)) = any_some m p e in let (l, g) = there i h f in sym (any-hit n q i l g)
    go false e = sym (none_any n q (λ i h. none e i h (q i) refl))

-- the first m, and those after them
pub any-split : (m n : ℕ) (p : ℕ → Bool) → any_below (m + n) p ≡ (any_below m p || any_below n (λ i. p (m + i)))
unfolding any_below
any-split m zero p = ap (λ (k : ℕ). any_below k p) (let e : m + 0 ≡ m = omega arith in e) ∙ sym (or-false (any_below m p))
any-split m (suc n) p =
    ap (λ (k : ℕ). any_below k p) (let e : m + suc n ≡ suc (m + n) = omega arith in e)
    ∙ ap (λ (b : Bool). b || p (m + n)) (any-split m n p) ∙ or_assoc (any_below m p) _ _

-- n rows of w
pub any-rows : (n w : ℕ) (p : ℕ → Bool) → any_below (n * w) p ≡ any_below n (λ k. any_below w (λ i. p (k * w + i)))
unfolding any_below
any-rows zero w p = ap (λ (k : ℕ). any_below k p) (let e : 0 * w ≡ 0 = omega arith in e)
any-rows (suc n) w p =
    ap (λ (k : ℕ). any_below k p) (let e : suc n * w ≡ n * w + w = omega arith in e)
    ∙ any-split (n * w) w p ∙ ap (λ (b : Bool). b || any_below w (λ i. p (n * w + i))) (any-rows n w p)

-- at a alone, where p fails, q may pass
pub any-one-more : (n a : ℕ) (p q : ℕ → Bool) → a < n → p a ≡ false → ((i : ℕ) → i ≢ a → q i ≡ p i) → any_below n q ≡ (any_below n p || q a)
any-one-more n a p q h off same = go (q a) refl
  where
    back : (i : ℕ) → p i ≡ true → q i ≡ true
    back i e = same i (λ z. true≢false (sym e ∙ ap p z ∙ off)) ∙ e

    there : q a ≡ false → (i : ℕ) → q i ≡ true → p i ≡ true
    there e i f = sym (same i (λ z. true≢false (sym f ∙ ap q z ∙ e))) ∙ f

    go : (b : Bool) → q a ≡ b → any_below n q ≡ (any_below n p || b)
    go true e = any-hit n q a h e ∙ or_comm true (any_below n p)
    go false e = any-alike n n q p (λ i l f. (l, there e i f)) (λ i l f. (l, back i f)) ∙ sym (or-false (any_below n p))
