-- A claim on Booleans that computes to true in every case holds of all of them.
-- Assumes nothing.
use mathlib.Core.Path.{◌≡◌, refl, sym}
use mathlib.Core.Bool.{Bool, true, false, not, ◌&&◌, and-eq-true_iff}

unfoldable pub both : (Bool → Bool) → Bool
both p = p true && p false

both_at : (p : Bool → Bool) → both p ≡ true → (b : Bool) → p b ≡ true
unfolding both
both_at p e true = ((and-eq-true_iff (p true) (p false)).0 e).0
both_at p e false = ((and-eq-true_iff (p true) (p false)).0 e).1

abbrev pub same : Bool → Bool → Bool
same true b = b
same false b = not b

pub same-is : (a b : Bool) → same a b ≡ true → a ≡ b
same-is true b e = sym e
same-is false true e = e
same-is false false e = refl

pub by_three : (p : Bool → Bool → Bool → Bool) → both (λ a. both (λ b. both (λ c. p a b c))) ≡ true → (a b c : Bool) → p a b c ≡ true
by_three p e a b c = both_at _ (both_at _ (both_at _ e a) b) c

pub by-six : (p : Bool → Bool → Bool → Bool → Bool → Bool → Bool)
    → both (λ a. both (λ b. both (λ c. both (λ d. both (λ e. both (λ f. p a b c d e f)))))) ≡ true → (a b c d e f : Bool) → p a b c d e f ≡ true
by-six p h a b c d e f = both_at _ (both_at _ (both_at _ (by_three (λ a b c. both (λ d. both (λ e. both (λ f. p a b c d e f)))) h a b c) d) e) f
