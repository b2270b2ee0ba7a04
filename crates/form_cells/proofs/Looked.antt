-- Lines that are looked at: all but empty ones at the end.
-- Assumes nothing.
use Prim.Native.Nat.{ℕ, suc, ◌-◌}
use mathlib.Core.List.{List, [], ◌∷◌, ◌++◌}
use mathlib.Core.Bool.{Bool, true, false, ◌&&◌, cond, true≢false}
use mathlib.Core.Path.{◌≡◌, refl, sym, ap, ◌∙◌}
use native.Mathlib.Omega.{arith}
use lib.Dec.{eqb}
use lib.ListN.{length, take, length-append}
use borrow.Author.Tests.{eqb-true}
use Rattle.item_spec.proofs.Tests.{by-test}
use Rattle.form_cells.specs.Cells.{all_ends, looked_at}

-- what is looked at comes first
pub looked-first : (s : List ℕ) → take (length (looked_at s)) s ≡ looked_at s
unfolding looked_at
looked-first [] = refl
looked-first (c ∷ s) = by-test (all_ends (c ∷ s)) (λ e. rw e) (λ e. rw e (ap (◌∷◌ c) (looked-first s)))

ends-twice : (z : List ℕ) → all_ends (z ++ (10 ∷ 10 ∷ [])) ≡ all_ends (z ++ (10 ∷ []))
unfolding all_ends
ends-twice [] = refl
ends-twice (c ∷ z) = ap (λ (b : Bool). eqb c 10 && b) (ends-twice z)

pub looked-twice : (z : List ℕ) → looked_at (z ++ (10 ∷ 10 ∷ [])) ≡ looked_at (z ++ (10 ∷ []))
unfolding looked_at all_ends
looked-twice [] = refl
looked-twice (c ∷ z) = ap (λ (b : Bool). c ∷ cond (eqb c 10 && b) [] (looked_at (z ++ (10 ∷ 10 ∷ [])))) (ends-twice z)
    ∙ ap (λ (l : List ℕ). c ∷ cond (eqb c 10 && all_ends (z ++ (10 ∷ []))) [] l) (looked-twice z)

-- a text that ends in two ends: the last one is not looked at
but_one : (z : List ℕ) (a b : ℕ) → take (suc (length z)) (z ++ (a ∷ b ∷ [])) ≡ z ++ (a ∷ [])
but_one [] a b = refl
but_one (c ∷ z) a b = ap (◌∷◌ c) (but_one z a b)

pub looked_shorter : (z s : List ℕ) → s ≡ z ++ (10 ∷ 10 ∷ []) → looked_at (take (length s - 1) s) ≡ looked_at s
looked_shorter z s e =
    let n : length (z ++ (10 ∷ 10 ∷ [])) - 1 ≡ suc (length z) = omega (arith, length-append z (10 ∷ 10 ∷ [])) in
    rw e (rw (n, but_one z 10 10) (sym (looked-twice z)))

-- any other is looked at whole
both : (a b : Bool) → a && b ≡ true → (a ≡ true) × (b ≡ true)
both true b e = (refl, e)
both false b e = absurd (true≢false (sym e))

ends-in_two : (c d : ℕ) (s : List ℕ) → all_ends (c ∷ d ∷ s) ≡ true → (z : List ℕ) × (c ∷ d ∷ s ≡ z ++ (10 ∷ 10 ∷ []))
unfolding all_ends
ends-in_two c d [] e =
    let (p, q) = both (eqb c 10) (eqb d 10 && true) e in
    let (r, _) = both (eqb d 10) true q in
    ([], rw (eqb-true c 10 p, eqb-true d 10 r))
ends-in_two c d (x ∷ s) e =
    let (z, f) = ends-in_two d x s (both (eqb c 10) (all_ends (d ∷ x ∷ s)) e).1 in
    (c ∷ z, ap (◌∷◌ c) f)

pub looked_whole : (s : List ℕ) → ((z : List ℕ) → s ≡ z ++ (10 ∷ 10 ∷ []) → ⊥) → looked_at s ≡ s
unfolding looked_at
looked_whole [] f = refl
looked_whole (c ∷ []) f = by-test (all_ends (c ∷ [])) (λ e. rw e) (λ e. rw e)
looked_whole (c ∷ d ∷ s) f =
    by-test (all_ends (c ∷ d ∷ s))
    (λ e. let (z, g) = ends-in_two c d s e in absurd (f z g))
    (λ e. rw e (ap (◌∷◌ c) (looked_whole (d ∷ s) (λ z g. f (c ∷ z) (ap (◌∷◌ c) g)))))
