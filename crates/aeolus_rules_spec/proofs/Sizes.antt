-- As many distinct numbers as pass a test: a list of them, and no longer list.
-- Assumes nothing.
use mathlib.Core.Bool.{Bool, true, false, not, ◌&&◌, and-true}
use mathlib.Core.List.{List, [], ◌∷◌}
use mathlib.Core.Path.{◌≡◌, refl, ap, ap₂}
use mathlib.Core.Logic.{◌≢◌, ◌⊎◌, ⊎_elim}
use Prim.Native.Nat.{ℕ, zero, suc, ◌+◌, ◌≤◌, ◌<◌}
use native.Mathlib.Omega.{arith}
use native.Mathlib.Nat.{le_step}
use lib.Dec.{eqb}
use lib.ListN.{length, take}
use borrow.Author.Tests.{eq-eqb, ne_eqb}
use Rattle.sets.proofs.Laws.{below-cases}
use Rattle.sets.specs.Test.{tally}
use Rattle.item_spec.proofs.Tests.{by-test}
use Rattle.aeolus_rules_spec.specs.Definition3.{Each, Distinct}

tally-same : (n : ℕ) (p q : ℕ → Bool) → ((i : ℕ) → i < n → p i ≡ q i) → tally n p ≡ tally n q
unfolding tally
tally-same zero p q f = refl
tally-same (suc n) p q f = ap₂ (λ (a : ℕ) (b : Bool). a + elim b as (λ _. ℕ) [ true ↦ 1 | false ↦ 0 ]) (tally-same n p q (λ i h. f i (le_step h))) (f n (omega arith))

-- below y nothing is left out
kept-below : (p : ℕ → Bool) (y : ℕ) → tally y (λ j. p j && not (eqb j y)) ≡ tally y p
kept-below p y = tally-same y (λ j. p j && not (eqb j y)) p (λ i l. rw (ne_eqb i y (λ f. omega arith)) (and-true (p i)))

-- one fewer without y
tally-less : (n : ℕ) (p : ℕ → Bool) (y : ℕ) → y < n → p y ≡ true → tally n p ≡ suc (tally n (λ j. p j && not (eqb j y)))
unfolding tally
tally-less zero p y h e = absurd (omega arith)
tally-less (suc n) p y h e =
    ⊎_elim
    (λ q. rw (← q, e, eq-eqb y y refl, kept-below p y) (omega arith))
    (λ l. rw (ne_eqb n y (λ f. omega arith), and-true (p n)) (omega (arith, tally-less n p y l e)))
    (below-cases h)

pub each_map : (P Q : ℕ → Type 0) (ys : List ℕ) → ((y : ℕ) → P y → Q y) → Each P ys → Each Q ys
each_map P Q [] f e = tt
each_map P Q (y ∷ ys) f (a, e) = (f y a, each_map P Q ys f e)

each_both : (P Q : ℕ → Type 0) (ys : List ℕ) → Each P ys → Each Q ys → Each (λ y. P y × Q y) ys
each_both P Q [] a b = tt
each_both P Q (y ∷ ys) (a, e) (b, f) = ((a, b), each_both P Q ys e f)

-- a number below n that passes
abbrev pub Passes : ℕ → (ℕ → Bool) → ℕ → Type 0
Passes n p y = (y < n) × (p y ≡ true)

pub distinct-few : (n : ℕ) (ys : List ℕ) (p : ℕ → Bool) → Distinct ys → Each (Passes n p) ys → length ys ≤ tally n p
distinct-few n [] p d e = omega arith
distinct-few n (y ∷ ys) p (apart, d) ((l, q), e) =
    let rest = distinct-few n ys (λ j. p j && not (eqb j y)) d
    (each_map (λ x. (x ≢ y) × Passes n p x) (Passes n (λ j. p j && not (eqb j y))) ys (λ x (other, (h, r)). (h, rw (r, ne_eqb x y other))) (each_both (λ x. x ≢ y) (Passes n p) ys apart e)) in
    omega (arith, rest, tally-less n p y l q)

-- those that pass, the greatest first
pub those : ℕ → (ℕ → Bool) → List ℕ
those zero p = []
those (suc n) p = elim (p n) [ true ↦ n ∷ those n p | false ↦ those n p ]

those-pass : (n : ℕ) (p : ℕ → Bool) → Each (Passes n p) (those n p)
unfolding those
those-pass zero p = tt
those-pass (suc n) p =
    let rest = each_map (Passes n p) (Passes (suc n) p) (those n p) (λ y (h, e). (le_step h, e)) (those-pass n p) in
    by-test (p n) (λ e. rw (e, those) ((omega arith, e), rest)) (λ e. rw (e, those) rest)

those-distinct : (n : ℕ) (p : ℕ → Bool) → Distinct (those n p)
unfolding those
those-distinct zero p = tt
those-distinct (suc n) p =
    by-test (p n) (λ e. rw (e, those) (each_map (Passes n p) (λ x. x ≢ n) (those n p) (λ y (h, _) q. omega arith) (those-pass n p), those-distinct n p)) (λ e. rw (e, those) (those-distinct n p))

those-many : (n : ℕ) (p : ℕ → Bool) → length (those n p) ≡ tally n p
unfolding those tally
those-many zero p = refl
those-many (suc n) p = by-test (p n) (λ e. rw (e, those) (omega (arith, those-many n p))) (λ e. rw (e, those) (omega (arith, those-many n p)))

each_take : (P : ℕ → Type 0) (k : ℕ) (ys : List ℕ) → Each P ys → Each P (take k ys)
each_take P zero ys e = tt
each_take P (suc k) [] e = tt
each_take P (suc k) (y ∷ ys) (a, e) = (a, each_take P k ys e)

distinct-take : (k : ℕ) (ys : List ℕ) → Distinct ys → Distinct (take k ys)
distinct-take zero ys d = tt
distinct-take (suc k) [] d = tt
distinct-take (suc k) (y ∷ ys) (a, d) = (each_take (λ x. x ≢ y) k ys a, distinct-take k ys d)

-- k of them, where there are as many
pub record Some (n k : ℕ) (p : ℕ → Bool) : Type 0 where
  pub list : List ℕ
  pub many : length list ≡ k
  pub distinct : Distinct list
  pub pass : Each (Passes n p) list

take-many : (k : ℕ) (ys : List ℕ) → k ≤ length ys → length (take k ys) ≡ k
take-many zero ys h = refl
take-many (suc k) [] h = absurd (omega arith)
take-many (suc k) (y ∷ ys) h = ap suc (take-many k ys (omega arith))

pub some_of : (n k : ℕ) (p : ℕ → Bool) → k ≤ tally n p → Some n k p
some_of n k p h = record {
  list = take k (those n p);
  many = take-many k (those n p) (rw (those-many n p) h);
  distinct = distinct-take k (those n p) (those-distinct n p);
  pass = each_take (Passes n p) k (those n p) (those-pass n p);
}

pub tally-none : (n : ℕ) (p : ℕ → Bool) → tally n p ≡ 0 → (y : ℕ) → y < n → p y ≡ false
tally-none n p e y h = by-test (p y) (λ q. absurd (omega (arith, tally-less n p y h q))) (λ q. q)

pub none-tally : (n : ℕ) (p : ℕ → Bool) → ((y : ℕ) → y < n → p y ≡ false) → tally n p ≡ 0
unfolding tally
none-tally zero p f = refl
none-tally (suc n) p f = rw (f n (omega arith), none-tally n p (λ y h. f y (le_step h)))

pub tally-le : (n : ℕ) (p : ℕ → Bool) → tally n p ≤ n
unfolding tally
tally-le zero p = omega arith
tally-le (suc n) p = by-test (p n) (λ e. rw e (omega (arith, tally-le n p))) (λ e. rw e (omega (arith, tally-le n p)))
