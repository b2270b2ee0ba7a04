-- What stands where after a gap is closed, and after slots are zeroed.
-- Assumes nothing.
use mathlib.Core.Path.{◌≡◌, refl, sym, ap, ◌∙◌}
use mathlib.Core.Logic.{◌⊎◌, inl, inr, ⊎_elim, by_cases}
use mathlib.Core.List.{List, [], ◌∷◌, ◌++◌, append-nil}
use Prim.Native.Nat.{ℕ, zero, suc, ◌+◌, ◌-◌, ◌≤◌, ◌<◌}
use native.Mathlib.Nat.{add-zero, add-suc}
use native.Mathlib.Numerals.{add-one}
use native.Mathlib.Omega.{arith}
use native.Mathlib.Decide.{ℕ_discrete, dec_lt}
use lib.ListN.{length, get_or, take, drop, set, length-append, length-set, take-append-drop, get_or-eq_default}
use lib.Seq.{get_or-set_same, get_or-set_other}
use Rattle.rules_spec.specs.Closing.{down, closed, zeroed}

-- ---- lists that are written from `at` on: s k is xs with v 0, v 1, .. in k slots
module _ {A : Type 0} (z : A) (xs : List A) (at : ℕ) (s : ℕ → List A) (v : ℕ → A) (first : s 0 ≡ xs)
    (next : (k : ℕ) → s (suc k) ≡ set (s k) (at + k) (v k)) where
  written-length : (k : ℕ) → length (s k) ≡ length xs
  written-length zero = ap length first
  written-length (suc k) = ap length (next k) ∙ length-set (s k) (at + k) (v k) ∙ written-length k

  written-outside : (k j : ℕ) → (j < at) ⊎ (at + k ≤ j) → get_or (s k) j z ≡ get_or xs j z
  written-outside zero j h = ap (λ (l : List A). get_or l j z) first
  written-outside (suc k) j h =
      ap (λ (l : List A). get_or l j z) (next k)
      ∙ get_or-set_other (s k) (at + k) j (v k) z (⊎_elim (λ l e. omega arith) (λ l e. omega arith) h)
      ∙ written-outside k j (⊎_elim inl (λ l. inr (omega arith)) h)

  written-inside : (k j : ℕ) → at ≤ j → j < at + k → j < length xs → get_or (s k) j z ≡ v (j - at)
  written-inside zero j a h l = absurd (omega arith)
  written-inside (suc k) j a h l =
      ap (λ (ys : List A). get_or ys j z) (next k)
      ∙ by_cases (ℕ_discrete j (at + k)) last (λ n. get_or-set_other (s k) (at + k) j (v k) z n ∙ written-inside k j a (omega arith) l)
    where
      last : j ≡ at + k → get_or (set (s k) (at + k) (v k)) j z ≡ v (j - at)
      last e =
          ap (λ (n : ℕ). get_or (set (s k) (at + k) (v k)) n z) e ∙ get_or-set_same (s k) (at + k) (v k) z (rw (written-length k) (omega arith))
          ∙ ap v (let q : k ≡ j - at = omega arith in q)

-- ---- what moves down, slot after slot: the next one gets its right neighbour's

-- where the first k of ws are those of ys, one more
one_more : {A : Type 0} (d : A) (k : ℕ) (ys ws : List A) → length ys ≡ length ws → set (take k ys ++ drop k ws) k (get_or ys k d) ≡ take (suc k) ys ++ drop (suc k) ws
one_more d zero [] [] e = refl
one_more d zero [] (w ∷ ws) e = absurd (omega (arith, e))
one_more d zero (y ∷ ys) [] e = absurd (omega (arith, e))
one_more d zero (y ∷ ys) (w ∷ ws) e = refl
one_more d (suc k) [] [] e = refl
one_more d (suc k) [] (w ∷ ws) e = absurd (omega (arith, e))
one_more d (suc k) (y ∷ ys) [] e = absurd (omega (arith, e))
one_more {A} d (suc k) (y ∷ ys) (w ∷ ws) e = ap (λ (l : List A). y ∷ l) (one_more d k ys ws (omega (arith, e)))

no-take : {A : Type 0} (k : ℕ) → take {A = A} k [] ≡ []
no-take zero = refl
no-take (suc k) = refl

no_drop : {A : Type 0} (k : ℕ) → drop {A = A} k [] ≡ []
no_drop zero = refl
no_drop (suc k) = refl

module _ {A : Type 0} (z : A) where
  -- after k of them the next neighbour is still the old one
  ahead : (x : A) (xs : List A) (k : ℕ) → get_or (take k (xs ++ z ∷ []) ++ drop k (x ∷ xs)) (suc k) z ≡ get_or (xs ++ z ∷ []) k z
  ahead x [] zero = refl
  ahead x (y ∷ xs) zero = refl
  ahead x [] (suc k) = rw (no-take {A = A} k, no_drop {A = A} k) refl
  ahead x (y ∷ xs) (suc k) = ahead y xs k

  -- `down`, where n is at + k
  slid : List A → ℕ → ℕ → ℕ → List A
  slid xs at k n = take at xs ++ take k (drop (suc at) (xs ++ z ∷ [])) ++ drop n xs

  slide : (xs : List A) (at k n : ℕ) → n ≡ at + k → slid xs at (suc k) (suc n) ≡ set (slid xs at k n) n (get_or (slid xs at k n) (suc n) z)
  unfolding slid
  slide [] at k n e = rw (no-take {A = A} at, no_drop {A = A} at, no-take {A = A} k, no_drop {A = A} n) refl
  slide (x ∷ xs) (suc at) k zero e = absurd (omega (arith, e))
  slide (x ∷ xs) (suc at) k (suc n) e = ap (λ (l : List A). x ∷ l) (slide xs at k n (omega (arith, e)))
  slide (x ∷ xs) zero k n e =
      let q : n ≡ k = omega (arith, e) in
      rw q (sym (ap (set (take k (xs ++ z ∷ []) ++ drop k (x ∷ xs)) k) (ahead x xs k) ∙ one_more z k (xs ++ z ∷ []) (x ∷ xs) (rw (length-append xs (z ∷ [])) (omega arith))))

  pub down-none : (xs : List A) (at : ℕ) → down z xs at 0 ≡ xs
  unfolding down
  down-none xs at = rw (add-zero at, append-nil (take at xs)) (take-append-drop at xs)

  pub down-next : (xs : List A) (at k : ℕ) → down z xs at (suc k) ≡ set (down z xs at k) (at + k) (get_or (down z xs at k) (at + k + 1) z)
  unfolding down slid
  down-next xs at k = rw (add-suc at k, add-one (at + k)) (slide xs at k (at + k) refl)

-- ---- the gap at `at` closed, in what stands before `end`
module _ {A : Type 0} (z : A) (xs : List A) (at : ℕ) where
  moved : ℕ → A
  moved k = get_or (down z xs at k) (at + k + 1) z

  length-down : (k : ℕ) → length (down z xs at k) ≡ length xs
  unfolding moved
  length-down = written-length z xs at (down z xs at) moved (down-none z xs at) (down-next z xs at)

  down-outside : (k j : ℕ) → (j < at) ⊎ (at + k ≤ j) → get_or (down z xs at k) j z ≡ get_or xs j z
  unfolding moved
  down-outside = written-outside z xs at (down z xs at) moved (down-none z xs at) (down-next z xs at)

  down-inside : (k j : ℕ) → at ≤ j → j < at + k → j < length xs → get_or (down z xs at k) j z ≡ get_or xs (suc j) z
  unfolding moved
  down-inside k j a h l =
      written-inside z xs at (down z xs at) moved (down-none z xs at) (down-next z xs at) k j a h l ∙ down-outside (j - at) (at + (j - at) + 1) (inr (omega arith))
      ∙ ap (λ (n : ℕ). get_or xs n z) (let q : at + (j - at) + 1 ≡ suc j = omega arith in q)

  pub length-closed : (end : ℕ) → length (closed z xs at end) ≡ length xs
  unfolding closed
  length-closed end = length-set (down z xs at (end - 1 - at)) (end - 1) z ∙ length-down (end - 1 - at)

  module _ (end : ℕ) (some : at < end) (fits : end ≤ length xs) where
    pub closed-outside : (j : ℕ) → (j < at) ⊎ (end ≤ j) → get_or (closed z xs at end) j z ≡ get_or xs j z
    unfolding closed
    closed-outside j h =
        get_or-set_other (down z xs at (end - 1 - at)) (end - 1) j z z (⊎_elim (λ l e. omega arith) (λ l e. omega arith) h)
        ∙ down-outside (end - 1 - at) j (⊎_elim inl (λ l. inr (omega arith)) h)

    pub closed-inside : (j : ℕ) → at ≤ j → suc j < end → get_or (closed z xs at end) j z ≡ get_or xs (suc j) z
    unfolding closed
    closed-inside j a h =
        get_or-set_other (down z xs at (end - 1 - at)) (end - 1) j z z (λ e. omega arith)
        ∙ down-inside (end - 1 - at) j a (omega arith) (omega arith)

    pub closed-last : (j : ℕ) → suc j ≡ end → get_or (closed z xs at end) j z ≡ z
    unfolding closed
    closed-last j e =
        ap (λ (n : ℕ). get_or (set (down z xs at (end - 1 - at)) (end - 1) z) n z) (let q : j ≡ end - 1 = omega arith in q)
        ∙ get_or-set_same (down z xs at (end - 1 - at)) (end - 1) z z (rw (length-down (end - 1 - at)) (omega arith))

-- ---- k slots from `at` zeroed
module _ (xs : List ℕ) (at : ℕ) where
  pub length-zeroed : (k : ℕ) → length (zeroed xs at k) ≡ length xs
  unfolding zeroed
  length-zeroed = written-length 0 xs at (zeroed xs at) (λ k. 0) refl (λ k. refl)

  pub zeroed-outside : (k j : ℕ) → (j < at) ⊎ (at + k ≤ j) → get_or (zeroed xs at k) j 0 ≡ get_or xs j 0
  unfolding zeroed
  zeroed-outside = written-outside 0 xs at (zeroed xs at) (λ k. 0) refl (λ k. refl)

  pub zeroed-inside : (k j : ℕ) → at ≤ j → j < at + k → get_or (zeroed xs at k) j 0 ≡ 0
  unfolding zeroed
  zeroed-inside k j a h =
      by_cases (dec_lt j (length xs)) (written-inside 0 xs at (zeroed xs at) (λ k. 0) refl (λ k. refl) k j a h)
      (λ l. get_or-eq_default (zeroed xs at k) 0 (rw (length-zeroed k) (omega arith)))
