-- Where an answer's lines start: within it, and the third line and on from the start of the third.
-- Assumes nothing.
use Prim.Native.Nat.{ℕ, zero, suc, ◌+◌, ◌-◌, ◌≤◌, zero-le}
use mathlib.Core.List.{List, [], ◌∷◌}
use mathlib.Core.Path.{◌≡◌, refl, sym, ap, ◌∙◌}
use native.Mathlib.Omega.{arith}
use lib.Dec.{eqb}
use lib.ListN.{length, take, drop, length-drop}
use lib.Seq.{take_all, drop-drop}
use Rattle.item_spec.proofs.Tests.{by-test}
use Rattle.read_spec.specs.Place.{line_start}

pub start-few : (n : ℕ) (s : List ℕ) → line_start n s ≤ length s
unfolding line_start
start-few zero s = zero-le
start-few (suc n) [] = zero-le
start-few (suc n) (c ∷ s) = by-test (eqb c 10) (λ e. rw (e, line_start) (omega (arith, start-few n s))) (λ e. rw (e, line_start) (omega (arith, start-few (suc n) s)))

-- n lines more, from the next line on; and from the third line on
next_start : (n : ℕ) (s : List ℕ) → line_start (suc n) s ≡ line_start 1 s + line_start n (drop (line_start 1 s) s)
unfolding line_start
next_start zero [] = refl
next_start (suc n) [] = refl
next_start n (c ∷ s) =
    by-test (eqb c 10) (λ e. rw (e, line_start) (omega arith)) (λ e. rw (e, line_start) (omega (arith, next_start n s)))

third-start : (n : ℕ) (s : List ℕ) → line_start (2 + n) s ≡ line_start 2 s + line_start n (drop (line_start 2 s) s)
third-start n s =
    let a = line_start 1 s in
    let b = line_start 1 (drop a s) in
    let e : 2 + n ≡ suc (suc n) = omega arith in
    let f : drop (line_start 2 s) s ≡ drop b (drop a s) = ap (λ (k : ℕ). drop k s) (next_start 1 s) ∙ sym (drop-drop b a s) in
    rw (e, f) (omega (arith, next_start 1 s, next_start (suc n) s, next_start n (drop a s)))

-- the two starts that the code adds up, the second in the part of the text from the first on
pub first-few : (s : List ℕ) {first : ℕ} → first ≡ line_start 2 s → first ≤ length s
first-few s is = rw is (start-few 2 s)

module _ (s : List ℕ) (n : ℕ) {first more : ℕ} (is : first ≡ line_start 2 s) (also : more ≡ line_start n (take (length s - first) (drop first s))) where
  pub starts-add : first + more ≡ line_start (2 + n) s
  starts-add =
      let part = take_all (length s - first) (drop first s) (simp length-drop (omega arith)) in
      rw (also, part, is) (sym (third-start n s))

  pub starts-few : first + more ≤ length s
  starts-few = rw starts-add (start-few (2 + n) s)
