-- How many bindings stand: the rows of a configuration, counted by component and interface.
-- Assumes nothing.
use mathlib.Core.Path.{◌≡◌, refl, sym, ap, ap₂, ◌∙◌}
use mathlib.Core.Bool.{true, true≢false}
use mathlib.Core.List.{List}
use Prim.Native.Nat.{ℕ, zero, suc, ◌+◌, ◌-◌, ◌*◌, ◌≤◌, ◌<◌}
use native.Mathlib.Omega.{arith}
use native.Mathlib.Nat.{le_step}
use lib.Dec.{eqb}
use lib.ListN.{length, get_or, take}
use lib.Seq.{take_all}
use borrow.Author.Tests.{eq-eqb}
use Rattle.sets.specs.Test.{tally}
use Rattle.sets.specs.Mask.{member}
use Rattle.sets.proofs.Laws.{any-hit}
use Rattle.item_spec.proofs.Tests.{by-test}
use Rattle.aeolus_model.specs.Model.{Universe, Configuration, NamesDiffer, nothing, type_of, name_of, place_of, lists, kind_of, deployed, bound}
use Rattle.aeolus_rules_spec.specs.Definition1.{Lawful}
use Rattle.aeolus_rules_spec.specs.Definition5.{total, triples_of, BindingsAreCounted}
use Rattle.aeolus_rules_spec.specs.Bind.{sizes}
use Rattle.aeolus_rules_spec.specs.Run.{run}
use Rattle.aeolus_rules_spec.proofs.Sizes.{none-tally}
use Rattle.aeolus_rules_spec.proofs.Bindings.{size, sizes-one}
use Rattle.aeolus_rules_spec.proofs.Kept.{row, Sound, place_is, points-sound}

-- ---- sums

total-same : (n : ℕ) (f g : ℕ → ℕ) → ((i : ℕ) → i < n → f i ≡ g i) → total n f ≡ total n g
unfolding total
total-same zero f g e = refl
total-same (suc n) f g e = ap₂ ◌+◌ (total-same n f g (λ i h. e i (le_step h))) (e n (omega arith))

total-none : (n : ℕ) (f : ℕ → ℕ) → ((i : ℕ) → i < n → f i ≡ 0) → total n f ≡ 0
unfolding total
total-none zero f e = refl
total-none (suc n) f e = omega (arith, total-none n f (λ i h. e i (le_step h)), e n (omega arith))

total-add : (f : ℕ → ℕ) (a b : ℕ) → total (a + b) f ≡ total a f + total b (λ j. f (a + j))
unfolding total
total-add f a zero = let z : a + 0 ≡ a = omega arith in rw z (omega arith)
total-add f a (suc b) = let z : a + suc b ≡ suc (a + b) = omega arith in rw z (omega (arith, total-add f a b))

total-rows : (f : ℕ → ℕ) (n : ℕ) → total (n * 16) f ≡ total n (λ z. total 16 (λ j. f (z * 16 + j)))
unfolding total
total-rows f zero = refl
total-rows f (suc n) = let z : suc n * 16 ≡ n * 16 + 16 = omega arith in rw z (total-add f (n * 16) 16 ∙ ap (λ (k : ℕ). k + total 16 (λ j. f (n * 16 + j))) (total-rows f n))

-- those past k are none
total-short : (f : ℕ → ℕ) (k n : ℕ) → k ≤ n → ((j : ℕ) → k ≤ j → j < n → f j ≡ 0) → total n f ≡ total k f
total-short f k n h none =
    let z : n ≡ k + (n - k) = omega arith in
    ap (λ (m : ℕ). total m f) z ∙ total-add f k (n - k) ∙ omega (arith, total-none (n - k) (λ j. f (k + j)) (λ i l. none (k + i) (omega arith) (omega arith)))

sizes-total : (ms : List ℕ) (n : ℕ) → n ≤ length ms → sizes (take n ms) ≡ total n (λ i. size (get_or ms i 0))
unfolding sizes total
sizes-total ms zero h = refl
sizes-total ms (suc n) h = sizes-one ms n (omega arith) ∙ ap (λ (k : ℕ). k + size (get_or ms n 0)) (sizes-total ms n (omega arith))

-- ---- by component

module _ (u : Universe) (law : Lawful u) (c : Configuration) (s : Sound u c) (z : ℕ) (hz : z < 32) where
  -- a row that no interface stands for is empty
  row-none : (j : ℕ) → j < 16 → (deployed c z ≡ true → j < (type_of u (kind_of c z)).interfaces → ⊥) → size (row c z j) ≡ 0
  row-none j hj never =
      none-tally 32 (λ y. member y (row c z j)) (λ y hy. by-test (member y (row c z j)) (λ m. let w = s.rows z j y hz hj hy m in absurd (never w.requirer w.fits.place)) (λ m. m))

  module _ (j : ℕ) (below : j < (type_of u (kind_of c z)).interfaces) where
    listed : lists u (kind_of c z) (name_of u (kind_of c z) j) ≡ true
    listed = any-hit (type_of u (kind_of c z)).interfaces (λ i. eqb (name_of u (kind_of c z) i) (name_of u (kind_of c z) j)) j below (eq-eqb (name_of u (kind_of c z) j) (name_of u (kind_of c z) j) refl)

    place-back : place_of u (kind_of c z) (name_of u (kind_of c z) j) ≡ j
    unfolding NamesDiffer
    place-back = let (l, e) = place_is u law (kind_of c z) (name_of u (kind_of c z) j) listed in law.named (kind_of c z) (place_of u (kind_of c z) (name_of u (kind_of c z) j)) j l below e

    row-bound : deployed c z ≡ true → (y : ℕ) → member y (row c z j) ≡ bound u c (name_of u (kind_of c z) j) z y
    unfolding bound
    row-bound d y = rw (d, listed, place-back) refl

    row-triples : size (row c z j) ≡ tally 32 (λ y. bound u c (name_of u (kind_of c z) j) z y)
    unfolding bound
    row-triples =
        by-test (deployed c z)
        (λ d. ap (tally 32) (λ i y. row-bound d y i))
        (λ d. row-none j (omega (arith, law.interfaces (kind_of c z))) (λ e. absurd (true≢false (sym e ∙ d))) ∙ sym (none-tally 32 (λ y. bound u c (name_of u (kind_of c z) j) z y) (λ y hy. rw d refl)))

  of-component : total 16 (λ j. size (row c z j)) ≡ triples_of u c z
  unfolding triples_of
  of-component =
      total-short (λ j. size (row c z j)) (type_of u (kind_of c z)).interfaces 16 (law.interfaces (kind_of c z)) (λ j past hj. row-none j hj (λ _ l. omega arith))
      ∙ total-same (type_of u (kind_of c z)).interfaces (λ j. size (row c z j)) (λ j. tally 32 (λ y. bound u c (name_of u (kind_of c z) j) z y)) (λ j h. row-triples j h)

pub bindings-are-counted : BindingsAreCounted
unfolding BindingsAreCounted
bindings-are-counted u acts law known =
    let c = (run u nothing acts).configuration in
    let s = points-sound u law acts known in
    ap sizes (sym (take_all 512 c.bound (omega (arith, s.bound-length))))
    ∙ sizes-total c.bound 512 (omega (arith, s.bound-length))
    ∙ total-rows (λ i. size (get_or c.bound i 0)) 32
    ∙ total-same 32 (λ z. total 16 (λ j. size (row c z j))) (triples_of u c) (λ z hz. of-component u law c s z hz)
