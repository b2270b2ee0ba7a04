-- Rows of bindings one by one: counted, joined, and freed of a component.
-- Assumes nothing.
use mathlib.Core.Path.{◌≡◌, refl, sym, ap, ap₂, ◌∙◌}
use mathlib.Core.Logic.{by_cases}
use mathlib.Core.Bool.{Bool, true, false, cond, ◌||◌, true≢false}
use mathlib.Core.List.{List, [], ◌∷◌}
use Prim.Native.Nat.{ℕ, zero, suc, ◌+◌, ◌*◌, ◌/◌, ◌%◌, ◌^◌, ◌≤◌, ◌<◌}
use native.Mathlib.Omega.{arith}
use native.Mathlib.Nat.{pow-suc}
use native.Mathlib.Numerals.{add-one}
use native.Mathlib.Decide.{ℕ_discrete, dec_lt}
use lib.Dec.{eqb}
use lib.Count.{ones, ones_step}
use lib.ListN.{length, get_or, take, length-set}
use lib.Seq.{take_all, get_or-set_same, get_or-set_other, ext_get_or}
use borrow.Author.Tests.{eq-eqb, ne_eqb}
use Rattle.sets.specs.Test.{tally}
use Rattle.sets.specs.Mask.{member, without, only, joined}
use Rattle.sets.proofs.Laws.{member-zero, member-suc, member-none, member-joined, same-members}
use Rattle.sets.proofs.Tally.{tally-same, tally-first}
use Rattle.model.proofs.View.{length-list}
use Rattle.areas.specs.Area.{word}
use Rattle.aeolus_model.specs.Model.{Configuration}
use Rattle.aeolus_model.specs.Words.{configuration_in}
use Rattle.aeolus_rules_spec.specs.Bind.{sizes}
use Rattle.aeolus_rules_spec.specs.Del.{freed}
use Rattle.aeolus_rules_spec.proofs.Bindings.{size, sizes-one, none-size, length-freed}
use Rattle.aeolus_step.specs.Rows.{EmptyRows, first_sizes}
use Rattle.aeolus_step.specs.Freed.{with_rows, freed_at}

pub rows_long : (ws : List ℕ) → length (configuration_in ws).bound ≡ 512
unfolding configuration_in
rows_long ws = length-list 512 (λ k. word ws (64 + k))

-- ---- counted

-- the digits of a set that are 1 are its members
pub ones-size : (n m : ℕ) → m < 2 ^ n → ones m ≡ tally n (λ y. member y m)
unfolding tally ones
ones-size zero m h = let e : m ≡ 0 = omega arith in rw e
ones-size (suc n) m h =
    ones_step m ∙ ap₂ ◌+◌ first (ones-size n (m / 2) (omega (arith, pow-suc 2 n)) ∙ tally-same n _ _ (λ i _. sym (member-suc i m)))
    ∙ sym (tally-first n (λ y. member y m))
  where
    first : m % 2 ≡ elim (member 0 m) [ true ↦ 1 | false ↦ 0 ]
    first =
        by_cases (ℕ_discrete (m % 2) 1)
        (λ e. rw (member-zero m, eq-eqb _ 1 e) e)
        (λ d. rw (member-zero m, ne_eqb _ 1 d) (omega arith))

pub sizes-start : (ms : List ℕ) → 0 ≡ sizes (take 0 ms)
unfolding sizes
sizes-start ms = refl

pub sizes-all : (ws : List ℕ) → sizes (take 512 (configuration_in ws).bound) ≡ sizes (configuration_in ws).bound
sizes-all ws = ap sizes (take_all 512 (configuration_in ws).bound (omega (arith, rows_long ws)))

module _ (ws : List ℕ) (z : ℕ) where
  pub sizes-more : (j : ℕ) → z * 16 + j < 512
      → first_sizes (configuration_in ws) (z * 16 + (j + 1)) ≡ first_sizes (configuration_in ws) (z * 16 + j) + size (get_or (configuration_in ws).bound (z * 16 + j) 0)
  sizes-more j h =
      let e : z * 16 + (j + 1) ≡ suc (z * 16 + j) = omega arith in
      rw e (sizes-one (configuration_in ws).bound (z * 16 + j) (rw (rows_long ws) h))

  -- none in empty rows
  pub sizes-none-more : (n : ℕ) → z * 16 + n ≤ 512 → EmptyRows (configuration_in ws) z n
      → first_sizes (configuration_in ws) (z * 16 + n) ≡ first_sizes (configuration_in ws) (z * 16) + 0
  unfolding EmptyRows
  sizes-none-more zero h f = let e : z * 16 + 0 ≡ z * 16 = omega arith in rw e (omega arith)
  sizes-none-more (suc n) h f =
      let e : suc n ≡ n + 1 = omega arith in
      rw e (sizes-more n (omega arith)
      ∙ rw (f n (omega arith)) (omega (arith, none-size 32, sizes-none-more n (omega arith) (λ j l. f j (omega arith)))))

-- ---- rows joined

or-none : (a b : Bool) → (a || b) ≡ false → (a ≡ false) × (b ≡ false)
or-none false false e = (refl, refl)
or-none false true e = (refl, e)
or-none true b e = (e, absurd (true≢false e))

joined-none : (a b : ℕ) → a < 2 ^ 32 → b < 2 ^ 32 → joined a b ≡ 0 → (a ≡ 0) × (b ≡ 0)
joined-none a b f g e =
    (same-members 32 a 0 f (omega arith) (λ j h. (none j h).0 ∙ sym (member-none j)), same-members 32 b 0 g (omega arith) (λ j h. (none j h).1 ∙ sym (member-none j)))
  where
    none : (j : ℕ) → j < 32 → (member j a ≡ false) × (member j b ≡ false)
    none j h = or-none (member j a) (member j b) (sym (member-joined j a b h) ∙ ap (member j) e ∙ member-none j)

pub empty-start : (c : Configuration) (z : ℕ) → EmptyRows c z 0
unfolding EmptyRows
empty-start c z j h = absurd (omega arith)

pub empty-more : (c : Configuration) (z j : ℕ) {a b m : ℕ} → a < 2 ^ 32 → b < 2 ^ 32 → (a ≡ 0 → EmptyRows c z j) → b ≡ get_or c.bound (z * 16 + j) 0
    → m ≡ joined a b → m ≡ 0 → EmptyRows c z (j + 1)
unfolding EmptyRows
empty-more c z j {a} {b} f g before is e none i h =
    let (x, y) = joined-none a b f g (sym e ∙ none) in
    by_cases (dec_lt i j) (λ l. before x i l) (λ l. let q : i ≡ j = omega arith in rw q (sym is ∙ y))

-- ---- freed of z, the first n of them

unfoldable pub turned : ℕ → List ℕ → ℕ → List ℕ
turned z ms zero = ms
turned z ms (suc n) = freed_at z (turned z ms n) n

pub turned-start : (z : ℕ) (c : Configuration) → c ≡ with_rows c (turned z c.bound 0)
unfolding turned with_rows
turned-start z c = refl

pub turned_more : (z : ℕ) (c d : Configuration) (n : ℕ) → d ≡ with_rows c (turned z c.bound n)
    → with_rows d (freed_at z d.bound n) ≡ with_rows c (turned z c.bound (n + 1))
unfolding turned with_rows
turned_more z c d n e = rw (e, add-one n)

turned-long : (z : ℕ) (ms : List ℕ) (n : ℕ) → length (turned z ms n) ≡ length ms
unfolding turned
turned-long z ms zero = refl
turned-long z ms (suc n) = length-set (turned z ms n) n _ ∙ turned-long z ms n

-- row k without z
abbrev freed_row : ℕ → List ℕ → ℕ → ℕ
freed_row z ms k = cond (eqb (k / 16) z) 0 (without (get_or ms k 0) (only z))

turned-past : (z : ℕ) (ms : List ℕ) (n k : ℕ) → n ≤ k → get_or (turned z ms n) k 0 ≡ get_or ms k 0
unfolding turned
turned-past z ms zero k h = refl
turned-past z ms (suc n) k h = get_or-set_other (turned z ms n) n k _ 0 (λ e. omega arith) ∙ turned-past z ms n k (omega arith)

turned-at : (z : ℕ) (ms : List ℕ) (n k : ℕ) → k < n → k < length ms → get_or (turned z ms n) k 0 ≡ freed_row z ms k
unfolding turned
turned-at z ms zero k h l = absurd (omega arith)
turned-at z ms (suc n) k h l =
    by_cases (ℕ_discrete k n)
    (λ e. rw e (get_or-set_same (turned z ms n) n _ 0 (omega (arith, turned-long z ms n)) ∙ ap (λ (m : ℕ). cond (eqb (n / 16) z) 0 (without m (only z))) (turned-past z ms n n (omega arith))))
    (λ d. get_or-set_other (turned z ms n) n k _ 0 d ∙ turned-at z ms n k (omega arith) l)

freed-at : (z i : ℕ) (ms : List ℕ) (k : ℕ) → k < length ms → get_or (freed z i ms) k 0 ≡ cond (eqb ((i + k) / 16) z) 0 (without (get_or ms k 0) (only z))
unfolding freed
freed-at z i [] k h = absurd (omega arith)
freed-at z i (m ∷ ms) zero h = let same : i + 0 ≡ i = omega arith in rw same
freed-at z i (m ∷ ms) (suc k) h = let same : i + suc k ≡ suc i + k = omega arith in rw same (freed-at z (suc i) ms k (omega arith))

turned-is : (z : ℕ) (ms : List ℕ) → turned z ms (length ms) ≡ freed z 0 ms
turned-is z ms =
    ext_get_or 0 (turned z ms (length ms)) (freed z 0 ms) (turned-long z ms (length ms) ∙ sym (length-freed z 0 ms))
    (λ k h. let l : k < length ms = omega (arith, turned-long z ms (length ms)) in
    turned-at z ms (length ms) k l l ∙ sym (freed-at z 0 ms k l ∙ (let same : 0 + k ≡ k = omega arith in rw same)))

pub turned-all : (z : ℕ) (ws : List ℕ) → with_rows (configuration_in ws) (turned z (configuration_in ws).bound 512) ≡ with_rows (configuration_in ws) (freed z 0 (configuration_in ws).bound)
turned-all z ws =
    ap (with_rows (configuration_in ws))
    (ap (turned z (configuration_in ws).bound) (sym (rows_long ws)) ∙ turned-is z (configuration_in ws).bound)
