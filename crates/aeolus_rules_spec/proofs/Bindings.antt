-- Rows of bindings: how many stand after a row has changed, and what is left of them after a component goes.
-- Assumes nothing.
use mathlib.Core.Path.{◌≡◌, refl, sym, ap, ◌∙◌}
use mathlib.Core.Bool.{Bool, true, false, not, ◌&&◌, ◌||◌, and-false, or-true, or-false}
use mathlib.Core.List.{List, [], ◌∷◌}
use Prim.Native.Nat.{ℕ, zero, suc, ◌+◌, ◌/◌, ◌≤◌, ◌<◌}
use native.Mathlib.Omega.{arith}
use native.Mathlib.Nat.{le_step}
use lib.Dec.{eqb}
use lib.ListN.{length, get_or, set, take, replicate}
use borrow.Author.Tests.{ne_eqb, eqb-true}
use Rattle.sets.specs.Test.{tally}
use Rattle.sets.specs.Mask.{member, with, without, only}
use Rattle.sets.proofs.Laws.{member-past, member-with, member-without, member-only}
use Rattle.item_spec.proofs.Tests.{by-test}
use Rattle.aeolus_rules_spec.specs.Bind.{sizes}
use Rattle.aeolus_rules_spec.specs.Del.{freed}

-- ---- counts

abbrev pub size : ℕ → ℕ
size m = tally 32 (λ y. member y m)

tally-mono : (n : ℕ) (p q : ℕ → Bool) → ((i : ℕ) → i < n → p i ≡ true → q i ≡ true) → tally n p ≤ tally n q
unfolding tally
tally-mono zero p q f = omega arith
tally-mono (suc n) p q f =
    let h = tally-mono n p q (λ i l. f i (le_step l)) in
    by-test (p n)
    (λ e. rw (e, f n (omega arith) e) (omega arith))
    (λ e. rw e (omega arith))

-- one more passes at most
tally-one : (n : ℕ) (p : ℕ → Bool) (y : ℕ) → tally n (λ j. p j || eqb j y) ≤ suc (tally n p)
unfolding tally
tally-one zero p y = omega arith
tally-one (suc n) p y =
    by-test (eqb n y)
    (λ e. let h = tally-mono n (λ j. p j || eqb j y) p (λ i l. rw (ne_eqb i y (λ q. omega (arith, eqb-true n y e)), or-false (p i)) (λ t. t)) in
    rw (e, or-true (p n)) (omega arith))
    (λ e. let h = tally-one n p y in rw (e, or-false (p n)) (omega arith))

size-with : (y m : ℕ) → size (with y m) ≤ suc (size m)
size-with y m =
    omega (
      arith,
      tally-mono 32 (λ j. member j (with y m)) (λ j. member j m || eqb j y) (λ j h e. sym (member-with j y m h) ∙ e),
      tally-one 32 (λ j. member j m) y,
    )

and_first : (a b : Bool) → a && b ≡ true → a ≡ true
and_first true b e = refl
and_first false b e = e

size-without : (m n : ℕ) → size (without m n) ≤ size m
size-without m n = tally-mono 32 (λ j. member j (without m n)) (λ j. member j m) (λ j h e. and_first (member j m) (not (member j n)) (sym (member-without j m n h) ∙ e))

-- a row that grows by k at most
sizes-set : (ms : List ℕ) (i m k : ℕ) → size m ≤ k + size (get_or ms i 0) → sizes (set ms i m) ≤ k + sizes ms
unfolding sizes
sizes-set [] i m k h = omega arith
sizes-set (x ∷ ms) zero m k h = omega arith
sizes-set (x ∷ ms) (suc i) m k h = let s = sizes-set ms i m k h in omega arith

pub sizes-with : (ms : List ℕ) (i y : ℕ) → sizes (set ms i (with y (get_or ms i 0))) ≤ 1 + sizes ms
sizes-with ms i y = sizes-set ms i (with y (get_or ms i 0)) 1 (omega (arith, size-with y (get_or ms i 0)))

pub sizes-without : (ms : List ℕ) (i n : ℕ) → sizes (set ms i (without (get_or ms i 0) n)) ≤ sizes ms
sizes-without ms i n = omega (arith, sizes-set ms i (without (get_or ms i 0) n) 0 (omega (arith, size-without (get_or ms i 0) n)))

member-none : (y : ℕ) → member y 0 ≡ false
member-none y = member-past 0 y 0 (omega arith) (omega arith)

pub none-size : (n : ℕ) → tally n (λ y. member y 0) ≡ 0
unfolding tally
none-size zero = refl
none-size (suc n) = rw (member-none n, none-size n)

pub sizes-freed : (z i : ℕ) (ms : List ℕ) → sizes (freed z i ms) ≤ sizes ms
unfolding sizes freed
sizes-freed z i [] = omega arith
sizes-freed z i (m ∷ ms) =
    let s = sizes-freed z (suc i) ms in
    by-test (eqb (i / 16) z)
    (λ e. rw e (omega (arith, none-size 32)))
    (λ e. rw e (omega (arith, size-without m (only z))))

-- row by row
pub sizes-one : (ms : List ℕ) (i : ℕ) → i < length ms → sizes (take (suc i) ms) ≡ sizes (take i ms) + size (get_or ms i 0)
unfolding sizes
sizes-one [] i h = absurd (omega arith)
sizes-one (m ∷ ms) zero h = omega arith
sizes-one (m ∷ ms) (suc i) h = omega (arith, sizes-one ms i (omega arith))

-- ---- after z has gone

pub freed-member : (z i : ℕ) (ms : List ℕ) (n y : ℕ) → y < 32
    → member y (get_or (freed z i ms) n 0) ≡ (not (eqb ((i + n) / 16) z) && (member y (get_or ms n 0) && not (eqb y z)))
unfolding freed
freed-member z i [] n y h = member-none y ∙ rw (member-none y) (sym (and-false (not (eqb ((i + n) / 16) z))))
freed-member z i (m ∷ ms) zero y h =
    let same : i + 0 ≡ i = omega arith in
    rw same (by-test (eqb (i / 16) z)
    (λ e. rw e (member-none y))
    (λ e. rw e (member-without y m (only z) h ∙ ap (λ (b : Bool). member y m && not b) (member-only y z h))))
freed-member z i (m ∷ ms) (suc n) y h = let same : i + suc n ≡ suc i + n = omega arith in rw same (freed-member z (suc i) ms n y h)

pub length-freed : (z i : ℕ) (ms : List ℕ) → length (freed z i ms) ≡ length ms
unfolding freed
length-freed z i [] = refl
length-freed z i (m ∷ ms) = ap suc (length-freed z (suc i) ms)

-- ---- rows that are all empty

pub get_d_replicate : (n i : ℕ) → ◌≡◌ {A = ℕ} (get_or (replicate n 0) i 0) 0
get_d_replicate zero i = refl
get_d_replicate (suc n) zero = refl
get_d_replicate (suc n) (suc i) = get_d_replicate n i

pub sizes-none : (n : ℕ) → sizes (replicate n 0) ≡ 0
unfolding sizes
sizes-none zero = refl
sizes-none (suc n) = omega (arith, none-size 32, sizes-none n)
