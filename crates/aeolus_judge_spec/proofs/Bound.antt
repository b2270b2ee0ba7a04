-- The report of a sound configuration has at most 1,811 bytes.
-- Assumes nothing.
use Prim.Native.Nat.{ℕ, zero, suc, ◌+◌, ◌*◌, ◌/◌, ◌%◌, ◌<◌, ◌≤◌}
use mathlib.Core.Bool.{◌&&◌, and-false, cond}
use mathlib.Core.Path.{◌≡◌, refl, ap}
use mathlib.Core.Logic.{⊎_elim}
use native.Mathlib.Nat.{le_step}
use native.Mathlib.Omega.{arith}
use lib.Dec.{eqb}
use lib.ListN.{length, get_or, take, length-append}
use lib.Seq.{take_all}
use borrow.Author.Tests.{eq-eqb, ne_eqb}
use Rattle.sets.specs.Test.{tally}
use Rattle.sets.specs.Mask.{member}
use Rattle.sets.proofs.Laws.{below-cases}
use Rattle.item_spec.specs.Reader.{bytes}
use Rattle.item_spec.specs.Write.{in_turn, one_text, two_text, three_text}
use Rattle.item_spec.proofs.Tests.{by-test}
use Rattle.report_spec.proofs.Sums.{sum, sums, turns-le, length-in_turns, sums-add, sums_none, sums-spike}
use Rattle.report_spec.proofs.Widths.{number-le}
use Rattle.report_spec.proofs.Bound.{count-le}
use Rattle.aeolus_model.specs.Model.{Universe, Configuration, name_of, place_of, lists, kind_of, state_of, deployed, bound_at}
use Rattle.aeolus_rules_spec.specs.Definition1.{Lawful}
use Rattle.aeolus_rules_spec.specs.Bind.{sizes, bindings}
use Rattle.aeolus_rules_spec.specs.Run.{Ran}
use Rattle.aeolus_rules_spec.proofs.Exactly.{both}
use Rattle.aeolus_rules_spec.proofs.Sizes.{tally-le}
use Rattle.aeolus_rules_spec.proofs.Bindings.{size, sizes-one}
use Rattle.aeolus_rules_spec.proofs.Kept.{Sound, place_is, place-small}
use Rattle.aeolus_judge_spec.specs.Report.{component_text, binding_text, component_at, providers_text, bindings_at, components_text, bindings_text, head_part, components_part, bindings_part, report}

-- ---- sums

-- one term of a sum
term-le : (f : ℕ → ℕ) (n i : ℕ) → i < n → f i ≤ sum f n
unfolding sum
term-le f zero i h = absurd (omega arith)
term-le f (suc n) i h = ⊎_elim (λ e. omega (arith, ap f e)) (λ l. omega (arith, term-le f n i l)) (below-cases h)

-- each at most 18 times another
times-le : (f g : ℕ → ℕ) (n : ℕ) → ((k : ℕ) → k < n → f k ≤ 18 * g k) → sum f n ≤ 18 * sum g n
unfolding sum
times-le f g zero h = omega arith
times-le f g (suc n) h = omega (arith, times-le f g n (λ k l. h k (le_step l)), h n (omega arith))

together : (x y z : ℕ) {t k m : ℕ} → y ≤ t → z ≤ k → x ≤ y + z → m ≡ t + k → x ≤ m
together x y z a b d e = omega arith

-- ---- lines

component-le : (z k q : ℕ) → z < 32 → k < 16 → q < 16 → length (component_text z k q) ≤ 19
unfolding component_text three_text two_text one_text
component-le z k q hz hk hq = simp length-append (omega (arith, number-le 1 z (omega arith), number-le 1 k (omega arith), number-le 1 q (omega arith)))

binding-le : (r z y : ℕ) → r < 256 → z < 32 → y < 32 → length (binding_text r z y) ≤ 18
unfolding binding_text three_text two_text one_text
binding-le r z y hr hz hy = simp length-append (omega (arith, number-le 2 r (omega arith), number-le 1 z (omega arith), number-le 1 y (omega arith)))

providers-le : (n r z m : ℕ) → n ≤ 32 → r < 256 → z < 32 → length (providers_text n r z m) ≤ 18 * tally n (λ y. member y m)
unfolding providers_text in_turn tally
providers-le zero r z m h hr hz = omega arith
providers-le (suc n) r z m h hr hz =
    let rest = providers-le n r z m (omega arith) hr hz in
    by-test (member n m)
    (λ e. rw e (simp length-append (omega (arith, binding-le r z n hr hz (omega arith)))))
    (λ e. rw e (simp length-append (omega arith)))

module _ (u : Universe) (law : Lawful u) (c : Configuration) (s : Sound u c) where
  components-le : length (components_text c) ≤ 608
  unfolding components_text component_at
  components-le =
      turns-le (component_at c) 19 32 (λ z h. by-test (deployed c z)
      (λ e. rw e (component-le z (kind_of c z) (state_of c z) h (omega (arith, s.kind z h e, law.types))
      (omega (arith, s.state z h e, law.states (kind_of c z) (s.kind z h e)))))
      (λ e. rw e (omega arith)))

  -- what row n of the bindings adds at the interface r of z
  abbrev adds : ℕ → ℕ → ℕ → ℕ
  adds n r z = cond (eqb (name_of u (kind_of c (n / 16)) (n % 16)) r && eqb (n / 16) z) (size (get_or c.bound n 0)) 0

  adds-le : (n : ℕ) → sums (adds n) 256 32 ≤ size (get_or c.bound n 0)
  adds-le n =
      sums-spike (adds n) name (n / 16) (size (get_or c.bound n 0)) 256 32
      (λ r z d. rw (ne_eqb name r d) (omega arith))
      (λ r z d. rw (ne_eqb (n / 16) z d, and-false (eqb name r)) (omega arith))
      (rw (eq-eqb name name refl, eq-eqb (n / 16) (n / 16) refl) (omega arith))
    where
      name : ℕ
      name = name_of u (kind_of c (n / 16)) (n % 16)

  -- the first n rows
  abbrev up_to : ℕ → ℕ → ℕ → ℕ
  up_to n r z = sum (λ i. adds i r z) n

  up_none : (r z : ℕ) → up_to 0 r z ≤ 0
  unfolding sum
  up_none r z = omega arith

  up_more : (n r z : ℕ) → up_to (suc n) r z ≤ up_to n r z + adds n r z
  unfolding sum
  up_more n r z = omega arith

  rows-le : (n : ℕ) → n ≤ 512 → sums (up_to n) 256 32 ≤ sizes (take n c.bound)
  rows-le zero h = let l = sums_none (up_to 0) 256 32 up_none in omega arith
  rows-le (suc n) h =
      let l = rows-le n (omega arith) in
      let a = adds-le n in
      let m = sums-add (up_to (suc n)) (up_to n) (adds n) 256 32 (up_more n) in
      let e = sizes-one c.bound n (omega (arith, s.bound-length)) in
      together (sums (up_to (suc n)) 256 32) (sums (up_to n) 256 32) (sums (adds n) 256 32) l a m e

  -- a line for each provider of the row that stands for r
  line-le : (r z : ℕ) → r < 256 → z < 32 → length (bindings_at u c r z) ≤ 18 * up_to 512 r z
  unfolding bindings_at
  line-le r z hr hz =
      by-test (deployed c z && lists u (kind_of c z) r)
      (λ e. let (_, l) = both (deployed c z) e in
      let p = place-small u law (kind_of c z) r l in
      let at : (z * 16 + place_of u (kind_of c z) r) / 16 ≡ z = omega arith in
      let place : (z * 16 + place_of u (kind_of c z) r) % 16 ≡ place_of u (kind_of c z) r = omega arith in
      let own : adds (z * 16 + place_of u (kind_of c z) r) r z ≡ size (bound_at c z (place_of u (kind_of c z) r))
      = rw (at, place, eq-eqb _ r (place_is u law (kind_of c z) r l).1, eq-eqb z z refl) in
      rw e (omega (
        arith,
        providers-le 32 r z (bound_at c z (place_of u (kind_of c z) r)) (omega arith) hr hz,
        own,
        term-le (λ i. adds i r z) 512 (z * 16 + place_of u (kind_of c z) r) (omega arith),
      )))
      (λ e. rw e (omega arith))

  bindings-le : length (bindings_text u c) ≤ 1152
  unfolding bindings_text
  bindings-le =
      omega (
        arith,
        length-in_turns (bindings_at u c) 256 32,
        times-le (λ r. sum (λ z. length (bindings_at u c r z)) 32) (λ r. sum (up_to 512 r) 32) 256
            (λ r hr. times-le (λ z. length (bindings_at u c r z)) (up_to 512 r) 32 (λ z hz. line-le r z hr hz)),
        rows-le 512 (omega arith),
        ap sizes (take_all 512 c.bound (omega (arith, s.bound-length))),
        s.few,
      )

pub report-le : (u : Universe) (w : Ran) → Lawful u → Sound u w.configuration → w.accepted ≤ 1024 → w.refused < 100 → length (report u w) ≤ 1811
unfolding report head_part components_part bindings_part
report-le u w law s accepted refused =
    let c = w.configuration in
    simp length-append (omega (
      arith,
      count-le (bytes "accepted=") 3 w.accepted (omega arith),
      count-le (bytes "refused=") 1 w.refused refused,
      count-le (bytes "components=") 1 (tally 32 (deployed c)) (omega (arith, tally-le 32 (deployed c))),
      components-le u law c s,
      count-le (bytes "bindings=") 1 (bindings c) (omega (arith, s.few)),
      bindings-le u law c s,
    ))
