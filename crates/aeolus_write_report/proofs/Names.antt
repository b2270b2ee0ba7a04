-- Names for which there are no bindings have no line, so that the next one for which there are is the next to be written.
-- Assumes nothing.
use mathlib.Core.Path.{◌≡◌, refl}
use mathlib.Core.Logic.{◌⊎◌, ⊎_elim, by_cases}
use mathlib.Core.Bool.{true}
use mathlib.Core.List.{List, []}
use Prim.Native.Nat.{ℕ, zero, suc, ◌≤◌, ◌<◌}
use native.Mathlib.Nat.{le_step}
use native.Mathlib.Omega.{arith}
use native.Mathlib.Numerals.{add-one}
use native.Mathlib.Decide.{ℕ_discrete}
use lib.Dec.{eqb}
use borrow.Author.Tests.{eqb-true}
use Rattle.sets.proofs.Laws.{member-none}
use Rattle.item_spec.proofs.Tests.{by-test}
use Rattle.item_spec.specs.Write.{in_turn}
use Rattle.write_items.proofs.Turns.{Turns, turns-empty}
use Rattle.aeolus_model.specs.Model.{Universe, Configuration, type_of, name_of, place_of, lists, kind_of, deployed, bound_at}
use Rattle.aeolus_rules_spec.proofs.Exactly.{find-is}
use Rattle.aeolus_judge_spec.specs.Report.{providers_text, bindings_at}
use Rattle.aeolus_write_report.specs.Names.{InUse, Next}

-- ---- looked at one after the other

module _ {u : Universe} {c : Configuration} {from best : ℕ} where
  pub next-none : {P : ℕ → ℕ → Type 0} → ((z j : ℕ) → P z j → ⊥) → Next u c from best best P
  next-none f = record { most = omega arith; low = λ h. h; told = λ z j p. absurd (f z j p) }

  pub next_more : {a n : ℕ} {P Q R : ℕ → ℕ → Type 0} → Next u c from best a P → Next u c from a n Q → ((z j : ℕ) → R z j → P z j ⊎ Q z j) → Next u c from best n R
  next_more {a} {n} g h f = record {
    most = omega (arith, g.most, h.most);
    low = λ l. h.low (g.low l);
    told = λ z j r some l. ⊎_elim (λ p. let b = g.told z j p some l in omega (arith, h.most)) (λ q. h.told z j q some l) (f z j r);
  }

  pub next-less : {n : ℕ} {P R : ℕ → ℕ → Type 0} → Next u c from best n P → ((z j : ℕ) → R z j → P z j) → Next u c from best n R
  next-less g f = record { most = g.most; low = g.low; told = λ z j r. g.told z j (f z j r) }

-- one interface looked at: nothing is bound for it, its name comes before `from`, or not before `next`, or it is the next
module _ {u : Universe} {c : Configuration} {z j from next : ℕ} where
  pub next-unbound : bound_at c z j ≡ 0 → Next u c from next next (λ y i. (y ≡ z) × (i ≡ j))
  next-unbound e = record { most = omega arith; low = λ h. h; told = λ y i p some l. absurd (some (rw (p.0, p.1) e)) }

  pub next-early : {r : ℕ} → r ≡ name_of u (kind_of c z) j → r < from → Next u c from next next (λ y i. (y ≡ z) × (i ≡ j))
  next-early e h = record { most = omega arith; low = λ h. h; told = λ y i p some l. absurd (let l = rw (p.0, p.1) at l in omega arith) }

  pub next-late : {r : ℕ} → r ≡ name_of u (kind_of c z) j → next ≤ r → Next u c from next next (λ y i. (y ≡ z) × (i ≡ j))
  next-late e h = record { most = omega arith; low = λ h. h; told = λ y i p some l. rw (p.0, p.1) (omega arith) }

  pub next-is : {r : ℕ} → r ≡ name_of u (kind_of c z) j → from ≤ r → r < next → Next u c from next r (λ y i. (y ≡ z) × (i ≡ j))
  next-is e l h = record { most = omega arith; low = λ _. l; told = λ y i p some l. rw (p.0, p.1) (omega arith) }

-- ---- no line

none-turn : (f : ℕ → List ℕ) (n : ℕ) → ((i : ℕ) → i < n → f i ≡ []) → in_turn f n ≡ []
unfolding in_turn
none-turn f zero g = refl
none-turn f (suc n) g = rw (none-turn f n (λ i h. g i (le_step h)), g n (omega arith))

module _ (u : Universe) (c : Configuration) (from n : ℕ) (next : Next u c from 256 n (λ z j. (z < 32) × InUse u c z j)) (r : ℕ) (l : from ≤ r) (h : r < n) where
  no-provider : (z : ℕ) → z < 32 → deployed c z ≡ true → lists u (kind_of c z) r ≡ true → bound_at c z (place_of u (kind_of c z) r) ≡ 0
  no-provider z w d e =
      let (below, is) = find-is (type_of u (kind_of c z)).interfaces (λ j. eqb (name_of u (kind_of c z) j) r) e in
      let named : name_of u (kind_of c z) (place_of u (kind_of c z) r) ≡ r = eqb-true _ _ is in
      by_cases (ℕ_discrete (bound_at c z (place_of u (kind_of c z) r)) 0) (λ z. z)
      (λ some. let b = next.told z (place_of u (kind_of c z) r) (w, (d, below)) some (omega arith) in absurd (omega arith))

  no_line : (z : ℕ) → z < 32 → bindings_at u c r z ≡ []
  unfolding bindings_at providers_text
  no_line z w =
      by-test (deployed c z)
      (λ d. by-test (lists u (kind_of c z) r)
      (λ e. rw (d, e, no-provider z w d e) (none-turn _ 32 (λ y _. rw (member-none y))))
      (λ e. rw (d, e)))
      (λ d. rw d)

  pub no_lines : in_turn (bindings_at u c r) 32 ≡ []
  no_lines = none-turn _ 32 no_line

-- ---- lines that are none passed over

pub turns-over : {f : ℕ → List ℕ} {n k : ℕ} {old new : List ℕ} {used : ℕ} (to : ℕ) → Turns f n k old new used → k ≤ to → to ≤ n
    → ((i : ℕ) → k ≤ i → i < to → f i ≡ []) → Turns f n to old new used
turns-over {k = k} zero g a b e = let z : k ≡ 0 = omega arith in rw z at g
turns-over {k = k} (suc to) g a b e =
    by_cases (ℕ_discrete k (suc to)) (λ z. rw z at g)
    (λ d. rw (← add-one to) (turns-empty (turns-over to g (omega arith) (omega arith) (λ i l h. e i l (omega arith))) (omega arith) (e to (omega arith) (omega arith))))
