-- A queue's slots, one after the other.
-- Assumes nothing.
use mathlib.Core.Path.{◌≡◌, refl, sym, ap, ◌∙◌}
use mathlib.Core.List.{List, [], ◌∷◌, ◌++◌, append_assoc, append-nil}
use Prim.Native.Nat.{ℕ, zero, suc, ◌+◌, ◌-◌, ◌≤◌, ◌<◌}
use native.Mathlib.Omega.{arith}
use borrow.Author.Tests.{eq-eqb, ne_eqb}
use Rattle.item_spec.specs.Write.{number_text}
use Rattle.model.specs.View.{stamp_in, behavior_in, list_of}
use Rattle.model.proofs.View.{list-head, list-snoc}
use Rattle.report_spec.specs.Report.{slot_text, more_slots, queue_text}

pub slot-plain : (s : ℕ) → s < 8 → slot_text s ≡ number_text (behavior_in s)
unfolding slot_text
slot-plain s h = rw (eq-eqb (stamp_in s) 0 (omega arith)) (append-nil (number_text (behavior_in s)))

pub slot-pair : (s : ℕ) → 8 ≤ s → slot_text s ≡ number_text (behavior_in s) ++ ((58 ∷ []) ++ number_text (stamp_in s - 1))
unfolding slot_text
slot-pair s h = rw (ne_eqb (stamp_in s) 0 (λ e. omega arith)) refl

more-snoc : (q : List ℕ) (s : ℕ) → more_slots (q ++ (s ∷ [])) ≡ more_slots q ++ (43 ∷ slot_text s)
unfolding more_slots
more-snoc [] s = append-nil (43 ∷ slot_text s)
more-snoc (x ∷ q) s =
    ap (◌++◌ (43 ∷ slot_text x)) (more-snoc q s) ∙ sym (append_assoc (43 ∷ slot_text x) (more_slots q) (43 ∷ slot_text s))

module _ (f : ℕ → ℕ) where
  -- those after the head, up to the i-th
  abbrev pub further : ℕ → List ℕ
  further i = more_slots (list_of (i - 1) (λ r. f (suc r)))

  pub queue-none : (n : ℕ) → n ≡ 0 → queue_text (list_of n f) ≡ 45 ∷ []
  unfolding queue_text list_of
  queue-none zero e = refl
  queue-none (suc n) e = absurd (omega arith)

  pub queue-some : (n : ℕ) → (n ≡ 0 → ⊥) → queue_text (list_of n f) ≡ slot_text (f 0) ++ further n
  unfolding queue_text
  queue-some n h = ap queue_text (list-head n f (omega arith))

  pub further-none : further 1 ≡ []
  unfolding more_slots list_of
  further-none = refl

  pub further-turn : (i : ℕ) → 1 ≤ i → further (i + 1) ≡ further i ++ (43 ∷ slot_text (f i))
  further-turn zero h = absurd (omega arith)
  further-turn (suc n) h =
      let e : suc n + 1 - 1 ≡ suc n = omega arith in
      let d : suc n - 1 ≡ n = omega arith in
      rw (e, d, list-snoc n (λ r. f (suc r))) (more-snoc (list_of n (λ r. f (suc r))) (f (suc n)))
