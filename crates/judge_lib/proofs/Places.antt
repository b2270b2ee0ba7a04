-- The place of the line at fault lies within its text, and is told by a part of it.
-- Assumes nothing.
use Prim.Native.Nat.{ℕ, ◌+◌, ◌-◌, ◌≤◌, min, zero-le}
use mathlib.Core.List.{List, [], ◌∷◌}
use mathlib.Core.Path.{◌≡◌, refl, sym, ap, ◌∙◌}
use mathlib.Core.Logic.{⊎_elim, by_cases}
use native.Mathlib.Omega.{arith}
use native.Mathlib.Decide.{dec_lt}
use lib.Dec.{eqb, leb}
use lib.ListN.{length, take, drop, length-drop}
use lib.Seq.{take_all}
use types.Run.{OneOf}
use denote.Ref.{Bor}
use denote.Enum.Declared.{tag_of}
use Rattle.item_spec.proofs.Tests.{by-test}
use Rattle.model.specs.declared.Walked.{Walked}
use Rattle.model.specs.declared.Text.{Text}
use Rattle.model.specs.declared.Text.TheVariants as text
use Rattle.model.specs.contracts.Text.{the_type}
use Rattle.read_spec.specs.Place.{up_to_lf}
use Rattle.report_spec.specs.Report.{report}
use Rattle.start_spec.specs.Paper.{Paper, from}
use Rattle.judge_spec.specs.declared.Paper.{Paper as Lent}
use Rattle.judge_spec.specs.Lent.{begins, lent}
use Rattle.std.specs.Prelude.{Option, Some, None, unwrap_or}
use Rattle.judge_spec.specs.declared.Place.{Place}
use Rattle.judge_spec.specs.Course.{Course}
use Rattle.judge_spec.specs.Judged.{paper_text, lineless, fault_place, after_fault, no_room, step_place, after_walk, in_room, ending, judged}
use Rattle.judge_verdicts.proofs.Starts.{start-few}
use Rattle.judge_lib.specs.Part.{Part, holder, PartAt}
use Rattle.judge_lib.proofs.Order.{Told, in-sheet, in_start, in-answer, walks, course-told}

-- ---- within the text

size_few : (s : List ℕ) → length (up_to_lf s) ≤ length s
unfolding up_to_lf
size_few [] = zero-le
size_few (c ∷ s) = by-test (eqb c 10) (λ e. rw (e, up_to_lf) zero-le) (λ e. rw (e, up_to_lf) (omega (arith, size_few s)))

line-few : (s : List ℕ) (at : ℕ) → at ≤ length s → at + length (up_to_lf (drop at s)) ≤ length s
line-few s at h = omega (arith, size_few (drop at s), length-drop at s)

-- a place within the text that it names, of those that `lent` gives
module _ (lent : Text → List ℕ) where
  abbrev pub Within : Place → Type 0
  Within p = p.start + p.size ≤ length (lent p.text)

  pub fault-within : (x : Text) (n at : ℕ) → at ≤ length (lent x) → Within (fault_place x n at (lent x))
  unfolding fault_place
  fault-within x n at h = by-test (lineless n) (λ e. rw (e, fault_place) zero-le) (λ e. rw (e, fault_place) (line-few (lent x) at h))

  pub step-within : (refused accepted : ℕ) → Within (step_place refused accepted (lent text.Answer))
  unfolding step_place
  step-within refused accepted =
      by-test (eqb refused 0) (λ e. rw (e, step_place) (omega arith)) (λ e. rw (e, step_place) (line-few (lent text.Answer) _ (start-few (2 + accepted) (lent text.Answer))))

  pub walk-within : (room : ℕ) (w : Walked) (r : List ℕ) → Within (in_room room w r (lent text.Answer)).place
  unfolding in_room after_walk no_room
  walk-within room w r = by-test (leb (length r) room) (λ e. rw (e, in_room) (step-within w.refused w.accepted)) (λ e. rw (e, in_room) zero-le)

pub place-within : (s : Paper) (a : List ℕ) (room : ℕ) → Within (λ x. paper_text x s a) (judged s a room).place
unfolding judged ending after_fault
place-within s a room = go (course-told s a)
  where
    go : {z : Course Walked} → Told s.sheet s.beginning a z → Within (λ x. paper_text x s a) (ending s a room z).place
    go (in-sheet {n} {at} f) = fault-within (λ x. paper_text x s a) text.Sheet n at f
    go (in_start {n} {at} q f) = fault-within (λ x. paper_text x s a) text.Start n at f
    go (in-answer {n} {at} f) = fault-within (λ x. paper_text x s a) text.Answer n at f
    go (walks {x}) = walk-within (λ x. paper_text x s a) room x (report x)

-- ---- as a part of the text

-- a text that is neither the sheet nor the start: 0, 2 and 3 are the tags of Neither, Answer and Times
pub elsewhere : (x : Text) → OneOf (0 ∷ 2 ∷ 3 ∷ []) (tag_of the_type x) → (s b a : Bor (List ℕ)) → holder x s b a ≡ a
elsewhere text.Neither h s b a = refl
elsewhere text.Start h s b a = absurd (⊎_elim (λ z. omega (arith, z)) (⊎_elim (λ z. omega (arith, z)) (λ z. omega (arith, z))) h)
elsewhere text.Sheet h s b a = absurd (⊎_elim (λ z. omega (arith, z)) (⊎_elim (λ z. omega (arith, z)) (λ z. omega (arith, z))) h)
elsewhere text.Answer h s b a = refl
elsewhere text.Times h s b a = refl

-- as far as the text goes
pub part-taken : (s : List ℕ) (at n size : ℕ) → n ≡ min size (length s - at) → take (at + n - at) (drop at s) ≡ take size (drop at s)
part-taken s at n size e =
    by_cases (dec_lt size (length s - at))
    (λ h. ap (λ (k : ℕ). take k (drop at s)) (let q : at + n - at ≡ size = omega arith in q))
    (λ h. take_all (at + n - at) (drop at s) (omega (arith, length-drop at s)) ∙ sym (take_all size (drop at s) (omega (arith, length-drop at s))))

-- a place within its text tells a part of it, q being what is promised of p; no place is in a start that is not lent
pub part_placed : (s : Lent) (a : Bor (List ℕ)) (p q : Place) (r : Bor (List ℕ)) → p ≡ q → Within (λ x. paper_text x (lent s) a.now) q
    → Part (holder p.text s.sheet (unwrap_or s.start a) a) (min p.start (length (holder p.text s.sheet (unwrap_or s.start a) a).now)) p.size r → PartAt q s.sheet (unwrap_or s.start a) a r
part_placed s a p q r e w h = rw (in-text s.start q.text q.start (omega arith)) at (rw e at h)
  where
    in-text : (b : Option (Bor (List ℕ))) (x : Text) (n : ℕ) → n ≤ length (paper_text x (from s.sheet.now (begins b)) a.now)
        → min n (length (holder x s.sheet (unwrap_or b a) a).now) ≡ n
    in-text b text.Neither n h = omega arith
    in-text b text.Sheet n h = omega arith
    in-text b text.Answer n h = omega arith
    in-text b text.Times n h = omega arith
    in-text (Some x) text.Start n h = omega arith
    in-text None text.Start n h = omega arith
