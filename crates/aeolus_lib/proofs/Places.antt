-- The place of the offending line lies within its text.
-- Assumes nothing.
use Prim.Native.Nat.{ℕ, ◌≤◌, min, zero-le}
use mathlib.Core.List.{List}
use mathlib.Core.Path.{◌≡◌, refl}
use native.Mathlib.Omega.{arith}
use denote.Ref.{Bor}
use lib.Dec.{leb}
use lib.ListN.{length}
use Rattle.item_spec.proofs.Tests.{by-test}
use Rattle.model.specs.declared.Text.{Text}
use Rattle.model.specs.declared.Text.TheVariants as text
use Rattle.judge_spec.specs.Course.{Course}
use Rattle.judge_spec.specs.declared.Place.{Place}
use Rattle.judge_spec.specs.Judged.{text_of, paper_text}
use Rattle.start_spec.specs.Paper.{nothing, nothing_up}
use Rattle.judge_lib.specs.Part.{Part, holder, PartAt}
use Rattle.judge_lib.proofs.Order.{Told, in-sheet, in_start, in-answer, walks}
use Rattle.judge_lib.proofs.Places.{Within, fault-within, step-within}
use Rattle.aeolus_model.specs.Model.{Universe}
use Rattle.aeolus_rules_spec.specs.Run.{Ran}
use Rattle.aeolus_judge_spec.specs.Report.{report}
use Rattle.aeolus_judge_spec.specs.Judged.{after_fault, no_room, at_step, after_run, in_room, ending, judged}
use Rattle.aeolus_lib.proofs.Order.{course-told}

run-within : (lent : Text → List ℕ) (room : ℕ) (w : Ran) (r : List ℕ) → Within lent (in_room room w r (lent text.Answer)).place
unfolding in_room after_run no_room
run-within lent room w r = by-test (leb (length r) room) (λ e. rw (e, in_room) (step-within lent (at_step w.refused) w.accepted)) (λ e. rw (e, in_room) zero-le)

pub place-within : (s a : List ℕ) (room : ℕ) → Within (λ x. text_of x s a) (judged s a room).place
unfolding judged ending after_fault
place-within s a room = go (course-told s a)
  where
    go : {z : Course (Universe × Ran)} → Told s nothing a z → Within (λ x. text_of x s a) (ending s a room z).place
    go (in-sheet {n} {at} f) = fault-within (λ x. text_of x s a) text.Sheet n at f
    go (in_start {n} {at} q f) = fault-within (λ x. text_of x s a) text.Start n at f
    go (in-answer {n} {at} f) = fault-within (λ x. text_of x s a) text.Answer n at f
    go (walks {x}) = run-within (λ x. text_of x s a) room x.1 (report x.0 x.1)

-- the two texts are those of a paper with nothing up
pub as-paper : (x : Text) (s a : List ℕ) → paper_text x (nothing_up s) a ≡ text_of x s a
as-paper text.Neither s a = refl
as-paper text.Sheet s a = refl
as-paper text.Answer s a = refl
as-paper text.Times s a = refl
as-paper text.Start s a = refl

-- the place that is promised tells a part of its text: no start is at fault, so it doesn't matter what stands for one
pub part_placed : (s a : Bor (List ℕ)) (p q : Place) (r : Bor (List ℕ)) → p ≡ q → Within (λ x. text_of x s.now a.now) q
    → Part (holder p.text s s a) (min p.start (length (holder p.text s s a).now)) p.size r → PartAt q s s a r
part_placed s a p q r e w h = rw (in-text q.text q.start (omega arith)) at (rw e at h)
  where
    in-text : (x : Text) (n : ℕ) → n ≤ length (text_of x s.now a.now) → min n (length (holder x s s a).now) ≡ n
    in-text text.Neither n h = omega arith
    in-text text.Sheet n h = omega arith
    in-text text.Answer n h = omega arith
    in-text text.Times n h = omega arith
    in-text text.Start n h = omega arith
