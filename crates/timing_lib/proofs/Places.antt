-- The place of the line at fault lies within the text that it names, of the three that are lent.
-- Assumes nothing.
use Prim.Native.Nat.{ℕ, ◌≤◌, min}
use mathlib.Core.List.{List}
use mathlib.Core.Bool.{Bool, true, false}
use mathlib.Core.Path.{◌≡◌, refl, sym, subst, ◌∙◌}
use native.Mathlib.Omega.{arith}
use lib.ListN.{length}
use denote.Ref.{Bor}
use Rattle.model.specs.declared.Walked.{Walked}
use Rattle.model.specs.declared.Text.{Text}
use Rattle.model.specs.declared.Text.TheVariants as text
use Rattle.std.specs.Prelude.{Option, Some, None, unwrap_or}
use Rattle.std.specs.Option.{is_some}
use Rattle.start_spec.specs.Paper.{Paper, from, paper}
use Rattle.judge_spec.specs.Lent.{begins}
use Rattle.judge_spec.specs.declared.Place.{Place}
use Rattle.judge_spec.specs.Course.{Course}
use Rattle.judge_spec.specs.Judged.{after_fault}
use Rattle.judge_lib.specs.Part.{Part, holder}
use Rattle.judge_lib.proofs.Places.{Within, fault-within, walk-within}
use Rattle.timing_spec.specs.Timed.{lent_text, marked_report, timed_ending, timed}
use Rattle.timing_spec.specs.Once.{PromisedPlace}
use Rattle.timing_spec.proofs.Once.{the-place}
use Rattle.timing_lib.specs.Part.{lender, PartOf, PromisedPart}
use Rattle.timing_lib.proofs.Order.{TimedTold, sheet-fault, start-fault, answer-fault, times-fault, clocked-walk, timed-told}

abbrev lent_in : Paper → List ℕ → List ℕ → Text → List ℕ
lent_in s a x k = lent_text k s a x

timed-within : (s : Paper) (a x : List ℕ) (room : ℕ) → Within (lent_in s a x) (timed s a x room).judgement.place
unfolding timed timed_ending after_fault
timed-within s a x room = go (timed-told s a x)
  where
    go : {z : Course (Walked × ℕ)} → TimedTold s.sheet s.beginning a x z → Within (lent_in s a x) (timed_ending s a x room z).judgement.place
    go (sheet-fault {n} {at} f) = fault-within (lent_in s a x) text.Sheet n at f
    go (start-fault {n} {at} q f) = fault-within (lent_in s a x) text.Start n at f
    go (answer-fault {n} {at} f) = fault-within (lent_in s a x) text.Answer n at f
    go (times-fault {n} {at} f) = fault-within (lent_in s a x) text.Times n at f
    go (clocked-walk {w} {m}) = walk-within (lent_in s a x) room w (marked_report w m)

-- ---- as a part of the text

-- no part of the times
pub elsewhere : (k : Text) → (k ≡ text.Times → ⊥) → (s b a x : Bor (List ℕ)) → holder k s b a ≡ lender k s b a x
elsewhere text.Neither h s b a x = refl
elsewhere text.Sheet h s b a x = refl
elsewhere text.Answer h s b a x = refl
elsewhere text.Start h s b a x = refl
elsewhere text.Times h s b a x = absurd (h refl)

-- the paper that is lent, by its start and what stands for one
pub lent-paper : (s : List ℕ) (b : Option (Bor (List ℕ))) (a : Bor (List ℕ)) → paper s (is_some b) (unwrap_or b a).now ≡ from s (begins b)
lent-paper s None a = refl
lent-paper s (Some x) a = refl

-- the part that one promised place tells is that of every other: they are one, and within its text
pub part_placed : (s : Bor (List ℕ)) (given : Bool) (b a x : Bor (List ℕ)) {room : ℕ} {p : Place} (r : Bor (List ℕ)) → PromisedPlace (paper s.now given b.now) a.now x.now room p
    → Part (lender p.text s b a x) (min p.start (length (lender p.text s b a x).now)) p.size r → PromisedPart s given b a x room r
part_placed s given b a x {room} {p} r h part q g =
    subst (λ (z : Place). PartOf z s b a x r) (the-place h ∙ sym (the-place g)) (rw (in-text given p.text p.start (omega (arith, held))) at part)
  where
    held : Within (lent_in (paper s.now given b.now) a.now x.now) p
    held = rw (the-place h) (timed-within (paper s.now given b.now) a.now x.now room)

    in-text : (given : Bool) (k : Text) (n : ℕ) → n ≤ length (lent_text k (paper s.now given b.now) a.now x.now) → min n (length (lender k s b a x).now) ≡ n
    in-text given text.Neither n l = omega arith
    in-text given text.Sheet n l = omega arith
    in-text given text.Answer n l = omega arith
    in-text given text.Times n l = omega arith
    in-text true text.Start n l = omega arith
    in-text false text.Start n l = omega arith
