-- What is promised of timing, and that no other outcome fits it.
use Rattle.std.specs.Prelude.{ℕ, List, ◌≡◌, length}
use Rattle.start_spec.specs.Paper.{Paper}
use Rattle.judge_spec.specs.declared.Place.{Place}
use Rattle.timing_spec.specs.declared.Timed.{Timed}
use Rattle.timing_spec.specs.Timed.{timed, timed_verdict, timed_buffer}

-- what timing promises: every field of its answer, every byte of the buffer that held `old`, the place of the line at fault
pub record TimedPromised (s : Paper) (a x old : List ℕ) (answer : Timed) (after : List ℕ) (place : Place) : Type 0 where
  pub verdict-is : answer ≡ timed_verdict s a x (length old)
  pub buffer-is : after ≡ timed_buffer s a x old
  pub place_is : place ≡ (timed s a x (length old)).judgement.place

-- of the answer and the buffer, beside the definition's own place; of the place in a room of so many bytes, beside its own answer and buffer
abbrev pub PromisedAnswer : Paper → List ℕ → List ℕ → List ℕ → Timed → List ℕ → Type 0
PromisedAnswer s a x old answer after = TimedPromised s a x old answer after (timed s a x (length old)).judgement.place

abbrev pub PromisedPlace : Paper → List ℕ → List ℕ → ℕ → Place → Type 0
PromisedPlace s a x room place =
    (old : List ℕ) → length old ≡ room → TimedPromised s a x old (timed_verdict s a x (length old)) (timed_buffer s a x old) place

unfoldable pub NoOtherTiming : Type 0
NoOtherTiming =
    (s : Paper) (a x old : List ℕ) (v w : Timed) (b c : List ℕ) (p q : Place)
    → TimedPromised s a x old v b p
    → TimedPromised s a x old w c q
    → (v ≡ w) × (b ≡ c) × (p ≡ q)

unfoldable pub NoOtherTimedAnswer : Type 0
NoOtherTimedAnswer =
    (s : Paper) (a x old : List ℕ) (v w : Timed) (b c : List ℕ) → PromisedAnswer s a x old v b → PromisedAnswer s a x old w c → (v ≡ w) × (b ≡ c)

unfoldable pub NoOtherTimedPlace : Type 0
NoOtherTimedPlace = (s : Paper) (a x : List ℕ) (room : ℕ) (p q : Place) → PromisedPlace s a x room p → PromisedPlace s a x room q → p ≡ q
