-- "That no other outcome fits the promise is itself proved": of each public function, two results that meet its promise are one. For
-- `timing_spec` and `timed_place`: timing_spec/specs/Once.
use Rattle.std.specs.Prelude.{ℕ, List, Bool, ◌≡◌, length}
use Rattle.std.specs.Borrow.{Bor}
use Rattle.start_spec.specs.Paper.{Paper}
use Rattle.judge_spec.specs.Judged.{over}
use Rattle.timing_spec.specs.Timed.{timed_printed}
use Rattle.timing_lib.specs.Part.{PromisedPart}

unfoldable pub NoOtherTimedPart : Type 0
NoOtherTimedPart =
    (s : Bor (List ℕ)) (given : Bool) (b a x : Bor (List ℕ)) (room : ℕ) (r q : Bor (List ℕ)) → PromisedPart s given b a x room r → PromisedPart s given b a x room q → (r.ref_ptr ≡ q.ref_ptr) × (r.now ≡ q.now)

-- what printing promises: how many bytes, and every byte of the buffer that held `old`
pub record PromisedPrint (s : Paper) (a x old : List ℕ) (used : ℕ) (after : List ℕ) : Type 0 where
  pub used-is : used ≡ length (timed_printed s a x)
  pub out-is : after ≡ over (timed_printed s a x) old

unfoldable pub NoOtherTimedPrint : Type 0
NoOtherTimedPrint =
    (s : Paper) (a x old b c : List ℕ) (n m : ℕ)
    → PromisedPrint s a x old n b
    → PromisedPrint s a x old m c
    → (n ≡ m) × (b ≡ c)
