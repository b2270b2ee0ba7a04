-- "Each public function promises every field of its result and every byte of what it was lent": what judging promises, in the parts that its doors
-- give, and of each "that no other outcome fits the promise". The contracts of crates/judge_lib cite these records.
use Rattle.std.specs.Prelude.{ℕ, List, ◌≡◌, length}
use Rattle.start_spec.specs.Paper.{Paper}
use Rattle.judge_spec.specs.declared.Verdict.{Verdict}
use Rattle.judge_spec.specs.declared.Place.{Place}
use Rattle.judge_spec.specs.Judged.{judged, over, buffer, printed}

-- every field of the verdict, and every byte of the buffer that held `old`
pub record Judges (s : Paper) (a old : List ℕ) (verdict : Verdict) (after : List ℕ) : Type 0 where
  pub verdict-is : verdict ≡ (judged s a (length old)).verdict
  pub buffer-is : after ≡ buffer s a old

-- the place of the line at fault, in a room of so many bytes
pub record Places (s : Paper) (a : List ℕ) (room : ℕ) (place : Place) : Type 0 where
  pub place_is : place ≡ (judged s a room).place

-- both, of one buffer
pub record Promised (s : Paper) (a old : List ℕ) (verdict : Verdict) (after : List ℕ) (place : Place) : Type 0 where
  pub judges : Judges s a old verdict after
  pub places : Places s a (length old) place

-- how many bytes are printed, and every byte of the array that held `old`
pub record Prints (s : Paper) (a old : List ℕ) (used : ℕ) (after : List ℕ) : Type 0 where
  pub used-is : used ≡ length (printed s a)
  pub array-is : after ≡ over (printed s a) old

-- `judge_and_place`
unfoldable pub NoOtherFits : Type 0
NoOtherFits =
    (s : Paper) (a old : List ℕ) (v w : Verdict) (b c : List ℕ) (p q : Place)
    → Promised s a old v b p
    → Promised s a old w c q
    → (v ≡ w) × (b ≡ c) × (p ≡ q)

-- `judge`
unfoldable pub NoOtherVerdict : Type 0
NoOtherVerdict = (s : Paper) (a old : List ℕ) (v w : Verdict) (b c : List ℕ) → Judges s a old v b → Judges s a old w c → (v ≡ w) × (b ≡ c)

-- `place`
unfoldable pub NoOtherPlace : Type 0
NoOtherPlace = (s : Paper) (a : List ℕ) (room : ℕ) (p q : Place) → Places s a room p → Places s a room q → p ≡ q

-- `print`
unfoldable pub NoOtherPrint : Type 0
NoOtherPrint = (s : Paper) (a old : List ℕ) (n m : ℕ) (b c : List ℕ) → Prints s a old n b → Prints s a old m c → (n ≡ m) × (b ≡ c)
