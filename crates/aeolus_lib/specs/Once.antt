-- That no other outcome fits: of `judge`, `place` and `print`, two results that meet the promise are one. Of `judge_and_place` it is `NoOtherFits` of
-- aeolus_judged, of `offending` `NoOtherPart` of judging.
use Rattle.std.specs.Prelude.{ℕ, List, ◌≡◌, length}
use Rattle.judge_spec.specs.declared.Place.{Place}
use Rattle.judge_spec.specs.Judged.{over}
use Rattle.aeolus_judge_spec.specs.declared.Verdict.{Verdict}
use Rattle.aeolus_judge_spec.specs.Judged.{judged, buffer, printed}

-- every field of the verdict, every byte of the buffer
unfoldable pub NoOtherVerdict : Type 0
NoOtherVerdict =
    (s a old b c : List ℕ) (v w : Verdict)
    → (v ≡ (judged s a (length old)).verdict) × (b ≡ buffer s a old)
    → (w ≡ (judged s a (length old)).verdict) × (c ≡ buffer s a old)
    → (v ≡ w) × (b ≡ c)

unfoldable pub NoOtherPlace : Type 0
NoOtherPlace = (s a : List ℕ) (room : ℕ) (p q : Place) → p ≡ (judged s a room).place → q ≡ (judged s a room).place → p ≡ q

-- how many bytes, and every byte of the array
unfoldable pub NoOtherPrint : Type 0
NoOtherPrint =
    (s a old b c : List ℕ) (n m : ℕ)
    → (n ≡ length (printed s a)) × (b ≡ over (printed s a) old)
    → (m ≡ length (printed s a)) × (c ≡ over (printed s a) old)
    → (n ≡ m) × (b ≡ c)
