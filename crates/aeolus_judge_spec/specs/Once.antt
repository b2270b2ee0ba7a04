-- "no other outcome fits"
use Rattle.std.specs.Prelude.{ℕ, List, ◌≡◌, length}
use Rattle.judge_spec.specs.declared.Place.{Place}
use Rattle.aeolus_judge_spec.specs.declared.Verdict.{Verdict}
use Rattle.aeolus_judge_spec.specs.Judged.{judged, buffer}

-- what judging promises: every field of the verdict, every byte of the buffer that held `old`, the place of the offending line
pub record Promised (s a old : List ℕ) (verdict : Verdict) (after : List ℕ) (place : Place) : Type 0 where
  pub verdict-is : verdict ≡ (judged s a (length old)).verdict
  pub buffer-is : after ≡ buffer s a old
  pub place_is : place ≡ (judged s a (length old)).place

unfoldable pub NoOtherFits : Type 0
NoOtherFits =
    (s a old : List ℕ) (v₁ v₂ : Verdict) (b₁ b₂ : List ℕ) (p₁ p₂ : Place)
    → Promised s a old v₁ b₁ p₁
    → Promised s a old v₂ b₂ p₂
    → (v₁ ≡ v₂) × (b₁ ≡ b₂) × (p₁ ≡ p₂)
