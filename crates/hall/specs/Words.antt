-- The screen's promise on lent words (words/specs/Words says what they mean).
use Rattle.std.specs.Prelude.{◌≡◌, ◌≢◌, List, cond, ℕ, suc, ◌<◌, ◌^◌, length}
use Rattle.model.specs.declared.Step.{Step}
use Rattle.rules_spec.specs.Step.{is_next, action}
use Rattle.words.specs.Rows.{word}
use Rattle.words.specs.Words.{tables_in, program_in, state_in}
use Rattle.step_ports.specs.declared.Answered.{Answered}
use Rattle.hall.specs.Screen.{Left}
use Rattle.hall.specs.Slots.{slots, Holds}

-- on these words of tables, program and configuration it answers a and leaves the words `after`
abbrev pub LeftWords : List ℕ → List ℕ → List ℕ → Step → Answered → List ℕ → Type 0
LeftWords tables program before s a after = Left (tables_in tables) (program_in program) (state_in before) s a (state_in after)

-- the words of a configuration: so many, and the first, which is a set of ids, is of 32 bits
pub record Configured (ws : List ℕ) : Type 0 where
  pub many : length ws ≡ 930
  pub small : word ws 0 < 2 ^ 32

-- "untouched on a refusal": every word
unfoldable pub RefusedIsUntouched : Type 0
RefusedIsUntouched =
    (tables program before after : List ℕ) (s : Step) (a : Answered)
    → Configured before
    → Configured after
    → LeftWords tables program before s a after
    → a.refused ≢ 0
    → after ≡ before

-- "moved on": `EverySlot`, which asks nothing of words, since what they say is as long as its arrays are
unfoldable pub EverySlotOfWords : Type 0
EverySlotOfWords =
    (tables program before after : List ℕ) (s : Step) (a : Answered)
    → LeftWords tables program before s a after
    → a.refused ≡ 0
    → Holds (state_in after) (slots (tables_in tables) (state_in before) (action (program_in program) (state_in before) s))
    × ((state_in after).done ≡ cond (is_next s) (suc (state_in before).done) (state_in before).done)
