-- "That no other outcome fits the promise is itself proved": two results that meet the promise of the screen, of either door or of the step
-- by value, are one: the same number, the same use port, the same configuration, and word for word the same words.
use Rattle.std.specs.Prelude.{ℕ, ◌≡◌, List}
use Rattle.model.specs.declared.Tables.{Tables}
use Rattle.model.specs.declared.Program.{Program}
use Rattle.model.specs.declared.Step.{Step}
use Rattle.model.specs.declared.Configuration.{Configuration}
use Rattle.step_ports.specs.declared.Answered.{Answered}
use Rattle.hall.specs.Screen.{Left}
use Rattle.hall.specs.Words.{LeftWords, Configured}

unfoldable pub NoOtherLeft : Type 0
NoOtherLeft =
    (t : Tables) (p : Program) (c : Configuration) (s : Step) (a b : Answered) (d e : Configuration)
    → Left t p c s a d
    → Left t p c s b e
    → (a ≡ b) × (d ≡ e)

unfoldable pub NoOtherWords : Type 0
NoOtherWords =
    (tables program before : List ℕ) (s : Step) (a b : Answered) (ws vs : List ℕ)
    → Configured ws
    → Configured vs
    → LeftWords tables program before s a ws
    → LeftWords tables program before s b vs
    → (a ≡ b) × (ws ≡ vs)
