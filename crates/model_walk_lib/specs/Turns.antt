-- The order of the steps by number, and what a turn comes to.
use Rattle.std.specs.Prelude.{cond, List, [], ◌∷◌, ◌≡◌, ℕ, zero, suc, ◌-◌, ◌/◌, ◌%◌, eqb, ltb}
use Rattle.model.specs.declared.Tables.{Tables}
use Rattle.model.specs.declared.Program.{Program}
use Rattle.model.specs.declared.Step.{Step}
use Rattle.model.specs.declared.Configuration.{Configuration}
use Rattle.model.specs.Verb.{next_verb, fire_verb, end_verb, enter_verb, finish_verb}
use Rattle.words.specs.Parts.{step_of}
use Rattle.rules_spec.specs.Step.{step_to}
use Rattle.model_walk_spec.specs.Order.{in_order}
use Rattle.model_walk_spec.specs.Walk.{Turn, takes, rests}

-- step x of the 65 on instance i: finish, 16 enter, 32 end, 16 fire
unfoldable pub on_instance : ℕ → ℕ → Step
on_instance i x =
    cond (eqb x 0) (step_of finish_verb i 0)
    (cond (ltb x 17) (step_of enter_verb i (x - 1))
    (cond (ltb x 49) (step_of end_verb i (x - 17))
    (step_of fire_verb i (x - 49))))

unfoldable pub ordered_at : ℕ → Step
ordered_at k = cond (eqb k 0) (step_of next_verb 0 0) (on_instance ((k - 1) / 65) ((k - 1) % 65))

-- n steps from number k on
unfoldable pub ordered_from : ℕ → ℕ → List Step
ordered_from k zero = []
ordered_from k (suc n) = ordered_at k ∷ ordered_from (suc k) n

-- the numbers are those of the order
unfoldable pub NumberedSo : Type 0
NumberedSo = in_order ≡ ordered_from 0 2081

-- the step of number k is taken; past the last none is
abbrev pub turn_at : ℕ → Turn
turn_at k = cond (ltb k 2081) (takes (ordered_at k)) rests

-- and the configuration after it
abbrev pub after_turn : Tables → Program → Configuration → Turn → Configuration
after_turn t p c (takes s) = step_to t p c s
after_turn t p c rests = c
