-- That no other outcome fits the promise to fill a plan: number, place and every word are told by the text and the number of types.
use Rattle.std.specs.Prelude.{ℕ, List, ◌≡◌, length}
use Rattle.read_chain.specs.declared.Place.{Place}
use Rattle.read_chain.specs.Whole.{whole, beside}
use Rattle.aeolus_model.specs.Action.{no_plan}
use Rattle.aeolus_model.specs.Words.{plan_in}
use Rattle.aeolus_read_spec.specs.Texts.{plan}

unfoldable pub NoOtherPlan : Type 0
NoOtherPlan = (s : List ℕ) (n : ℕ) (r q : Place) (ws vs : List ℕ) → length ws ≡ 4097 → length vs ≡ 4097
    → beside r (plan_in ws) ≡ whole no_plan (plan n) s → beside q (plan_in vs) ≡ whole no_plan (plan n) s → (r ≡ q) × (ws ≡ vs)
