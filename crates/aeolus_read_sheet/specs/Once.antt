-- That no other outcome fits the promise to fill a universe: number, place and every word are told by the text.
use Rattle.std.specs.Prelude.{ℕ, List, ◌≡◌, length}
use Rattle.read_chain.specs.declared.Place.{Place}
use Rattle.read_chain.specs.Whole.{whole, beside}
use Rattle.aeolus_model.specs.Model.{no_universe}
use Rattle.aeolus_model.specs.Words.{universe_in}
use Rattle.aeolus_read_spec.specs.Texts.{sheet}

unfoldable pub NoOtherUniverse : Type 0
NoOtherUniverse = (s : List ℕ) (r q : Place) (ws vs : List ℕ) → length ws ≡ 12881 → length vs ≡ 12881
    → beside r (universe_in ws) ≡ whole no_universe sheet s → beside q (universe_in vs) ≡ whole no_universe sheet s → (r ≡ q) × (ws ≡ vs)
