-- The place after a walk, whether or not its report fits: that of `in_room` (in-room-place, in proofs/InRoom). And a walk by its numbers.
use Rattle.std.specs.Prelude.{List, Bool, true, false, ℕ}
use Rattle.model.specs.declared.Configuration.{Configuration}
use Rattle.model.specs.declared.Concerned.{Concerned}
use Rattle.model.specs.declared.Walked.{Walked}
use Rattle.judge_spec.specs.declared.Place.{Place}
use Rattle.judge_spec.specs.Judged.{step_place, no_room}

unfoldable pub place_for : Bool → ℕ → ℕ → List ℕ → Place
place_for fits refused accepted a = elim fits [ true ↦ step_place refused accepted a | false ↦ no_room.place ]

-- a walk that has come to c
abbrev pub came_to : ℕ → Concerned → ℕ → Configuration → Walked
came_to refused port accepted c = record { accepted = accepted; refused = refused; port = port; configuration = c }
