-- A walk that has come to step i: what is left of it, with i steps more.
-- Assumes nothing.
use mathlib.Core.Path.{◌≡◌, ap, ◌∙◌}
use mathlib.Core.Logic.{◌≢◌}
use mathlib.Core.List.{[], ◌∷◌}
use Prim.Native.Nat.{ℕ, suc, ◌+◌, ◌≤◌, ◌<◌, min}
use native.Mathlib.Nat.{zero-add, add-zero, add-suc, suc-add, lt_of_lt_of_le, min-le_left}
use native.Mathlib.Numerals.{add-one}
use borrow.Author.Tests.{eq-eqb, ne_eqb}
use lib.ListN.{length, get_or, drop, length-take, drop_of_length-le}
use lib.Seq.{drop-cons, get_or-take}
use Rattle.model.specs.declared.Tables.{Tables}
use Rattle.model.specs.declared.Program.{Program}
use Rattle.model.specs.declared.Answer.{Answer}
use Rattle.model.specs.declared.Configuration.{Configuration}
use Rattle.model.specs.declared.Stepped.{Stepped}
use Rattle.model.specs.declared.Walked.{Walked}
use Rattle.model.specs.declared.Concerned.TheVariants.{NoPort}
use Rattle.model.specs.Empty.{no_step}
use Rattle.model.specs.View.{steps_of}
use Rattle.rules_spec.specs.Walk.{one_more, walk_by}
use Rattle.step_walk.specs.Held.{held_step, held_walk}

-- the steps that are left at step i: none, or the one that is due and those after it
module _ (a : Answer) (full : length a.steps ≡ 1024) (i : ℕ) where
  steps-length : length (steps_of a) ≡ min a.count 1024
  steps-length = length-take a.count a.steps ∙ ap (min a.count) full

  pub none_left : min a.count 1024 ≤ i → drop i (steps_of a) ≡ []
  none_left h = drop_of_length-le (steps_of a) {i = i} (rw steps-length h)

  pub one_left : i < min a.count 1024 → drop i (steps_of a) ≡ get_or a.steps i no_step ∷ drop (suc i) (steps_of a)
  one_left within =
      drop-cons (steps_of a) i no_step (rw steps-length within)
      ∙ rw (get_or-take a.count a.steps i no_step (lt_of_lt_of_le within (min-le_left a.count 1024)))

abbrev ahead : ℕ → Walked → Walked
ahead i w = record { accepted = i + w.accepted; refused = w.refused; port = w.port; configuration = w.configuration }

-- what is left from step i on, where the walk has come to c
unfoldable pub rest : ℕ → Tables → Program → Answer → ℕ → Configuration → Walked
rest default t p a i c = ahead i (held_walk default t p c (drop i (steps_of a)))

module _ (default : ℕ) (t : Tables) (p : Program) (a : Answer) (c : Configuration) where
  pub walk_start : held_walk default t p c (steps_of a) ≡ rest default t p a 0 c
  unfolding rest
  walk_start = rw zero-add

  module _ (full : length a.steps ≡ 1024) (i : ℕ) where
    pub walk_end : min a.count 1024 ≤ i → rest default t p a i c ≡ record { accepted = i; refused = 0; port = NoPort; configuration = c }
    unfolding rest held_walk
    walk_end h = rw (none_left a full i h, add-zero)

    module _ (m : Stepped) (within : i < min a.count 1024) (is : m ≡ held_step default t p c (get_or a.steps i no_step)) where
      pub walk_refused : m.refused ≢ 0
          → rest default t p a i c ≡ record { accepted = i; refused = m.refused; port = m.port; configuration = m.configuration }
      unfolding rest held_walk
      walk_refused d = rw (one_left a full i within, walk_by, ← is, ne_eqb m.refused 0 d, ← is, add-zero)

      pub walk_more : m.refused ≡ 0 → rest default t p a i c ≡ rest default t p a (i + 1) m.configuration
      unfolding rest held_walk one_more
      walk_more e = rw (one_left a full i within, walk_by, ← is, eq-eqb m.refused 0 e, ← is, add-suc, add-one, suc-add)
