-- One step takes the clock no further than the most seconds that a slot holds, and many steps so much for each.
-- Assumes nothing.
use mathlib.Core.Bool.{Bool, true, false, cond}
use mathlib.Core.List.{List, [], ◌∷◌}
use mathlib.Core.Logic.{by_cases}
use Prim.Native.Nat.{ℕ, zero, suc, ◌+◌, ◌*◌, ◌≤◌}
use native.Mathlib.Nat.{le_refl, le_trans, le-add_right, le-max_left, suc-mul}
use native.Mathlib.Omega.{arith}
use native.Mathlib.Decide.{ℕ_discrete, dec_lt}
use borrow.Author.Tests.{eq-eqb, ne_eqb}
use lib.Dec.{eqb}
use lib.ListN.{length, get_or, set, replicate}
use lib.Seq.{get_or-set_same, get_or-set_other, set_out}
use Rattle.sets.specs.Mask.{member}
use Rattle.model.specs.declared.Tables.{Tables}
use Rattle.model.specs.declared.Program.{Program}
use Rattle.model.specs.declared.Step.{Step}
use Rattle.model.specs.declared.Configuration.{Configuration}
use Rattle.model.specs.Verb.{fire_verb, end_verb}
use Rattle.model.specs.View.{steps_of}
use Rattle.rules_spec.specs.Step.{step}
use Rattle.rules_spec.specs.Walk.{beside_by}
use Rattle.times_spec.specs.declared.Times.{Times}
use Rattle.times_spec.specs.View.{pair_slot}
use Rattle.timing_spec.specs.Clock.{Clock, at_start, started, notes, tick, clock_from, clock_of}
use Rattle.timing_clock.specs.Paced.{clock_at, Past, Paced}
use Rattle.timing_clock.specs.Bounded.{ClockIsBounded}

either : {A : Type 0} (P : A → Type 0) (x : Bool) {a b : A} → P a → P b → P (cond x a b)
either P true p q = p
either P false p q = q

-- ---- the noted times

module _ (clock i : ℕ) where
  abbrev Noted : List ℕ → Type 0
  Noted noted = Past (clock_at clock noted)

  set_past : (slot : ℕ) (noted : List ℕ) → Noted noted → Noted (set noted slot clock)
  set_past slot noted h j =
      by_cases (ℕ_discrete j slot)
      (λ e. by_cases (dec_lt slot (length noted))
      (λ l. rw (e, get_or-set_same noted slot clock 0 l) (le_refl clock))
      (λ l. rw (set_out noted slot clock (omega arith)) (h j)))
      (λ n. rw (get_or-set_other noted slot j clock 0 n) (h j))

  notes-past : (xs n : ℕ) (noted : List ℕ) → Noted noted → Noted (notes clock i xs n noted)
  unfolding notes
  notes-past xs zero noted h = h
  notes-past xs (suc n) noted h =
      let g = notes-past xs n noted h in either Noted (member n xs) (set_past (pair_slot i n) (notes clock i xs n noted) g) g

all-zero : (n j : ℕ) → get_or (replicate n 0) j 0 ≤ 0
all-zero zero j = le_refl 0
all-zero (suc n) zero = le_refl 0
all-zero (suc n) (suc j) = all-zero n j

pub start-past : Past at_start
unfolding at_start
start-past = all-zero 1024

-- ---- one step, where no slot holds more than b seconds

module _ (b : ℕ) (ts : Times) (few : (j : ℕ) → get_or ts.seconds j 0 ≤ b) where
  pub tick-paced : (c d : Configuration) (s : Step) (k : Clock) → Past k → Paced b k (tick ts c d s k)
  unfolding tick
  tick-paced c d s k h =
      let at = pair_slot s.id s.number in
      either (Paced b k) (eqb s.verb fire_verb)
      (record { slow = omega arith; past = notes-past k.now s.id (started c d s.id) 32 k.noted h })
      (either (Paced b k) (eqb s.verb end_verb)
      (record { slow = omega (arith, h at, few at); past = λ j. le_trans (h j) (le-max_left _ _) })
      (record { slow = omega arith; past = h }))

  -- ---- many

  walk-paced : (default : ℕ) (t : Tables) (p : Program) (ss : List Step) (c : Configuration) (k : Clock) → Past k
      → (clock_from default t p ts c ss k).now ≤ k.now + length ss * b
  unfolding clock_from
  walk-paced default t p [] c k h = omega arith
  walk-paced default t p (s ∷ ss) c k h =
      let m = step default t p c s in
      let l = tick ts c m.configuration s k in
      let g = tick-paced c m.configuration s k h in
      by_cases (ℕ_discrete m.refused 0)
      (λ e. rw (beside_by, eq-eqb m.refused 0 e, suc-mul)
      (omega (arith, walk-paced default t p ss m.configuration l g.past, g.slow)))
      (λ n. rw (beside_by, ne_eqb m.refused 0 n) (le-add_right _ _))

pub clock-is-bounded : ClockIsBounded
unfolding ClockIsBounded clock_of at_start
clock-is-bounded default t p b a ts l =
    omega (arith, walk-paced 86400 ts l.seconds default t p (steps_of a) b at_start start-past)
