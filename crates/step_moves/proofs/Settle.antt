-- What fire and enter ask of the place goes before the ports, and is about no port.
-- Assumes nothing.
use mathlib.Core.Path.{◌≡◌, refl, sym, ap}
use mathlib.Core.Logic.{by_cases}
use mathlib.Core.Bool.{Bool, true, false, not}
use Prim.Native.Nat.{ℕ}
use native.Mathlib.Decide.{ℕ_discrete}
use lib.Dec.{eqb}
use borrow.Author.Tests.{eq-eqb, ne_eqb}
use Rattle.sets.specs.Test.{lowest}
use Rattle.sets.specs.Mask.{member, only, overlaps, within}
use Rattle.model.specs.declared.Tables.{Tables}
use Rattle.model.specs.declared.Instance.{Instance}
use Rattle.model.specs.declared.Configuration.{Configuration}
use Rattle.model.specs.declared.Concerned.{Concerned}
use Rattle.model.specs.declared.Concerned.TheVariants.{NoPort}
use Rattle.model.specs.View.{instance}
use Rattle.rules_spec.specs.Refusal.{◌⇒◌∣◌, allowed, id_absent, queue_empty, no_transition, not_ready, held_or_marked, or_number}
use Rattle.rules_spec.specs.Instance.{held, ports_of, fired, entered}
use Rattle.rules_spec.specs.Action.{concern}
use Rattle.rules_spec.specs.Fire.{leavers, fire_row, after_fire, fire_check}
use Rattle.rules_spec.specs.Enter.{enterers, enter_row, after_enter, enter_check}
use Rattle.rules_spec.specs.Standing.{standing}
use Rattle.rules_spec.specs.Ports.{fails_unconnected, fails_unserved, port_check, concerned}
use Rattle.step_ports.specs.declared.Sets.{Sets}
use Rattle.step_ports.specs.declared.Answered.{Answered}
use Rattle.step_ports.specs.Turns.{about_of, answered, changed, turn_answer}
use Rattle.step_ports.proofs.Ports.{turned-check}
use Rattle.step_moves.specs.Rows.{firstly, row, asked, fire_answer, enter_answer}
use Rattle.step_moves.proofs.Turns.{fire-marks, fire-holds, enter-marks, enter-holds}

-- the numbers of the row of fire and enter
row-unnamed : (absent empty none unready taken : Bool) (x y : ℕ)
    → about_of x y (absent ⇒ id_absent ∣ empty ⇒ queue_empty ∣ none ⇒ no_transition ∣ unready ⇒ not_ready ∣ taken ⇒ held_or_marked ∣ allowed) ≡ NoPort
row-unnamed true b d e f x y = refl
row-unnamed false true d e f x y = refl
row-unnamed false false true e f x y = refl
row-unnamed false false false true f x y = refl
row-unnamed false false false false true x y = refl
row-unnamed false false false false false x y = refl

settle : (about : ℕ → Concerned) (a b : ℕ) (x : Answered) → about a ≡ NoPort → x ≡ answered about b → asked a x ≡ answered about (or_number a b)
settle about a b x u e =
    by_cases (ℕ_discrete a 0) (λ z. rw (eq-eqb a 0 z) e)
    (λ n. rw (ne_eqb a 0 n) (ap (λ (k : Concerned). record { refused = a; port = k }) (sym u)))

-- what leaves the place or leads to it is xs, and after the move the instance is w
module _ (t : Tables) (c : Configuration) (i xs : ℕ) (ready taken : Bool) (w : Instance) where
  abbrev v : Instance
  v = instance c i

  pub settled : (loses gains : Sets) → w.kind ≡ v.kind → w.marked ≡ changed v.marked loses.places gains.places
      → held w ≡ changed (held v) loses.holds gains.holds
      → asked (firstly v (row xs ready taken)) (turn_answer t c i loses gains)
      ≡ answered (concerned t (standing c) c i v w) (or_number (firstly v (row xs ready taken)) (port_check t (standing c) c i v w))
  unfolding concerned
  settled loses gains kind marks holds =
      settle (concerned t (standing c) c i v w) (firstly v (row xs ready taken)) _ _
      (row-unnamed (not v.present) (eqb v.queued 0) (eqb xs 0) (not ready) taken
      (lowest (ports_of t v) (fails_unconnected t (standing c) c i w)) (lowest (ports_of t v) (fails_unserved t (standing c) c i w)))
      (turned-check t c i loses gains w kind marks holds)

module _ (t : Tables) (c : Configuration) (i p : ℕ) where
  pub fire-settled : asked (firstly (instance c i) (row (leavers t c i p) (member p (instance c i).marked) (overlaps (leavers t c i p) (held (instance c i)))))
      (turn_answer t c i (record { places = only p; holds = 0 }) (record { places = 0; holds = leavers t c i p }))
      ≡ fire_answer t c i p
  unfolding fire_check fire_row fired concern
  fire-settled =
      let v = instance c i in
      settled t c i (leavers t c i p) (member p v.marked) (overlaps (leavers t c i p) (held v)) (after_fire t c i p) _ _ refl (fire-marks v.marked p) (fire-holds v.running v.ended (leavers t c i p))

  pub enter-settled : asked (firstly (instance c i) (row (enterers t c i p) (within (enterers t c i p) (instance c i).ended) (member p (instance c i).marked)))
      (turn_answer t c i (record { places = 0; holds = enterers t c i p }) (record { places = only p; holds = 0 }))
      ≡ enter_answer t c i p
  unfolding enter_check enter_row entered concern
  enter-settled =
      let v = instance c i in
      settled t c i (enterers t c i p) (within (enterers t c i p) v.ended) (member p v.marked) (after_enter t c i p) _ _ refl (enter-marks v.marked p) (enter-holds v.running v.ended (enterers t c i p))
