-- A step's number is 0 or from 10 to 38, and a walk accepts no more steps than there are.
-- Assumes nothing.
use mathlib.Core.Path.{◌≡◌, refl}
use mathlib.Core.Logic.{◌⊎◌, inl, inr}
use mathlib.Core.Bool.{Bool, true, false, ◌&&◌, cond}
use mathlib.Core.List.{List, [], ◌∷◌}
use Prim.Native.Nat.{ℕ, suc, ◌≤◌}
use native.Mathlib.Omega.{arith}
use lib.Dec.{T, eqb, leb, lit≤}
use lib.ListN.{length}
use Rattle.model.specs.declared.Tables.{Tables}
use Rattle.model.specs.declared.Program.{Program}
use Rattle.model.specs.declared.Step.{Step}
use Rattle.model.specs.declared.Configuration.{Configuration}
use Rattle.model.specs.declared.Walked.{Walked}
use Rattle.rules_spec.specs.Refusal.{◌⇒◌∣◌, no_instruction_left, or_number}
use Rattle.rules_spec.specs.Standing.{Standing, standing}
use Rattle.rules_spec.specs.Ports.{port_check}
use Rattle.rules_spec.specs.Add.{add_check}
use Rattle.rules_spec.specs.Del.{del_check}
use Rattle.rules_spec.specs.PushB.{pushb_check}
use Rattle.rules_spec.specs.Con.{con_check}
use Rattle.rules_spec.specs.DCon.{dcon_check}
use Rattle.rules_spec.specs.Wait.{wait_check}
use Rattle.rules_spec.specs.Fire.{fire_row, fire_check}
use Rattle.rules_spec.specs.End.{end_check}
use Rattle.rules_spec.specs.Enter.{enter_row, enter_check}
use Rattle.rules_spec.specs.Finish.{finish_row, finish_check}
use Rattle.rules_spec.specs.Action.{Action, add, del, pushb, con, dcon, wait, fire, end, enter, finish, action_check}
use Rattle.rules_spec.specs.Step.{is_next, action, step_check_with, step_check, step_to}
use Rattle.rules_spec.specs.Walk.{one_more, walk}
use Rattle.rules_spec.proofs.Walks.{walk-cases}

-- 0, or a number from a to b
pub record Among (a b n : ℕ) : Type 0 where
  pub range : (n ≡ 0) ⊎ ((a ≤ n) × (n ≤ b))

module _ {a b : ℕ} where
  pub none : Among a b 0
  none = record { range = inl refl }

  pub row : (t : Bool) (n m : ℕ) → T (leb a n) → T (leb n b) → Among a b m → Among a b (t ⇒ n ∣ m)
  row true n m h g f = record { range = inr (lit≤ h, lit≤ g) }
  row false n m h g f = f

  pub or_else : (n m : ℕ) → Among a b n → Among a b m → Among a b (or_number n m)
  or_else n m f g = go (eqb n 0)
    where
      go : (t : Bool) → Among a b (cond t m n)
      go true = g
      go false = f

-- 01's numbers of a step
abbrev pub Numbered : ℕ → Type 0
Numbered = Among 10 38

ruleset rows = (row, or_else, none)

check-numbered : (default : ℕ) (t : Tables) (y : Standing) (c : Configuration) (a : Action) → Numbered (action_check default t y c a)
unfolding action_check add_check del_check pushb_check con_check dcon_check wait_check fire_check fire_row end_check enter_check enter_row finish_check finish_row port_check
check-numbered default t y c (add i k) = search rows
check-numbered default t y c (del i) = search rows
check-numbered default t y c (pushb i b) = search rows
check-numbered default t y c (con k) = search rows depth 8
check-numbered default t y c (dcon k) = search rows
check-numbered default t y c (wait i) = search rows
check-numbered default t y c (fire i p) = search rows depth 8
check-numbered default t y c (end i x) = search rows
check-numbered default t y c (enter i p) = search rows depth 8
check-numbered default t y c (finish i) = search rows

pub step-numbered : (default : ℕ) (t : Tables) (p : Program) (c : Configuration) (s : Step) → Numbered (step_check default t p c s)
unfolding step_check_with
step-numbered default t p c s = row (is_next s && leb p.count c.done) no_instruction_left _ tt tt (check-numbered default t (standing c) c (action p c s))

-- a walk over n steps
pub record WalkNumbers (n : ℕ) (w : Walked) : Type 0 where
  pub refused : Numbered w.refused
  pub accepted : w.accepted ≤ n

pub walk-numbers : (default : ℕ) (t : Tables) (p : Program) (ss : List Step) (c : Configuration) → WalkNumbers (length ss) (walk default t p c ss)
unfolding walk one_more
walk-numbers default t p [] c = record { refused = none; accepted = omega arith }
walk-numbers default t p (s ∷ ss) c =
    walk-cases default t p (WalkNumbers (suc (length ss))) c s ss
    (λ e. let h = walk-numbers default t p ss (step_to t p c s) in record { refused = h.refused; accepted = omega (arith, h.accepted) })
    (λ n. record { refused = step-numbered default t p c s; accepted = omega arith })
