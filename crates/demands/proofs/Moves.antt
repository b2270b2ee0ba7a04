-- Moves and instructions apart: a `step` line other than `next` is a move of its component, a `do` line is no move.
-- Assumes nothing.
use mathlib.Core.Path.{◌≡◌, refl}
use mathlib.Core.Bool.{Bool, true, false}
use lib.Dec.{leb}
use Prim.Native.Nat.{ℕ}
use borrow.Author.Tests.{eq-eqb}
use Rattle.model.specs.declared.Tables.{Tables}
use Rattle.model.specs.declared.Program.{Program}
use Rattle.model.specs.declared.Step.{Step}
use Rattle.model.specs.declared.Configuration.{Configuration}
use Rattle.rules_spec.specs.Action.{Action, move_action, effect}
use Rattle.rules_spec.specs.Step.{is_next, action_at, action, step_check_with, step_check, step_to, check_at}
use Rattle.rules_spec.proofs.Actions.{instruction-cases, move-cases, kind_of}
use Rattle.rules_spec.proofs.Local.{change, touches, changes}

unfoldable pub is_move : Action → Bool
is_move a = leb 6 (kind_of a)

pub line-no-move : (p : Program) (n : ℕ) → is_move (action_at p n) ≡ false
unfolding action_at is_move
line-no-move p n = instruction-cases (λ a. is_move a ≡ false) _ _ (λ _. refl) refl (λ _. refl) refl refl (λ _. refl) refl refl

module _ (s : Step) where
  pub move-is-move : is_move (move_action s) ≡ true
  unfolding is_move
  move-is-move = move-cases (λ a. is_move a ≡ true) s refl refl refl refl

  -- a move changes its component
  pub move-changes : changes (move_action s) s.id ≡ true
  unfolding change touches
  move-changes = let e = eq-eqb s.id s.id refl in move-cases (λ a. changes a s.id ≡ true) s e e e e

  module _ (t : Tables) (p : Program) (c : Configuration) (e : is_next s ≡ false) where
    pub move-number : (default : ℕ) → step_check default t p c s ≡ check_at default t c (move_action s)
    unfolding step_check_with action
    move-number default = rw e

    pub move-after : step_to t p c s ≡ effect t c (move_action s)
    unfolding step_to action
    move-after = rw e
