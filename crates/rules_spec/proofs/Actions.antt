-- What holds of each action that a `do` line can say holds of the instruction, and what holds of each move holds of the `step` line's.
-- Assumes nothing.
use mathlib.Core.Path.{◌≡◌, refl, sym, ap, ◌∙◌}
use mathlib.Core.Bool.{Bool, true, false, cond, false≢true}
use mathlib.Core.List.{List}
use Prim.Native.Nat.{ℕ}
use lib.Dec.{eqb}
use Rattle.model.specs.declared.Instruction.{Instruction}
use Rattle.model.specs.declared.Step.{Step}
use Rattle.model.specs.Verb.{add_verb, del_verb, pushb_verb, con_verb, dcon_verb, push_ticket_verb, wait_ticket_verb, fire_verb, end_verb, enter_verb}
use Rattle.rules_spec.specs.PushB.{Push}
use Rattle.rules_spec.specs.Action.{Action, add, del, pushb, con, dcon, wait, fire, end, enter, finish, named, plainly, ticketed, for_all, for_one, instruction_action, move_action}

module _ (P : Action → Type 0) where
  pub instruction-cases : (n : Instruction) (before : List ℕ) → (eqb n.verb add_verb ≡ true → P (add n.id n.number)) → P (del n.id)
      → (eqb n.verb pushb_verb ≡ true → P (pushb n.id (plainly n))) → P (con (named n)) → P (dcon (named n))
      → (eqb n.verb push_ticket_verb ≡ true → P (pushb n.id (ticketed before n))) → P (wait (for_one before n)) → P (wait (for_all n)) → P (instruction_action before n)
  unfolding instruction_action
  instruction-cases n before a d b k l c o w =
      go (eqb n.verb add_verb) a (eqb n.verb del_verb) (eqb n.verb pushb_verb) b (eqb n.verb con_verb) (eqb n.verb dcon_verb) (eqb n.verb push_ticket_verb) c
      (eqb n.verb wait_ticket_verb)
    where
      go : (u : Bool) → (u ≡ true → P (add n.id n.number)) → (v x : Bool) → (x ≡ true → P (pushb n.id (plainly n))) → (y z f : Bool)
          → (f ≡ true → P (pushb n.id (ticketed before n))) → (g : Bool)
          → P (cond u (add n.id n.number) (cond v (del n.id) (cond x (pushb n.id (plainly n)) (cond y (con (named n)) (cond z (dcon (named n))
          (cond f (pushb n.id (ticketed before n)) (cond g (wait (for_one before n)) (wait (for_all n)))))))))
      go true a v x b y z f c g = a refl
      go false a true x b y z f c g = d
      go false a false true b y z f c g = b refl
      go false a false false b true z f c g = k
      go false a false false b false true f c g = l
      go false a false false b false false true c g = c refl
      go false a false false b false false false c true = o
      go false a false false b false false false c false = w

  pub move-cases : (s : Step) → P (fire s.id s.number) → P (end s.id s.number) → P (enter s.id s.number) → P (finish s.id) → P (move_action s)
  unfolding move_action
  move-cases s a b c d = go (eqb s.verb fire_verb) (eqb s.verb end_verb) (eqb s.verb enter_verb)
    where
      go : (x y z : Bool) → P (cond x (fire s.id s.number) (cond y (end s.id s.number) (cond z (enter s.id s.number) (finish s.id))))
      go true y z = a
      go false true z = b
      go false false true = c
      go false false false = d

-- the ten kinds by number: the six instructions, then the four moves
abbrev pub kind_of : Action → ℕ
kind_of (add i k) = 0
kind_of (del i) = 1
kind_of (pushb i b) = 2
kind_of (con k) = 3
kind_of (dcon k) = 4
kind_of (wait i) = 5
kind_of (fire i p) = 6
kind_of (end i x) = 7
kind_of (enter i p) = 8
kind_of (finish i) = 9

unfoldable pub is_add : Action → Bool
is_add a = eqb (kind_of a) 0

unfoldable pub is_push : Action → Bool
is_push a = eqb (kind_of a) 2

pub not-push : {a : Action} {i : ℕ} {b : Push} → is_push a ≡ false → a ≡ pushb i b → ⊥
unfolding is_push
not-push e q = false≢true (sym e ∙ ap is_push q)

pub not-add : {a : Action} {i k : ℕ} → is_add a ≡ false → a ≡ add i k → ⊥
unfolding is_add
not-add e q = false≢true (sym e ∙ ap is_add q)

pub move-no-push : (s : Step) → is_push (move_action s) ≡ false
unfolding is_push
move-no-push s = move-cases (λ a. is_push a ≡ false) s refl refl refl refl

pub move-no-add : (s : Step) → is_add (move_action s) ≡ false
unfolding is_add
move-no-add s = move-cases (λ a. is_add a ≡ false) s refl refl refl refl
