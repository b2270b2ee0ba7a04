-- Two lists of steps with equal projections have equally long texts.
-- Assumes nothing.
use mathlib.Core.Path.{◌≡◌, refl, sym, ap, ap₂, ◌∙◌}
use mathlib.Core.Bool.{Bool, true, false, ◌&&◌, ◌||◌, cond}
use mathlib.Core.List.{List, [], ◌∷◌, ◌++◌}
use Prim.Native.Nat.{ℕ, ◌+◌}
use native.Mathlib.Omega.{arith}
use lib.Dec.{eqb}
use lib.ListN.{length, length-append}
use Rattle.item_spec.specs.Reader.{bytes}
use Rattle.item_spec.specs.Write.{in_turn, one_text, two_text}
use Rattle.model.specs.declared.Program.{Program}
use Rattle.model.specs.declared.Step.{Step}
use Rattle.model.specs.Verb.{next_verb, fire_verb, end_verb, enter_verb, finish_verb}
use Rattle.read_spec.specs.Limits.{id_ok, place_ok, transition_ok}
use Rattle.rules_spec.specs.Action.{Action, add, del, pushb, con, dcon, wait, fire, end, enter, finish, move_action}
use Rattle.rules_spec.specs.Step.{is_next, action_at}
use Rattle.rules_spec.proofs.Actions.{instruction-cases}
use Rattle.write_spec.specs.Kinds.{limit_fault, step_text, step_fault}
use Rattle.write_spec.specs.Texts.{answer_text, of_steps}
use Rattle.write_spec.specs.Steps.{SaidStep, Every}
use Rattle.write_spec.proofs.Steps.{lines_of, lines_cons, text-length}
use Rattle.demands.specs.Agree.{deeds, naming}
use Rattle.demands.proofs.Traces.{tally, same-tally}
use Rattle.demands.proofs.Agree.{same_count}

-- the bytes of the line that does an action: an instruction's is `step=next`
bytes_of : Action → ℕ
bytes_of (fire i p) = length (bytes "step=fire," ++ two_text i p)
bytes_of (end i x) = length (bytes "step=end," ++ two_text i x)
bytes_of (enter i p) = length (bytes "step=enter," ++ two_text i p)
bytes_of (finish i) = length (bytes "step=finish," ++ one_text i)
bytes_of (add i k) = 10
bytes_of (del i) = 10
bytes_of (pushb i b) = 10
bytes_of (con k) = 10
bytes_of (dcon k) = 10
bytes_of (wait i) = 10

abbrev line_bytes : Step → ℕ
line_bytes s = cond (is_next s) 10 (bytes_of (move_action s))

line-bytes : (p : Program) (n : ℕ) → bytes_of (action_at p n) ≡ 10
unfolding action_at bytes_of
line-bytes p n = instruction-cases (λ a. bytes_of a ≡ 10) _ _ (λ _. refl) refl (λ _. refl) refl refl (λ _. refl) refl refl

-- of a step that a line says
step-bytes : (s : Step) → step_fault s ≡ 0 → length (step_text s) ≡ line_bytes s
unfolding step_fault step_text move_action bytes_of
step-bytes s e =
    go (eqb s.verb next_verb) (eqb s.verb fire_verb) (eqb s.verb end_verb) (eqb s.verb enter_verb) (eqb s.verb finish_verb) e
  where
    go : (n f x y z : Bool)
        → cond n 0 (cond (f || y) (limit_fault (id_ok s.id && place_ok s.number)) (cond x (limit_fault (id_ok s.id && transition_ok s.number)) (cond z (limit_fault (id_ok s.id)) 2))) ≡ 0
        → length (cond n (bytes "step=next\n") (cond f (bytes "step=fire," ++ two_text s.id s.number) (cond x (bytes "step=end," ++ two_text s.id s.number) (cond y (bytes "step=enter," ++ two_text s.id s.number) (cond z (bytes "step=finish," ++ one_text s.id) (bytes "step=\n"))))))
        ≡ cond n 10 (bytes_of (cond f (fire s.id s.number) (cond x (end s.id s.number) (cond y (enter s.id s.number) (finish s.id)))))
    go true f x y z e = refl
    go false true x y z e = refl
    go false false true y z e = refl
    go false false false true z e = refl
    go false false false false true e = refl
    go false false false false false e = absurd (omega arith)

steps-bytes : (ss : List Step) → Every SaidStep ss → length (lines_of ss) ≡ tally line_bytes ss
unfolding Every tally in_turn
steps-bytes [] e = refl
steps-bytes (s ∷ ss) (said, e) = ap length (lines_cons s ss) ∙ length-append (step_text s) (lines_of ss) ∙ ap₂ (λ (a b : ℕ). a + b) (step-bytes s said.0) (steps-bytes ss e)

steps-count : (ss : List Step) → length ss ≡ tally (λ s. 1) ss
unfolding tally
steps-count [] = refl
steps-count (s ∷ ss) = omega (arith, steps-count ss)

pub same-text-length : (p : Program) (n : ℕ) (ss us : List Step) → Every SaidStep ss → Every SaidStep us → ((i : ℕ) → naming i (deeds p n ss) ≡ naming i (deeds p n us))
    → length (answer_text (of_steps ss)) ≡ length (answer_text (of_steps us))
same-text-length p n ss us x y same =
    text-length ss us (steps-count ss ∙ same_count p n ss us same ∙ sym (steps-count us))
    (steps-bytes ss x ∙ same-tally p bytes_of line_bytes (λ m s e. line-bytes p m ∙ rw e refl) (λ s e. rw e refl) n ss us same ∙ sym (steps-bytes us y))
