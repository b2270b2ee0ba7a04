-- The line of a verb: its key, how many of four numbers follow, and the limits that they lie below.
use Rattle.std.specs.Prelude.{ℕ, List, ◌++◌, Bool, true, not, ◌&&◌, ◌||◌, cond, ◌≡◌, eqb, ltb, get_or}
use Rattle.rules_spec.specs.Refusal.{◌⇒◌∣◌}
use Rattle.model.specs.Verb.{pushb_verb, push_ticket_verb, wait_ticket_verb}
use Rattle.read_spec.specs.Limits.{has_tickets}
use Rattle.model.specs.declared.Instruction.{Instruction}
use Rattle.model.specs.declared.Step.{Step}
use Rattle.write_lines.specs.Numbers.{numbers_text}
use Rattle.write_verbs.specs.declared.Said.{Said}
use Rattle.write_verbs.specs.declared.Verb.{Verb}

-- what a line says, as an instruction and as a step
abbrev pub as_instruction : Said → Instruction
as_instruction x = record { verb = x.0; id = x.1; number = x.2; provider = x.3; provideport = x.4 }

abbrev pub as_step : Said → Step
as_step x = record { verb = x.0; id = x.1; number = x.2 }

-- n numbers lie below their limits
unfoldable pub numbers_ok : ℕ → List ℕ → ℕ → ℕ → ℕ → ℕ → Bool
numbers_ok n l a b c d =
    cond (eqb n 0) true (cond (eqb n 1) (ltb a (get_or l 0 0)) (cond (eqb n 2) (ltb a (get_or l 0 0) && ltb b (get_or l 1 0))
    (cond (eqb n 3) (ltb a (get_or l 0 0) && (ltb b (get_or l 1 0) && ltb c (get_or l 2 0)))
    (ltb a (get_or l 0 0) && (ltb b (get_or l 1 0) && (ltb c (get_or l 2 0) && ltb d (get_or l 3 0)))))))

-- what a verb's row of the table stands for: the text and the number of the line, for all numbers
pub record Says (v : Verb) (text : ℕ → ℕ → ℕ → ℕ → List ℕ) (fault : ℕ → ℕ → ℕ → ℕ → ℕ) : Type 0 where
  pub text-is : (a b c d : ℕ) → v.0.now ++ numbers_text v.1 a b c d ≡ text a b c d
  pub fault-is : (a b c d : ℕ) → (not (numbers_ok v.1 v.2 a b c d) ⇒ 3 ∣ v.3) ≡ fault a b c d

-- the number that a sheet opens with in which the verb is said
abbrev pub edition_of : ℕ → ℕ
edition_of v = cond (eqb v push_ticket_verb || eqb v wait_ticket_verb) 2 1

abbrev pub is_foreign : ℕ → ℕ → Bool
is_foreign e v = cond (has_tickets e) (eqb v pushb_verb) (eqb v push_ticket_verb || eqb v wait_ticket_verb)
