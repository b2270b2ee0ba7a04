-- What a written text says: every slot that no line says is empty, and so is every number that a line has not.
use Rattle.std.specs.Prelude.{ℕ, zero, suc, ◌+◌, ◌*◌, List, Bool, ◌&&◌, ◌||◌, cond, eqb, leb, ltb, get_or}
use Rattle.sets.specs.Test.{any_below}
use Rattle.model.specs.declared.ComponentType.{ComponentType}
use Rattle.model.specs.declared.Tables.{Tables}
use Rattle.model.specs.declared.Instruction.{Instruction}
use Rattle.model.specs.declared.Program.{Program}
use Rattle.model.specs.declared.Step.{Step}
use Rattle.model.specs.declared.Answer.{Answer}
use Rattle.model.specs.Empty.{no_type, none_begun, no_instruction, no_step}
use Rattle.model.specs.Verb.{add_verb, pushb_verb, con_verb, dcon_verb, push_ticket_verb, wait_ticket_verb, next_verb, finish_verb}
use Rattle.model.specs.View.{type_of, list_of}
use Rattle.write_spec.specs.Texts.{instruction_row, step_row}

-- slot r is one of the rows of the first n types, where type i has so many from w i on
abbrev pub row_said : ℕ → ℕ → (ℕ → ℕ) → ℕ → Bool
row_said n w rows r = any_below n (λ i. leb (i * w) r && ltb r (i * w + rows i))

-- a column of n slots: slot r holds f r where it is said, and else z
unfoldable pub column : {A : Type 0} → ℕ → (ℕ → Bool) → A → (ℕ → A) → List A
column n said z f = list_of n (λ r. cond (said r) (f r) z)

unfoldable pub cleared : Tables → Tables
cleared t = record {
  depth = t.depth;
  count = t.count;
  types = column 16 (λ r. ltb r t.count) no_type (type_of t);
  transitions = record {
    source = column 512 (row_said t.count 32 (λ i. (type_of t i).transitions)) 0 (λ r. get_or t.transitions.source r 0);
    destination = column 512 (row_said t.count 32 (λ i. (type_of t i).transitions)) 0 (λ r. get_or t.transitions.destination r 0);
  };
  behaviors = column 128 (row_said t.count 8 (λ i. (type_of t i).behaviors)) 0 (λ r. get_or t.behaviors r 0);
  ports = record {
    uses = column 256 (row_said t.count 16 (λ i. (type_of t i).ports)) 0 (λ r. get_or t.ports.uses r 0);
    places = column 256 (row_said t.count 16 (λ i. (type_of t i).ports)) 0 (λ r. get_or t.ports.places r 0);
    transitions = column 256 (row_said t.count 16 (λ i. (type_of t i).ports)) 0 (λ r. get_or t.ports.transitions r 0);
  };
}

-- an instruction with the numbers that its line has
unfoldable pub spoken : Instruction → Instruction
spoken x =
    cond (eqb x.verb add_verb || (eqb x.verb pushb_verb || eqb x.verb wait_ticket_verb)) (record { verb = x.verb; id = x.id; number = x.number; provider = 0; provideport = 0 })
    (cond (eqb x.verb con_verb || eqb x.verb dcon_verb) x
    (cond (eqb x.verb push_ticket_verb) (record { verb = x.verb; id = x.id; number = x.number; provider = x.provider; provideport = 0 })
    (record { verb = x.verb; id = x.id; number = 0; provider = 0; provideport = 0 })))

unfoldable pub cleared_program : Program → Program
cleared_program p = record { edition = p.edition; begun = none_begun; instructions = column 256 (λ r. ltb r p.count) no_instruction (λ r. spoken (instruction_row p r)); count = p.count }

-- a step with the numbers that its line has
unfoldable pub spoken_step : Step → Step
spoken_step x =
    cond (eqb x.verb next_verb) (record { verb = x.verb; id = 0; number = 0 })
    (cond (eqb x.verb finish_verb) (record { verb = x.verb; id = x.id; number = 0 }) x)

unfoldable pub cleared_answer : Answer → Answer
cleared_answer a = record { steps = column 1024 (λ r. ltb r a.count) no_step (λ r. spoken_step (step_row a r)); count = a.count }
