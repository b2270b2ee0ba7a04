-- The tables, the program and the answer as the lines fill them: one slot, or the rows of one type.
use Rattle.std.specs.Prelude.{ℕ, List, set}
use Rattle.model.specs.declared.ComponentType.{ComponentType}
use Rattle.model.specs.declared.Transitions.{Transitions}
use Rattle.model.specs.declared.Ports.{Ports}
use Rattle.model.specs.declared.Tables.{Tables}
use Rattle.model.specs.declared.Instruction.{Instruction}
use Rattle.model.specs.declared.Program.{Program}
use Rattle.model.specs.declared.Step.{Step}
use Rattle.model.specs.declared.Answer.{Answer}
use Rattle.model.specs.Empty.{no_tables, none_begun, no_program, no_answer}

-- a sheet of the depth d, as written, and of n types
unfoldable pub headed : ℕ → ℕ → Tables
headed d n = record {
  depth = d;
  count = n;
  types = no_tables.types;
  transitions = no_tables.transitions;
  behaviors = no_tables.behaviors;
  ports = no_tables.ports;
}

-- type i, with the rows of all types so far
unfoldable pub with_type : Tables → ℕ → ComponentType → Transitions → List ℕ → Ports → Tables
with_type t i k xs bs qs = record { depth = t.depth; count = t.count; types = set t.types i k; transitions = xs; behaviors = bs; ports = qs }

-- transition j, behavior j, port j, each counted over all types
unfoldable pub with_transition : Transitions → ℕ → ℕ → ℕ → Transitions
with_transition xs j a b = record { source = set xs.source j a; destination = set xs.destination j b }

unfoldable pub with_port : Ports → ℕ → ℕ → ℕ → ℕ → Ports
with_port qs j u a b = record { uses = set qs.uses j u; places = set qs.places j a; transitions = set qs.transitions j b }

-- a program of n instructions in a sheet that opens with e, none written down yet, and instruction j; the same for an answer
unfoldable pub program_of : ℕ → ℕ → Program
program_of e n = record { edition = e; begun = none_begun; instructions = no_program.instructions; count = n }

unfoldable pub with_instruction : Program → ℕ → Instruction → Program
with_instruction p j x = record { edition = p.edition; begun = p.begun; instructions = set p.instructions j x; count = p.count }

unfoldable pub answer_of : ℕ → Answer
answer_of n = record { steps = no_answer.steps; count = n }

unfoldable pub with_step : Answer → ℕ → Step → Answer
with_step a j x = record { steps = set a.steps j x; count = a.count }
