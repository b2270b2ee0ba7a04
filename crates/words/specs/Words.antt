-- What the words of a lent array say.
--
--   tables   0 transitions (512 x 2: source, destination); 1024 ports (256 x 3: uses, places, transitions); 1792 behaviors (128);
--            1920 types (16 x 5: places, initial, transitions, behaviors, ports); 2000 depth; 2001 count
--   program  0 instructions (256 x 5: verb, id, number, provider, provideport); 1280 count; 1281 the number that the sheet opens with
--   begun    0 queue slots (256); 256 last tickets (32), one more than each
--   answer   0 steps (1024 x 3: verb, id, number); 3072 count
--   state    0 the set of those present; 1 instances (32 x 5: kind, marked, running, ended, queued); 161 queue slots (256);
--            417 servers (512); 929 done
use Rattle.std.specs.Prelude.{List, ℕ}
use Rattle.sets.specs.Mask.{member}
use Rattle.model.specs.Empty.{none_begun}
use Rattle.model.specs.declared.ComponentType.{ComponentType}
use Rattle.model.specs.declared.Tables.{Tables}
use Rattle.model.specs.declared.Instruction.{Instruction}
use Rattle.model.specs.declared.Begun.{Begun}
use Rattle.model.specs.declared.Program.{Program}
use Rattle.model.specs.declared.Step.{Step}
use Rattle.model.specs.declared.Answer.{Answer}
use Rattle.model.specs.declared.Instance.{Instance}
use Rattle.model.specs.declared.Configuration.{Configuration}
use Rattle.model.specs.View.{begun_with}
use Rattle.words.specs.Rows.{word, rows, column}

abbrev pub type_in : ℕ → List ℕ → ComponentType
type_in k r = record { places = word r 0; initial = word r 1; transitions = word r 2; behaviors = word r 3; ports = word r 4 }

unfoldable pub tables_in : List ℕ → Tables
tables_in ws = record {
  depth = word ws 2000;
  count = word ws 2001;
  types = rows type_in ws 1920 16 5;
  transitions = record { source = column ws 0 512 2 0; destination = column ws 0 512 2 1 };
  behaviors = column ws 1792 128 1 0;
  ports = record { uses = column ws 1024 256 3 0; places = column ws 1024 256 3 1; transitions = column ws 1024 256 3 2 };
}

abbrev pub instruction_in : ℕ → List ℕ → Instruction
instruction_in n r = record { verb = word r 0; id = word r 1; number = word r 2; provider = word r 3; provideport = word r 4 }

unfoldable pub program_in : List ℕ → Program
program_in ws = record { edition = word ws 1281; begun = none_begun; instructions = rows instruction_in ws 0 256 5; count = word ws 1280 }

unfoldable pub begun_in : List ℕ → Begun
begun_in ws = record { queue = column ws 0 256 1 0; last = column ws 256 32 1 0 }

-- a program, and what had been pushed before its first line
abbrev pub program_from : List ℕ → List ℕ → Program
program_from ws bs = begun_with (program_in ws) (begun_in bs).queue (begun_in bs).last

abbrev pub step_in : ℕ → List ℕ → Step
step_in n r = record { verb = word r 0; id = word r 1; number = word r 2 }

unfoldable pub answer_in : List ℕ → Answer
answer_in ws = record { steps = rows step_in ws 0 1024 3; count = word ws 3072 }

-- m is the set of those present
abbrev pub instance_in : ℕ → ℕ → List ℕ → Instance
instance_in m i r = record { present = member i m; kind = word r 0; marked = word r 1; running = word r 2; ended = word r 3; queued = word r 4 }

unfoldable pub state_in : List ℕ → Configuration
state_in ws = record {
  instances = rows (instance_in (word ws 0)) ws 1 32 5;
  queue = column ws 161 256 1 0;
  servers = column ws 417 512 1 0;
  done = word ws 929;
}
