-- What stands in a slot that nothing was written to, and the tables, program, answer and configuration with nothing in them.
use Rattle.std.specs.Prelude.{false, ℕ, replicate}
use Rattle.model.specs.declared.ComponentType.{ComponentType}
use Rattle.model.specs.declared.Tables.{Tables}
use Rattle.model.specs.declared.Instruction.{Instruction}
use Rattle.model.specs.declared.Begun.{Begun}
use Rattle.model.specs.declared.Program.{Program}
use Rattle.model.specs.declared.Step.{Step}
use Rattle.model.specs.declared.Answer.{Answer}
use Rattle.model.specs.declared.Instance.{Instance}
use Rattle.model.specs.declared.Connection.{Connection}
use Rattle.model.specs.declared.Configuration.{Configuration}

abbrev pub no_type : ComponentType
no_type = record { places = 0; initial = 0; transitions = 0; behaviors = 0; ports = 0 }

abbrev pub no_instruction : Instruction
no_instruction = record { verb = 0; id = 0; number = 0; provider = 0; provideport = 0 }

abbrev pub no_step : Step
no_step = record { verb = 0; id = 0; number = 0 }

abbrev pub absent : Instance
absent = record { present = false; kind = 0; marked = 0; running = 0; ended = 0; queued = 0 }

-- the mark for a use port that nobody serves
abbrev pub no_server : ℕ
no_server = 0

abbrev pub no_connection : Connection
no_connection = record { user = 0; useport = 0; provider = 0; provideport = 0 }

unfoldable pub no_tables : Tables
no_tables = record {
  depth = 0;
  count = 0;
  types = replicate 16 no_type;
  transitions = record { source = replicate 512 0; destination = replicate 512 0 };
  behaviors = replicate 128 0;
  ports = record { uses = replicate 256 0; places = replicate 256 0; transitions = replicate 256 0 };
}

unfoldable pub none_begun : Begun
none_begun = record { queue = replicate 256 0; last = replicate 32 0 }

unfoldable pub no_program : Program
no_program = record { edition = 0; begun = none_begun; instructions = replicate 256 no_instruction; count = 0 }

unfoldable pub no_answer : Answer
no_answer = record { steps = replicate 1024 no_step; count = 0 }

-- "fewer than 64 connections now"
abbrev pub most_connections : ℕ
most_connections = 64

-- where every walk starts
unfoldable pub start : Configuration
start = record { instances = replicate 32 absent; queue = replicate 256 0; servers = replicate 512 no_server; done = 0 }
