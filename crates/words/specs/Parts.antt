-- The same tables or configuration but for one part.
use Rattle.std.specs.Prelude.{Bool, cond, List, ℕ, ltb, set}
use Rattle.sets.specs.Mask.{with, without, only}
use Rattle.model.specs.declared.ComponentType.{ComponentType}
use Rattle.model.specs.declared.Transitions.{Transitions}
use Rattle.model.specs.declared.Ports.{Ports}
use Rattle.model.specs.declared.Tables.{Tables}
use Rattle.model.specs.declared.Instruction.{Instruction}
use Rattle.model.specs.declared.Begun.{Begun}
use Rattle.model.specs.declared.Program.{Program}
use Rattle.model.specs.declared.Step.{Step}
use Rattle.model.specs.declared.Answer.{Answer}
use Rattle.model.specs.declared.Instance.{Instance}
use Rattle.model.specs.declared.Connection.{Connection}
use Rattle.model.specs.declared.Configuration.{Configuration}
use Rattle.model.specs.Empty.{no_server}
use Rattle.model.specs.View.{port_number, server, with_queue, with_servers}
use Rattle.read_spec.specs.Fill.{with_transition, with_port}
use Rattle.words.specs.declared.program.InstructionWords.{InstructionWords}
use Rattle.words.specs.declared.answer.StepWords.{StepWords}

-- a word as it is, and 0 for what no word holds
abbrev pub in_word : ℕ → ℕ
in_word n = cond (ltb n 4294967296) n 0

abbrev tables : ℕ → ℕ → List ComponentType → Transitions → List ℕ → Ports → Tables
tables d n ks xs bs qs = record { depth = d; count = n; types = ks; transitions = xs; behaviors = bs; ports = qs }

-- the depth as it is written, and how many types, instructions, steps there are
abbrev pub with_head : Tables → ℕ → ℕ → Tables
with_head t d n = tables d n t.types t.transitions t.behaviors t.ports

abbrev pub with_instructions : Program → ℕ → Program
with_instructions p n = record { edition = p.edition; begun = p.begun; instructions = p.instructions; count = n }

-- the number that the sheet opens with
abbrev pub with_edition : Program → ℕ → Program
with_edition p e = record { edition = e; begun = p.begun; instructions = p.instructions; count = p.count }

-- with another queue slot, or another last ticket of instance i
abbrev pub with_begun_slot : Begun → ℕ → ℕ → Begun
with_begun_slot b n x = record { queue = set b.queue n x; last = b.last }

abbrev pub with_last : Begun → ℕ → ℕ → Begun
with_last b i x = record { queue = b.queue; last = set b.last i x }

abbrev pub with_steps : Answer → ℕ → Answer
with_steps a n = record { steps = a.steps; count = n }

-- transition j, behavior j, port j, each counted over all types
abbrev pub with_ends : Tables → ℕ → ℕ → ℕ → Tables
with_ends t j a b = tables t.depth t.count t.types (with_transition t.transitions j a b) t.behaviors t.ports

abbrev pub with_behavior : Tables → ℕ → ℕ → Tables
with_behavior t j xs = tables t.depth t.count t.types t.transitions (set t.behaviors j xs) t.ports

abbrev pub with_group : Tables → ℕ → ℕ → ℕ → ℕ → Tables
with_group t j uses places transitions =
    tables t.depth t.count t.types t.transitions t.behaviors (with_port t.ports j uses places transitions)

-- what is known of type i
abbrev pub with_kind : Tables → ℕ → ComponentType → Tables
with_kind t i k = tables t.depth t.count (set t.types i k) t.transitions t.behaviors t.ports

abbrev pub type_of_words : ℕ → ℕ → ℕ → ℕ → ℕ → ComponentType
type_of_words a b c d e = record { places = a; initial = b; transitions = c; behaviors = d; ports = e }

abbrev pub instruction_of : ℕ → ℕ → ℕ → ℕ → ℕ → Instruction
instruction_of a b c d e = record { verb = a; id = b; number = c; provider = d; provideport = e }

-- the instruction that these words say
abbrev pub said : InstructionWords → Instruction
said k = instruction_of k.verb k.id k.number k.provider k.provideport

-- the step that these words say
abbrev pub said_step : StepWords → Step
said_step k = record { verb = k.verb; id = k.id; number = k.number }

abbrev pub step_of : ℕ → ℕ → ℕ → Step
step_of a b c = record { verb = a; id = b; number = c }

-- v with these sets
abbrev pub with_sets : Instance → ℕ → ℕ → ℕ → Instance
with_sets v m r e = record { present = v.present; kind = v.kind; marked = m; running = r; ended = e; queued = v.queued }

-- an instance with nothing held and nothing queued
abbrev pub bare : Bool → ℕ → ℕ → Instance
bare present kind marked = record { present = present; kind = kind; marked = marked; running = 0; ended = 0; queued = 0 }

abbrev pub connection_of_words : ℕ → ℕ → ℕ → ℕ → Connection
connection_of_words a b c d = record { user = a; useport = b; provider = c; provideport = d }

abbrev pub with_slot : Configuration → ℕ → ℕ → Configuration
with_slot c n x = with_queue c (set c.queue n x)

-- who serves use port q of instance i: past the sixteenth nobody, since a place there is another instance's
abbrev pub server_of : Configuration → ℕ → ℕ → ℕ
server_of c i q = cond (ltb q 16) (server c.servers (port_number i q)) no_server

abbrev pub with_server : Configuration → ℕ → ℕ → Configuration
with_server c s x = with_servers c (set c.servers s x)

-- the set m with i in it, or without it
abbrev pub changed : ℕ → ℕ → Bool → ℕ
changed m i here = cond here (with i m) (without m (only i))
