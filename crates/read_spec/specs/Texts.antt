-- The two texts: their lines in order.
use Rattle.std.specs.Prelude.{ℕ, ◌*◌, List, set}
use Rattle.item_spec.specs.Reader.{bytes}
use Rattle.model.specs.declared.Transitions.{Transitions}
use Rattle.model.specs.declared.Ports.{Ports}
use Rattle.model.specs.declared.Tables.{Tables}
use Rattle.model.specs.declared.Program.{Program}
use Rattle.model.specs.declared.Answer.{Answer}
use Rattle.read_spec.specs.Limits.{depth_ok, types_ok, places_ok, transitions_ok, behaviors_ok, ports_ok, program_ok, steps_ok}
use Rattle.read_spec.specs.Lines.{Lines, ◌>>=◌, ◌>>◌, hand_on, line, each, at_end}
use Rattle.read_spec.specs.Kinds.{edition_line, due_line, count_line, initial_line, tran_line, behavior_line, port_line, do_line, step_line}
use Rattle.read_spec.specs.Fill.{headed, with_type, with_transition, with_port, program_of, with_instruction, answer_of, with_step}

-- transition j, in a type of n places; behavior j, in a type of k transitions; port j, in a type with the initial places m
unfoldable pub tran_at : ℕ → ℕ → Transitions → Lines Transitions
tran_at n j xs = do
  (a, b) ← line (tran_line n)
  hand_on (with_transition xs j a b)

unfoldable pub behavior_at : ℕ → ℕ → List ℕ → Lines (List ℕ)
behavior_at k j bs = do
  m ← line (behavior_line k)
  hand_on (set bs j m)

unfoldable pub port_at : ℕ → ℕ → ℕ → ℕ → Ports → Lines Ports
port_at n k m j qs = do
  (u, a, b) ← line (port_line n k m)
  hand_on (with_port qs j u a b)

-- type i: its transitions stand from 32 i on, its behaviors from 8 i on, its ports from 16 i on
unfoldable pub type_lines : ℕ → Tables → Lines Tables
type_lines i t = do
  line (due_line (bytes "type=") i)
  n ← line (count_line (bytes "places=") places_ok)
  m ← line (initial_line n)
  k ← line (count_line (bytes "transitions=") transitions_ok)
  xs ← each (tran_at n) k (i * 32) t.transitions
  b ← line (count_line (bytes "behaviors=") behaviors_ok)
  bs ← each (behavior_at k) b (i * 8) t.behaviors
  p ← line (count_line (bytes "ports=") ports_ok)
  qs ← each (port_at n k m) p (i * 16) t.ports
  hand_on (with_type t i (record { places = n; initial = m; transitions = k; behaviors = b; ports = p }) xs bs qs)

-- instruction j, in a sheet of n types that opens with e
unfoldable pub instruction_at : ℕ → ℕ → ℕ → Program → Lines Program
instruction_at e n j p = do
  x ← line (do_line e n)
  hand_on (with_instruction p j x)

unfoldable pub sheet : Lines (Tables × Program)
sheet = do
  e ← line edition_line
  d ← line (count_line (bytes "depth=") depth_ok)
  n ← line (count_line (bytes "types=") types_ok)
  t ← each type_lines n 0 (headed d n)
  k ← line (count_line (bytes "program=") program_ok)
  p ← each (instruction_at e n) k 0 (program_of e k)
  at_end
  hand_on (t, p)

-- step j of the answer
unfoldable pub step_at : ℕ → Answer → Lines Answer
step_at j a = do
  x ← line step_line
  hand_on (with_step a j x)

unfoldable pub answer : Lines Answer
answer = do
  line (due_line (bytes "answer=") 1)
  k ← line (count_line (bytes "steps=") steps_ok)
  a ← each step_at k 0 (answer_of k)
  at_end
  hand_on a
