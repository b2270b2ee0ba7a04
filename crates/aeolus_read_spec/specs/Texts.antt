-- The two texts: their lines in order, each put into what was read so far.
use Rattle.std.specs.Prelude.{ℕ, cond, eqb}
use Rattle.sets.specs.Mask.{with}
use Rattle.item_spec.specs.Reader.{bytes}
use Rattle.read_spec.specs.Lines.{Lines, ◌>>=◌, ◌>>◌, hand_on, line, each, at_end}
use Rattle.read_spec.specs.Kinds.{due_line, count_line}
use Rattle.aeolus_model.specs.Model.{Universe, no_universe, type_of, with_count, with_states, with_initial, with_interfaces, with_provides, with_requires, with_name, with_to, with_number}
use Rattle.aeolus_model.specs.Action.{Plan, no_plan, with_step, with_steps}
use Rattle.aeolus_read_spec.specs.Limits.{types_ok, states_ok, state_ok, interfaces_ok, active_ok, steps_ok}
use Rattle.aeolus_read_spec.specs.Kinds.{provide_kind, require_kind, interface_line, to_line, row_line, step_line}

-- the counts, and the initial state, of type k
unfoldable pub types_at : Universe → Lines Universe
types_at u = do
  n ← line (count_line (bytes "types=") types_ok)
  hand_on (with_count u n)

unfoldable pub states_at : ℕ → Universe → Lines Universe
states_at k u = do
  n ← line (count_line (bytes "states=") states_ok)
  hand_on (with_states u k n)

unfoldable pub initial_at : ℕ → Universe → Lines Universe
initial_at k u = do
  q ← line (count_line (bytes "initial=") (state_ok (type_of u k).states))
  hand_on (with_initial u k q)

unfoldable pub interfaces_at : ℕ → Universe → Lines Universe
interfaces_at k u = do
  n ← line (count_line (bytes "interfaces=") interfaces_ok)
  hand_on (with_interfaces u k n)

-- interface j of type k: its name, and P or R or both with it
unfoldable pub in_provides : ℕ → ℕ → ℕ → Universe → Universe
in_provides k j c u = cond (eqb c require_kind) u (with_provides u k (with j (type_of u k).provides))

unfoldable pub in_requires : ℕ → ℕ → ℕ → Universe → Universe
in_requires k j c u = cond (eqb c provide_kind) u (with_requires u k (with j (type_of u k).requires))

unfoldable pub with_interface : Universe → ℕ → ℕ → ℕ → ℕ → Universe
with_interface u k j c r = in_requires k j c (in_provides k j c (with_name u k j r))

unfoldable pub interface_at : ℕ → ℕ → Universe → Lines Universe
interface_at k j u = do
  (c, r) ← line (interface_line u k j)
  hand_on (with_interface u k j c r)

-- state q of type k: where it may change to, and row i of those that it activates
unfoldable pub to_at : ℕ → ℕ → Universe → Lines Universe
to_at k q u = do
  m ← line (to_line (type_of u k).states)
  hand_on (with_to u k q m)

unfoldable pub row_at : ℕ → ℕ → ℕ → Universe → Lines Universe
row_at k q i u = do
  (m, j, x) ← line (row_line u k q)
  hand_on (with_number u k q m j x)

unfoldable pub rows_at : ℕ → ℕ → Universe → Lines Universe
rows_at k q u = do
  n ← line (count_line (bytes "active=") active_ok)
  each (row_at k q) n 0 u

unfoldable pub state_at : ℕ → ℕ → Universe → Lines Universe
state_at k q u = do
  line (due_line (bytes "state=") q)
  v ← to_at k q u
  rows_at k q v

unfoldable pub type_head : ℕ → Universe → Lines Universe
type_head k u = do
  line (due_line (bytes "type=") k)
  a ← states_at k u
  b ← initial_at k a
  interfaces_at k b

unfoldable pub type_at : ℕ → Universe → Lines Universe
type_at k u = do
  a ← type_head k u
  b ← each (interface_at k) (type_of a k).interfaces 0 a
  each (state_at k) (type_of b k).states 0 b

unfoldable pub sheet : Lines Universe
sheet = do
  line (due_line (bytes "aeolus=") 1)
  u ← types_at no_universe
  v ← each type_at u.count 0 u
  at_end
  hand_on v

-- step j of a plan, in a sheet of n types
unfoldable pub step_at : ℕ → ℕ → Plan → Lines Plan
step_at n j p = do
  x ← line (step_line n)
  hand_on (with_step p j x)

unfoldable pub steps_at : Plan → Lines Plan
steps_at p = do
  k ← line (count_line (bytes "steps=") steps_ok)
  hand_on (with_steps p k)

unfoldable pub plan : ℕ → Lines Plan
plan n = do
  line (due_line (bytes "plan=") 1)
  p ← steps_at no_plan
  q ← each (step_at n) p.count 0 p
  at_end
  hand_on q
