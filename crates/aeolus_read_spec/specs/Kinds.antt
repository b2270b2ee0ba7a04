-- Every kind of line that only the paper's texts have. In one line 2 comes before 3 before 4: the form whole, then the limits, then the clauses of 4.
use Rattle.std.specs.Prelude.{ℕ, suc, ◌&&◌}
use Rattle.item_spec.specs.Refusal.{beyond_limit, bad_clause}
use Rattle.item_spec.specs.Reader.{Reader, bytes, ◌or◌, no_line, ◌>>=◌, ◌>>◌, give, check}
use Rattle.item_spec.specs.Read.{upon, one_form, two_form, three_form}
use Rattle.read_spec.specs.Limits.{five_digits}
use Rattle.read_spec.specs.Kinds.{list_line}
use Rattle.aeolus_model.specs.declared.Step.{Step}
use Rattle.aeolus_model.specs.Model.{Universe, provision, weak, strong, place_of}
use Rattle.aeolus_model.specs.Action.{new_verb, del_verb, change_verb, bind_verb, unbind_verb}
use Rattle.aeolus_read_spec.specs.Limits.{id_ok, name_ok, number_ok, change_ok, type_ok, above_ok, clauses_ok, ends_ok}

-- which of P and R an interface is in
abbrev pub provide_kind : ℕ
provide_kind = 0

abbrev pub require_kind : ℕ
require_kind = 1

abbrev pub both_kind : ℕ
both_kind = 2

-- what follows the kind of interface j of type k, in the universe read so far
unfoldable pub interface_name : Universe → ℕ → ℕ → ℕ → Reader (ℕ × ℕ)
interface_name u k j c = do
  r ← one_form five_digits
  check (name_ok r) beyond_limit
  check (above_ok u k j r) bad_clause
  give (c, r)

-- `interface=provide,name`, `interface=require,name` or `interface=both,name`: the kind and the name
unfoldable pub interface_line : Universe → ℕ → ℕ → Reader (ℕ × ℕ)
interface_line u k j =
    upon (bytes "interface=provide,") (interface_name u k j provide_kind)
    or upon (bytes "interface=require,") (interface_name u k j require_kind)
    or upon (bytes "interface=both,") (interface_name u k j both_kind)
    or no_line

-- `to=` list of states, in a type of n states
unfoldable pub to_line : ℕ → Reader ℕ
to_line n = list_line (bytes "to=") n

-- what follows the map m of a row, in state q of type k: the map, the interface's place, and one more than the number
unfoldable pub row_port : Universe → ℕ → ℕ → ℕ → Reader (ℕ × ℕ × ℕ)
row_port u k q m = do
  (r, n) ← two_form five_digits
  check (name_ok r && number_ok n) beyond_limit
  check (clauses_ok u k q m r) bad_clause
  give (m, place_of u k r, suc n)

-- `provide=name,number`, `weak=name,number` or `strong=name,number`
unfoldable pub row_line : Universe → ℕ → ℕ → Reader (ℕ × ℕ × ℕ)
row_line u k q =
    upon (bytes "provide=") (row_port u k q provision)
    or upon (bytes "weak=") (row_port u k q weak)
    or upon (bytes "strong=") (row_port u k q strong)
    or no_line

-- a step with the numbers that its line has, and 0 for those that it has not
abbrev pub step : ℕ → ℕ → ℕ → ℕ → Step
step v a b c = record { verb = v; first = a; second = b; third = c }

-- what follows the verb: `new,id,type` in a sheet of n types; `del,id`; `change,id,from,to`; an interface, its requirer and its provider
unfoldable pub new_step : ℕ → Reader Step
new_step n = do
  (z, k) ← two_form five_digits
  check (id_ok z && type_ok n k) beyond_limit
  give (step new_verb z k 0)

unfoldable pub del_step : Reader Step
del_step = do
  z ← one_form five_digits
  check (id_ok z) beyond_limit
  give (step del_verb z 0 0)

unfoldable pub change_step : Reader Step
change_step = do
  (z, q, s) ← three_form five_digits
  check (id_ok z && (change_ok q && change_ok s)) beyond_limit
  give (step change_verb z q s)

unfoldable pub ends_step : ℕ → Reader Step
ends_step v = do
  (r, z, y) ← three_form five_digits
  check (name_ok r && (id_ok z && id_ok y)) beyond_limit
  check (ends_ok z y) bad_clause
  give (step v r z y)

-- `step=`, in a sheet of n types
unfoldable pub step_line : ℕ → Reader Step
step_line n =
    upon (bytes "step=new,") (new_step n)
    or upon (bytes "step=del,") del_step
    or upon (bytes "step=change,") change_step
    or upon (bytes "step=bind,") (ends_step bind_verb)
    or upon (bytes "step=unbind,") (ends_step unbind_verb)
    or no_line
