-- Every kind of line of the two texts. In one line 2 comes before 3 before 4: the form whole, then the limits, then the clauses of 4.
use Rattle.std.specs.Prelude.{ℕ, List, Bool, true, false, ◌&&◌, eqb}
use Rattle.item_spec.specs.Refusal.{bad_form, beyond_limit, bad_clause}
use Rattle.item_spec.specs.Reader.{Reader, bytes, ◌or◌, no_line, ◌>>=◌, ◌>>◌, give, check}
use Rattle.item_spec.specs.Read.{key, given, upon, one_form, two_form, three_form, four_form, list_form, lists_form}
use Rattle.model.specs.declared.Instruction.{Instruction}
use Rattle.model.specs.declared.Step.{Step}
use Rattle.model.specs.Verb.{add_verb, del_verb, pushb_verb, con_verb, dcon_verb, wait_verb, push_ticket_verb, wait_ticket_verb, next_verb, fire_verb, end_verb, enter_verb, finish_verb}
use Rattle.read_spec.specs.Limits.{five_digits, list_ok, end_ok, id_ok, place_ok, port_ok, transition_ok, behavior_ok, ticket_ok, has_tickets, edition_ok, type_ok, initial_ok, ends_ok, use_ok}

-- key=number, where the number is the one due: `answer=1`, `type=`; another number is a form fault
unfoldable pub due_line : List ℕ → ℕ → Reader (Unit {0})
due_line k n = do
  key k
  a ← one_form five_digits
  check (eqb a n) bad_form

-- "sheets that open with `sheet=2`", and `sheet=1`; another number is a form fault
unfoldable pub edition_line : Reader ℕ
edition_line = do
  key (bytes "sheet=")
  a ← one_form five_digits
  check (edition_ok a) bad_form
  give a

-- key=number with its limit, of at most d digits
unfoldable pub count_line_in : ℕ → List ℕ → (ℕ → Bool) → Reader ℕ
count_line_in d k limit = do
  key k
  a ← one_form d
  check (limit a) beyond_limit
  give a

-- `depth=`, `types=`, `places=`, `transitions=`, `behaviors=`, `ports=`, `program=`, `steps=`
abbrev pub count_line : List ℕ → (ℕ → Bool) → Reader ℕ
count_line k limit = count_line_in five_digits k limit

-- `initial=` list, in a type of n places
unfoldable pub initial_line : ℕ → Reader ℕ
initial_line n = do
  key (bytes "initial=")
  l ← list_form five_digits
  check (list_ok n l.top) beyond_limit
  check (initial_ok l.top) bad_clause
  give l.mask

-- `tran=source,destination`, in a type of n places
unfoldable pub tran_line : ℕ → Reader (ℕ × ℕ)
tran_line n = do
  key (bytes "tran=")
  (a, b) ← two_form five_digits
  check (end_ok n a && end_ok n b) beyond_limit
  check (ends_ok a b) bad_clause
  give (a, b)

-- key=list, of numbers below n
abbrev pub list_line : List ℕ → ℕ → Reader ℕ
list_line k n = do
  key k
  l ← list_form five_digits
  check (list_ok n l.top) beyond_limit
  give l.mask

-- `behavior=` list of transitions, in a type of k transitions
unfoldable pub behavior_line : ℕ → Reader ℕ
behavior_line k = list_line (bytes "behavior=") k

-- a port's group: its places and transitions, in a type of n places and k transitions
unfoldable pub group : ℕ → ℕ → Reader (ℕ × ℕ)
group n k = do
  (a, b) ← lists_form five_digits
  check (list_ok n a.top && list_ok k b.top) beyond_limit
  give (a.mask, b.mask)

-- `port=use,places,transitions` or `port=provide,places,transitions`, in a type whose initial places are m; 1 for use, 0 for provide
unfoldable pub port_line : ℕ → ℕ → ℕ → Reader (ℕ × ℕ × ℕ)
port_line n k m =
    upon (bytes "port=use,") (do
      (a, b) ← group n k
      check (use_ok m a) bad_clause
      give (1, a, b))
    or upon (bytes "port=provide,") (do
      (a, b) ← group n k
      give (0, a, b))
    or no_line

-- an instruction with the numbers that its line has, and 0 for those that it has not
abbrev pub an_instruction : ℕ → ℕ → ℕ → ℕ → ℕ → Instruction
an_instruction v a b c d = record { verb = v; id = a; number = b; provider = c; provideport = d }

-- what follows the verb of a `do` line: an id; an id and a number; user, useport, provider, provideport
unfoldable pub do_id : ℕ → Reader Instruction
do_id v = do
  a ← one_form five_digits
  check (id_ok a) beyond_limit
  give (an_instruction v a 0 0 0)

unfoldable pub do_number : ℕ → (ℕ → Bool) → Reader Instruction
do_number v limit = do
  (a, b) ← two_form five_digits
  check (id_ok a && limit b) beyond_limit
  give (an_instruction v a b 0 0)

unfoldable pub do_ends : ℕ → Reader Instruction
do_ends v = do
  (a, b, c, d) ← four_form five_digits
  check (id_ok a && (port_ok b && (id_ok c && port_ok d))) beyond_limit
  give (an_instruction v a b c d)

-- `pushb,id,behavior,ticket`
unfoldable pub do_ticketed : Reader Instruction
do_ticketed = do
  (a, b, c) ← three_form five_digits
  check (id_ok a && (behavior_ok b && ticket_ok c)) beyond_limit
  give (an_instruction push_ticket_verb a b c 0)

-- `wait,id` or `wait,id,ticket`
unfoldable pub do_wait : Reader Instruction
do_wait =
    given (one_form five_digits) (λ a. do
      check (id_ok a) beyond_limit
      give (an_instruction wait_verb a 0 0 0))
    (do_number wait_ticket_verb ticket_ok)

-- "there every push has a ticket, and a wait may have one": what follows `pushb,` and `wait,` in a sheet that opens with e
abbrev pub do_push_in : ℕ → Reader Instruction
do_push_in e = λ s. elim (has_tickets e) [ true ↦ do_ticketed s | false ↦ do_number pushb_verb behavior_ok s ]

abbrev pub do_wait_in : ℕ → Reader Instruction
do_wait_in e = λ s. elim (has_tickets e) [ true ↦ do_wait s | false ↦ do_id wait_verb s ]

-- `do=`, in a sheet of n types that opens with e
unfoldable pub do_line : ℕ → ℕ → Reader Instruction
do_line e n =
    upon (bytes "do=add,") (do_number add_verb (type_ok n))
    or upon (bytes "do=del,") (do_id del_verb)
    or upon (bytes "do=pushb,") (do_push_in e)
    or upon (bytes "do=con,") (do_ends con_verb)
    or upon (bytes "do=dcon,") (do_ends dcon_verb)
    or upon (bytes "do=wait,") (do_wait_in e)
    or no_line

abbrev pub a_step : ℕ → ℕ → ℕ → Step
a_step v a b = record { verb = v; id = a; number = b }

-- what follows the verb of a `step` line: an id; an id and a number
unfoldable pub step_id : ℕ → Reader Step
step_id v = do
  a ← one_form five_digits
  check (id_ok a) beyond_limit
  give (a_step v a 0)

unfoldable pub step_number : ℕ → (ℕ → Bool) → Reader Step
step_number v limit = do
  (a, b) ← two_form five_digits
  check (id_ok a && limit b) beyond_limit
  give (a_step v a b)

-- `step=`
unfoldable pub step_line : Reader Step
step_line =
    upon (bytes "step=next\n") (give (a_step next_verb 0 0))
    or upon (bytes "step=fire,") (step_number fire_verb place_ok)
    or upon (bytes "step=end,") (step_number end_verb transition_ok)
    or upon (bytes "step=enter,") (step_number enter_verb place_ok)
    or upon (bytes "step=finish,") (step_id finish_verb)
    or no_line
