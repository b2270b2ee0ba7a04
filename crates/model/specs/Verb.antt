-- The codes that stand for the verbs of `do` and `step` lines, in the order of 01.
use Rattle.std.specs.Prelude.{ℕ}

abbrev pub add_verb : ℕ
add_verb = 0

abbrev pub del_verb : ℕ
del_verb = 1

abbrev pub pushb_verb : ℕ
pushb_verb = 2

abbrev pub con_verb : ℕ
con_verb = 3

abbrev pub dcon_verb : ℕ
dcon_verb = 4

abbrev pub wait_verb : ℕ
wait_verb = 5

-- with a ticket
abbrev pub push_ticket_verb : ℕ
push_ticket_verb = 6

abbrev pub wait_ticket_verb : ℕ
wait_ticket_verb = 7

abbrev pub next_verb : ℕ
next_verb = 0

abbrev pub fire_verb : ℕ
fire_verb = 1

abbrev pub end_verb : ℕ
end_verb = 2

abbrev pub enter_verb : ℕ
enter_verb = 3

abbrev pub finish_verb : ℕ
finish_verb = 4
