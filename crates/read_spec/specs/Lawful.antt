-- What a sheet's and an answer's rules say of tables, program and steps, without the texts: the same limits, as one test for each.
-- Slots past a count and numbers that a line has not are not looked at.
use Rattle.std.specs.Prelude.{ℕ, List, Bool, true, not, ◌&&◌, ◌||◌, cond, ◌≡◌, eqb, get_or}
use Rattle.sets.specs.Test.{all_below}
use Rattle.model.specs.declared.ComponentType.{ComponentType}
use Rattle.model.specs.declared.Tables.{Tables}
use Rattle.model.specs.declared.Instruction.{Instruction}
use Rattle.model.specs.declared.Program.{Program}
use Rattle.model.specs.declared.Step.{Step}
use Rattle.model.specs.declared.Answer.{Answer}
use Rattle.model.specs.Empty.{no_instruction, no_step}
use Rattle.model.specs.View.{type_of, source, destination, behavior_of, port_kind, group_places, group_transitions}
use Rattle.model.specs.Verb.{add_verb, del_verb, pushb_verb, con_verb, dcon_verb, wait_verb, push_ticket_verb, wait_ticket_verb, next_verb, fire_verb, end_verb, enter_verb, finish_verb}
use Rattle.read_spec.specs.Limits.{depth_ok, types_ok, places_ok, transitions_ok, behaviors_ok, ports_ok, program_ok, steps_ok, kind_ok, mask_ok, end_ok, id_ok, place_ok, port_ok, transition_ok, behavior_ok, ticket_ok, has_tickets, edition_ok, type_ok, initial_ok, ends_ok, use_ok}
use Rattle.read_spec.specs.Lines.{on}
use Rattle.read_spec.specs.Texts.{sheet, answer}

-- in a type: a transition from place a to place b; a behavior, as a set; a port of a kind, with its places and transitions
abbrev pub transition_in : ComponentType → ℕ → ℕ → Bool
transition_in v a b = end_ok v.places a && (end_ok v.places b && ends_ok a b)

abbrev pub behavior_in : ComponentType → ℕ → Bool
behavior_in v m = mask_ok v.transitions m

abbrev pub port_in : ComponentType → ℕ → ℕ → ℕ → Bool
port_in v kind places transitions =
    mask_ok v.places places && (mask_ok v.transitions transitions
    && (kind_ok kind && (not (eqb kind 1) || use_ok v.initial places)))

-- transition x, behavior b, port q of type i
unfoldable pub transition_lawful : Tables → ℕ → ℕ → Bool
transition_lawful t i x = transition_in (type_of t i) (source t i x) (destination t i x)

unfoldable pub behavior_lawful : Tables → ℕ → ℕ → Bool
behavior_lawful t i b = behavior_in (type_of t i) (behavior_of t i b)

unfoldable pub port_lawful : Tables → ℕ → ℕ → Bool
port_lawful t i q = port_in (type_of t i) (port_kind t i q) (group_places t i q) (group_transitions t i q)

-- type i
unfoldable pub type_lawful : Tables → ℕ → Bool
type_lawful t i =
    places_ok (type_of t i).places && (mask_ok (type_of t i).places (type_of t i).initial && (initial_ok (type_of t i).initial
    && (transitions_ok (type_of t i).transitions && (all_below (type_of t i).transitions (transition_lawful t i)
    && (behaviors_ok (type_of t i).behaviors && (all_below (type_of t i).behaviors (behavior_lawful t i)
    && (ports_ok (type_of t i).ports && all_below (type_of t i).ports (port_lawful t i))))))))

unfoldable pub tables_lawful : Tables → Bool
tables_lawful t = depth_ok t.depth && (types_ok t.count && all_below t.count (type_lawful t))

-- what an instruction's verb asks of its other numbers, in a sheet of n types that opens with e
abbrev pub verb_lawful : ℕ → ℕ → Instruction → Bool
verb_lawful e n x =
    cond (eqb x.verb add_verb) (type_ok n x.number)
    (cond (eqb x.verb pushb_verb) (not (has_tickets e) && behavior_ok x.number)
    (cond (eqb x.verb con_verb || eqb x.verb dcon_verb) (port_ok x.number && (id_ok x.provider && port_ok x.provideport))
    (cond (eqb x.verb push_ticket_verb) (has_tickets e && (behavior_ok x.number && ticket_ok x.provider))
    (cond (eqb x.verb wait_ticket_verb) (has_tickets e && ticket_ok x.number)
    (eqb x.verb del_verb || eqb x.verb wait_verb)))))

unfoldable pub instruction_lawful : ℕ → ℕ → Instruction → Bool
instruction_lawful e n x = id_ok x.id && verb_lawful e n x

unfoldable pub program_lawful : ℕ → Program → Bool
program_lawful n p =
    program_ok p.count && (edition_ok p.edition && all_below p.count (λ j. instruction_lawful p.edition n (get_or p.instructions j no_instruction)))

unfoldable pub step_lawful : Step → Bool
step_lawful s =
    eqb s.verb next_verb
    || (id_ok s.id
    && cond (eqb s.verb fire_verb || eqb s.verb enter_verb) (place_ok s.number)
    (cond (eqb s.verb end_verb) (transition_ok s.number)
    (eqb s.verb finish_verb)))

unfoldable pub answer_lawful : Answer → Bool
answer_lawful a = steps_ok a.count && all_below a.count (λ j. step_lawful (get_or a.steps j no_step))

-- a sheet's rules, its length aside
unfoldable pub Lawful : Tables → Program → Type 0
Lawful t p = (tables_lawful t ≡ true) × (program_lawful t.count p ≡ true)

unfoldable pub SheetsAreLawful : Type 0
SheetsAreLawful = (s r : List ℕ) (t : Tables) (p : Program) → sheet s ≡ on (t, p) r → Lawful t p

unfoldable pub AnswersAreLawful : Type 0
AnswersAreLawful = (s r : List ℕ) (a : Answer) → answer s ≡ on a r → answer_lawful a ≡ true
