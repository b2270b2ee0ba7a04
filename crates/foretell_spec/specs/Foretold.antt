-- What the names foretell of every sequence of allowed steps, from any start with nothing done.
use Rattle.std.specs.Prelude.{◌≡◌, ◌⊎◌, ◌≢◌, true, cond, List, ℕ, ◌≤◌, ◌<◌, eqb}
use Rattle.model.specs.declared.Tables.{Tables}
use Rattle.model.specs.declared.Program.{Program}
use Rattle.model.specs.declared.Step.{Step}
use Rattle.model.specs.declared.Configuration.{Configuration}
use Rattle.read_spec.specs.Limits.{has_tickets}
use Rattle.read_spec.specs.Lawful.{Lawful}
use Rattle.rules_spec.specs.Refusal.{allowed, no_instruction_left, ticket_not_above, queue_full, queue_not_empty, use_port_active, still_queued, never_pushed}
use Rattle.rules_spec.specs.Step.{is_next, step_check}
use Rattle.rules_spec.specs.Walk.{walk}
use Rattle.start_spec.specs.Permitted.{MayBegin, TicketsFit}
use Rattle.foretell_spec.specs.declared.Foretelling.{Foretelling}
use Rattle.foretell_spec.specs.Names.{foretold}

-- "in sheets that open with `sheet=2`"
abbrev pub Tickets : Program → Type 0
Tickets p = has_tickets p.edition ≡ true

-- what names tell, where T says that there are tickets: "11 to 18"; "19 and 24 too"
pub data ByName (T : Type 0) : ℕ → Type 0 where
  plain : {n : ℕ} → 11 ≤ n → n ≤ 18 → ByName T n
  late : T → ByName T ticket_not_above
  never : T → ByName T never_pushed

-- what no name tells: the numbers of an instruction that may pass later; "the numbers it leaves possible gain 23"
pub data Waits (T : Type 0) : ℕ → Type 0 where
  full : Waits T queue_full
  busy : Waits T queue_not_empty
  active : Waits T use_port_active
  queued : T → Waits T still_queued

abbrev pub Later : Type 0 → ℕ → Type 0
Later T n = (n ≡ allowed) ⊎ Waits T n

-- a start: nothing is done
abbrev pub Starts : Configuration → Type 0
Starts c = c.done ≡ 0

-- a start that a paper may begin with, of a sheet with or without tickets
pub record Begins (default : ℕ) (t : Tables) (p : Program) (c : Configuration) : Type 0 where
  pub room : default ≤ 8
  pub lawful : Lawful t p
  pub may : MayBegin default t p c
  pub fits : Tickets p → TicketsFit p c

-- a prefix of an answer is an answer, so these speak of every sequence of allowed steps
abbrev pub reached_by : ℕ → Tables → Program → Configuration → List Step → Configuration
reached_by default t p c ss = (walk default t p c ss).configuration

-- "If there is none, .. over every sequence of allowed steps from the empty start, a `next` is refused only with 10, 20, 21 or 22", and with 23 where there are
-- tickets. With 10 just where every instruction is done.
unfoldable pub NoneForetold : Type 0
NoneForetold =
    (default : ℕ) (t : Tables) (p : Program) (c : Configuration) (ss : List Step) (s : Step)
    → Lawful t p
    → Starts c
    → (foretold t p c).refused ≡ 0
    → is_next s ≡ true
    → ((p.count ≤ (reached_by default t p c ss).done) × (step_check default t p (reached_by default t p c ss) s ≡ no_instruction_left))
    ⊎ (((reached_by default t p c ss).done < p.count) × Later (Tickets p) (step_check default t p (reached_by default t p c ss) s))

-- "If there is one, .. no sequence of allowed steps carries it out and .. any which comes to it gets the number foretold." Before it, only 20, 21 or 22, or 23
-- where there are tickets.
unfoldable pub OneForetold : Type 0
OneForetold =
    (default : ℕ) (t : Tables) (p : Program) (c : Configuration) (ss : List Step) (s : Step)
    → Begins default t p c
    → (foretold t p c).refused ≢ 0
    → is_next s ≡ true
    → (((reached_by default t p c ss).done ≡ (foretold t p c).next) × (step_check default t p (reached_by default t p c ss) s ≡ (foretold t p c).refused))
    ⊎ (((reached_by default t p c ss).done < (foretold t p c).next) × Later (Tickets p) (step_check default t p (reached_by default t p c ss) s))

-- the number of a `next` that comes past all that the names allow
abbrev pub due : Foretelling → ℕ
due f = cond (eqb f.refused 0) no_instruction_left f.refused

-- the instruction done is the one foretold (or there is none left) and its number the one foretold (or 10); or it comes before, and its number is one that no name tells
abbrev pub AsForetold : Type 0 → Foretelling → ℕ → ℕ → Type 0
AsForetold T f done n = ((done ≡ f.next) × (n ≡ due f)) ⊎ ((done < f.next) × Later T n)

-- both at once
unfoldable pub NextsAreForetold : Type 0
NextsAreForetold =
    (default : ℕ) (t : Tables) (p : Program) (c : Configuration) (ss : List Step) (s : Step)
    → Begins default t p c
    → is_next s ≡ true
    → AsForetold (Tickets p) (foretold t p c) (reached_by default t p c ss).done (step_check default t p (reached_by default t p c ss) s)

-- what is foretold: a number that names tell, of an instruction that the program has, or 0 and all of them
pub record Foretells (t : Tables) (p : Program) (f : Foretelling) : Type 0 where
  pub none : f.refused ≡ 0 → f.next ≡ p.count
  pub one : f.refused ≢ 0 → (f.next < p.count) × (Lawful t p → ByName (Tickets p) f.refused)

unfoldable pub NumbersForetold : Type 0
NumbersForetold = (t : Tables) (p : Program) (c : Configuration) → Starts c → Foretells t p (foretold t p c)

-- no sequence of allowed steps, of any program, carries out what is foretold
unfoldable pub NeverPast : Type 0
NeverPast =
    (default : ℕ) (t : Tables) (p : Program) (c : Configuration) (ss : List Step) → Starts c → (reached_by default t p c ss).done ≤ (foretold t p c).next
