-- What a start that is read keeps to: "a state that the sheet's types permit", and the program at its first line.
use Rattle.std.specs.Prelude.{ℕ, ◌≤◌, ◌<◌, List, [], ◌≢◌, ◌≡◌, get_or, true, false}
use Rattle.sets.specs.Mask.{within}
use Rattle.model.specs.declared.Tables.{Tables}
use Rattle.model.specs.declared.Program.{Program}
use Rattle.model.specs.declared.Configuration.{Configuration}
use Rattle.model.specs.Empty.{absent, none_begun, start}
use Rattle.model.specs.View.{instance, slot, queue_of, begun_with}
use Rattle.read_spec.specs.Lines.{on}
use Rattle.read_spec.specs.Limits.{has_tickets}
use Rattle.read_spec.specs.Lawful.{Lawful}
use Rattle.rules_spec.specs.Instance.{held}
use Rattle.rules_spec.specs.Ports.{behavior}
use Rattle.rules_spec.specs.Tickets.{begun_to, last_stamp, Rises, Ticketed}
use Rattle.rules_spec.specs.PushB.{depth_of}
use Rattle.rules_spec.specs.Proper.{Proper}
use Rattle.start_spec.specs.Text.{Outset, start_lines}
use Rattle.start_spec.specs.Served.{AllServed}

-- "held transitions all in the head behavior (none if the queue is empty)"; and what no line speaks of is empty
pub record Tidy (t : Tables) (c : Configuration) : Type 0 where
  pub head : (i : ℕ) → (instance c i).present ≡ true → within (held (instance c i)) (behavior t c i) ≡ true
  pub gone : (i : ℕ) → (instance c i).present ≡ false → instance c i ≡ absent
  pub free : (i r : ℕ) → r < 8 → (instance c i).queued ≤ r → slot c i r ≡ 0

-- all but number 50
pub record Permitted (default : ℕ) (t : Tables) (p : Program) (c : Configuration) : Type 0 where
  pub proper : Proper default t p c
  pub tidy : Tidy t c
  pub first : c.done ≡ 0

-- a paper may begin with c
pub record MayBegin (default : ℕ) (t : Tables) (p : Program) (c : Configuration) : Type 0 where
  pub permitted : Permitted default t p c
  pub served : AllServed t c

unfoldable pub NothingUpMayBegin : Type 0
NothingUpMayBegin = (default : ℕ) (t : Tables) (p : Program) → MayBegin default t p start

unfoldable pub StartsArePermitted : Type 0
StartsArePermitted =
    (default : ℕ) (t : Tables) (p : Program) (s r : List ℕ) (x : Outset)
    → default ≤ 8
    → Lawful t p
    → start_lines p.edition (depth_of default t) t s ≡ on x r
    → Permitted default t p x.0

-- the pushes before the first instruction are what is queued at c, or where nothing is queued the last ticket alone; each has a ticket, and they rise
pub record TicketsFit (p : Program) (c : Configuration) : Type 0 where
  pub queued : (i : ℕ) → queue_of c i ≢ [] → begun_to p i ≡ queue_of c i
  pub rises : (i : ℕ) → Rises (begun_to p i)
  pub tickets : (i : ℕ) → Ticketed (begun_to p i)

-- "so starting queues obey the rise"
unfoldable pub StartsFit : Type 0
StartsFit =
    (default : ℕ) (t : Tables) (p : Program) (s r : List ℕ) (x : Outset)
    → default ≤ 8
    → Lawful t p
    → has_tickets p.edition ≡ true
    → start_lines p.edition (depth_of default t) t s ≡ on x r
    → TicketsFit (begun_with p x.0.queue x.1) x.0

-- "the tail's if a queue stands"
unfoldable pub StartsShowTheTail : Type 0
StartsShowTheTail =
    (default : ℕ) (t : Tables) (p : Program) (s r : List ℕ) (x : Outset)
    → default ≤ 8
    → Lawful t p
    → has_tickets p.edition ≡ true
    → start_lines p.edition (depth_of default t) t s ≡ on x r
    → (i : ℕ)
    → (instance x.0 i).present ≡ true
    → queue_of x.0 i ≢ []
    → get_or x.1 i 0 ≡ last_stamp (queue_of x.0 i)

unfoldable pub NothingUpFits : Type 0
NothingUpFits = (p : Program) → p.begun ≡ none_begun → TicketsFit p start
