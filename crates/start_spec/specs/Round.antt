-- What a report shows can be the start of another paper: its lines from `instances=` on, after `start=1`, are read as that configuration.
use Rattle.std.specs.Prelude.{ℕ, zero, suc, ◌≤◌, ◌<◌, ◌≢◌, List, [], ◌++◌, ◌≡◌, true, false, ◌&&◌, cond, length, get_or}
use Rattle.sets.specs.Test.{tally}
use Rattle.item_spec.specs.Reader.{bytes}
use Rattle.item_spec.specs.Write.{only_if, number_text, mask_text, in_turn}
use Rattle.model.specs.declared.Tables.{Tables}
use Rattle.model.specs.declared.Program.{Program}
use Rattle.model.specs.declared.Step.{Step}
use Rattle.model.specs.declared.Configuration.{Configuration}
use Rattle.model.specs.declared.Walked.{Walked}
use Rattle.model.specs.declared.Instance.{Instance}
use Rattle.model.specs.Empty.{none_begun}
use Rattle.model.specs.View.{instance, slot, stamp_in, list_of, queue_of, with_done}
use Rattle.read_spec.specs.Lines.{on}
use Rattle.read_spec.specs.Limits.{has_tickets}
use Rattle.read_spec.specs.Lawful.{Lawful}
use Rattle.report_spec.specs.Report.{queue_text, count_text, port_text, instances_text, connections_text, report}
use Rattle.rules_spec.specs.Standing.{standing}
use Rattle.rules_spec.specs.Tickets.{pushed_to, last_stamp}
use Rattle.rules_spec.specs.PushB.{depth_of}
use Rattle.rules_spec.specs.Proper.{Proper}
use Rattle.rules_spec.specs.Walk.{walk}
use Rattle.start_spec.specs.Row.{rises_to}
use Rattle.start_spec.specs.Text.{start_lines}
use Rattle.start_spec.specs.Served.{some_unserved}
use Rattle.start_spec.specs.Permitted.{Tidy, MayBegin, TicketsFit}

-- "the report's lines from `instances=` on", and those before them
unfoldable pub state_text : Configuration → List ℕ
state_text c =
    count_text (bytes "instances=") (tally 32 (λ i. (instance c i).present)) ++ instances_text c
    ++ count_text (bytes "connections=") (standing c).count ++ connections_text c

unfoldable pub head_text : Walked → List ℕ
head_text w =
    count_text (bytes "accepted=") w.accepted ++ count_text (bytes "refused=") w.refused ++ port_text w.port
    ++ count_text (bytes "next=") w.configuration.done

unfoldable pub ReportsEndInTheState : Type 0
ReportsEndInTheState = (w : Walked) → report w ≡ head_text w ++ state_text w.configuration

-- "adds the last ticket pushed to each instance, `-` for none", by its stamp
unfoldable pub last_text : ℕ → List ℕ
last_text zero = bytes "-"
last_text (suc k) = number_text k

-- the report's line of an instance, and behind it the last ticket in a sheet that opens with e and has tickets
unfoldable pub row_text : ℕ → ℕ → Instance → List ℕ → ℕ → List ℕ
row_text e i w q l =
    bytes "instance=" ++ number_text i ++ bytes "," ++ number_text w.kind ++ bytes "," ++ mask_text w.marked ++ bytes ","
    ++ mask_text w.running ++ bytes "," ++ mask_text w.ended ++ bytes "," ++ queue_text q ++ only_if (has_tickets e) (bytes "," ++ last_text l) ++ bytes "\n"

unfoldable pub row_at : ℕ → List ℕ → Configuration → ℕ → List ℕ
row_at e l c i = only_if (instance c i).present (row_text e i (instance c i) (queue_of c i) (get_or l i 0))

-- "after a line `start=1`": with the last tickets l
unfoldable pub start_text : ℕ → List ℕ → Configuration → List ℕ
start_text e l c =
    bytes "start=1\n" ++ (count_text (bytes "instances=") (tally 32 (λ i. (instance c i).present)) ++ in_turn (row_at e l c) 32
    ++ count_text (bytes "connections=") (standing c).count ++ connections_text c)

-- "the report's lines from `instances=` on, after a line `start=1`", as they are
unfoldable pub plain_start : Configuration → List ℕ
plain_start c = bytes "start=1\n" ++ state_text c

-- "the last ticket pushed to each instance", by its stamp, where the program p has come to c: none of who is absent, none at all without tickets
unfoldable pub last_of : Program → Configuration → ℕ → ℕ
last_of p c i = cond (has_tickets p.edition && (instance c i).present) (last_stamp (pushed_to p i c.done)) 0

abbrev pub lasts_of : Program → Configuration → List ℕ
lasts_of p c = list_of 32 (last_of p c)

-- that point as a start: the report's lines, each with its last ticket where there are tickets
abbrev pub start_of : Program → Configuration → List ℕ
start_of p c = start_text p.edition (lasts_of p c) c

-- without tickets it is that
unfoldable pub PlainStartsAreReports : Type 0
PlainStartsAreReports = (e : ℕ) (l : List ℕ) (c : Configuration) → has_tickets e ≡ false → start_text e l c ≡ plain_start c

-- l has the last tickets of what stands at c: the tail's where a queue stands, none of who is absent, none at all without tickets
pub record Lasts (p : Program) (c : Configuration) (l : List ℕ) : Type 0 where
  pub long : length l ≡ 32
  pub small : (i : ℕ) → get_or l i 0 ≤ 256
  pub gone : (i : ℕ) → (instance c i).present ≡ false → get_or l i 0 ≡ 0
  pub plain : has_tickets p.edition ≡ false → (i : ℕ) → get_or l i 0 ≡ 0
  pub stamps : has_tickets p.edition ≡ true → (i r : ℕ) → (instance c i).present ≡ true → r < (instance c i).queued → stamp_in (slot c i r) ≢ 0
  pub tail : has_tickets p.edition ≡ true → (i : ℕ) → (instance c i).present ≡ true → rises_to (get_or l i 0) (queue_of c i) ≡ true

-- a proper and tidy configuration is read back, "with the program at its first line", with its last tickets
unfoldable pub StatesAreReadBack : Type 0
StatesAreReadBack =
    (default : ℕ) (t : Tables) (p : Program) (c : Configuration) (l : List ℕ)
    → default ≤ 8
    → Lawful t p
    → Proper default t p c
    → Tidy t c
    → Lasts p c l
    → start_lines p.edition (depth_of default t) t (start_text p.edition l c) ≡ on (with_done c 0, l) []

-- every accepted point keeps to what a paper may begin with, but for the program
unfoldable pub WalksAreTidy : Type 0
WalksAreTidy =
    (default : ℕ) (t : Tables) (p : Program) (c : Configuration) (ss : List Step)
    → default ≤ 8
    → Lawful t p
    → MayBegin default t p c
    → Tidy t (walk default t p c ss).configuration

-- so without tickets the lines of the report of any accepted point are a start; 50 isn't given there (`demands`), and 8,192 bytes are enough (`judged`)
unfoldable pub ReportsAreStarts : Type 0
ReportsAreStarts =
    (default : ℕ) (t : Tables) (p : Program) (c : Configuration) (ss : List Step)
    → default ≤ 8
    → Lawful t p
    → has_tickets p.edition ≡ false
    → MayBegin default t p c
    → start_lines p.edition (depth_of default t) t (plain_start (walk default t p c ss).configuration)
    ≡ on (with_done (walk default t p c ss).configuration 0, none_begun.last) []

-- for both kinds of sheets, "with 1 past 8,192 bytes": the start of an accepted point has no more
unfoldable pub StartsHaveRoom : Type 0
StartsHaveRoom =
    (default : ℕ) (t : Tables) (p : Program) (c : Configuration) (ss : List Step)
    → default ≤ 8
    → Lawful t p
    → MayBegin default t p c
    → (has_tickets p.edition ≡ true → TicketsFit p c)
    → length ss ≤ 1024
    → length (start_of p (walk default t p c ss).configuration) ≤ 8192
