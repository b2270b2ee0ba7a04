-- The connections as they were kept before, in a list in the order in which they were made: the old side of `TableAndListAgree`. It has the
-- same rules with another value of `Standing`, its own start, and its own effect of `con` and `dcon`.
use Rattle.std.specs.Prelude.{true, false, ◌↔◌, List, [], ◌∷◌, ◌≡◌, ℕ, suc, ◌-◌, ◌≤◌, ◌<◌, eqb, get_or, set, replicate}
use Rattle.sets.specs.Test.{any_below, lowest}
use Rattle.model.specs.declared.Tables.{Tables}
use Rattle.model.specs.declared.Program.{Program}
use Rattle.model.specs.declared.Step.{Step}
use Rattle.model.specs.declared.Instance.{Instance}
use Rattle.model.specs.declared.Connection.{Connection}
use Rattle.model.specs.declared.Configuration.{Configuration}
use Rattle.model.specs.declared.Concerned.{Concerned}
use Rattle.model.specs.declared.Concerned.TheVariants.{NoPort}
use Rattle.model.specs.declared.Walked.{Walked}
use Rattle.model.specs.Empty.{absent, no_connection, start}
use Rattle.model.specs.View.{is_served, connection}
use Rattle.read_spec.specs.Lawful.{Lawful}
use Rattle.rules_spec.specs.Closing.{closed}
use Rattle.rules_spec.specs.Standing.{Standing, standing}
use Rattle.rules_spec.specs.DCon.{same_connection}
use Rattle.rules_spec.specs.Action.{Action, add, del, pushb, con, dcon, wait, fire, end, enter, finish, concern}
use Rattle.rules_spec.specs.Step.{action, step_check_with, step_to}
use Rattle.rules_spec.specs.Walk.{walk}

-- the first `count` of the list stand
pub record Chain : Type 0 where
  pub list : List Connection
  pub count : ℕ

pub record Listed : Type 0 where
  pub instances : List Instance
  pub queue : List ℕ
  pub connections : Chain
  pub done : ℕ

-- the configuration c but for its connections, which are x
abbrev pub listed : Configuration → Chain → Listed
listed c x = record { instances = c.instances; queue = c.queue; connections = x; done = c.done }

-- and back, with no table: the rules do not look at it
abbrev pub unlisted : Listed → Configuration
unlisted l = record { instances = l.instances; queue = l.queue; servers = []; done = l.done }

unfoldable pub listed_start : Listed
listed_start = record {
  instances = replicate 32 absent;
  queue = replicate 256 0;
  connections = record { list = replicate 64 no_connection; count = 0 };
  done = 0;
}

abbrev pub linked : Chain → ℕ → Connection
linked x l = get_or x.list l no_connection

unfoldable pub in_list : Chain → Standing
in_list x = record { some = λ test. any_below x.count (λ l. test (linked x l)); count = x.count }

abbrev pub place_of : Chain → Connection → ℕ
place_of x k = lowest x.count (λ l. same_connection k (linked x l))

-- "`con` appends to the list"; "`dcon` and `finish` close the gap and zero the slot freed"
unfoldable pub appended : Chain → Connection → Chain
appended x k = record { list = set x.list x.count k; count = suc x.count }

unfoldable pub removed : Chain → Connection → Chain
removed x k = record { list = closed no_connection x.list (place_of x k) x.count; count = x.count - 1 }

unfoldable pub relinked : Action → Chain → Chain
relinked (con k) x = appended x k
relinked (dcon k) x = removed x k
relinked (add i k) x = x
relinked (del i) x = x
relinked (pushb i b) x = x
relinked (wait i) x = x
relinked (fire i p) x = x
relinked (end i y) x = x
relinked (enter i p) x = x
relinked (finish i) x = x

unfoldable pub listed_check : ℕ → Tables → Program → Listed → Step → ℕ
listed_check default t p l s = step_check_with default t p (in_list l.connections) (unlisted l) s

unfoldable pub listed_port : Tables → Program → Listed → Step → ℕ → Concerned
listed_port t p l s n = concern t (in_list l.connections) (unlisted l) (action p (unlisted l) s) n

unfoldable pub listed_to : Tables → Program → Listed → Step → Listed
listed_to t p l s = listed (step_to t p (unlisted l) s) (relinked (action p (unlisted l) s) l.connections)

pub record ListedWalked : Type 0 where
  pub accepted : ℕ
  pub refused : ℕ
  pub port : Concerned
  pub outcome : Listed

unfoldable pub one_more_listed : ListedWalked → ListedWalked
one_more_listed w = record { accepted = suc w.accepted; refused = w.refused; port = w.port; outcome = w.outcome }

unfoldable pub listed_walk : ℕ → Tables → Program → Listed → List Step → ListedWalked
listed_walk default t p l [] = record { accepted = 0; refused = 0; port = NoPort; outcome = l }
listed_walk default t p l (s ∷ ss) =
    elim (eqb (listed_check default t p l s) 0) [
      | true ↦ one_more_listed (listed_walk default t p (listed_to t p l s) ss)
      | false ↦ record { accepted = 0; refused = listed_check default t p l s; port = listed_port t p l s (listed_check default t p l s); outcome = l }
    ]

-- ---- what is shown of the two

-- k stands in the table of c; in the list x
abbrev pub InTable : Configuration → Connection → Type 0
InTable c k = (s : ℕ) × (s < 512) × (is_served c.servers s ≡ true) × (connection c s ≡ k)

abbrev pub InList : Chain → Connection → Type 0
InList x k = (l : ℕ) × (l < x.count) × (linked x l ≡ k)

pub record Agrees (w : Walked) (v : ListedWalked) : Type 0 where
  pub accepted : w.accepted ≡ v.accepted
  pub refused : w.refused ≡ v.refused
  pub port : w.port ≡ v.port
  pub instances : w.configuration.instances ≡ v.outcome.instances
  pub queue : w.configuration.queue ≡ v.outcome.queue
  pub done : w.configuration.done ≡ v.outcome.done
  pub connections : (k : Connection) → InTable w.configuration k ↔ InList v.outcome.connections k
  pub count : (standing w.configuration).count ≡ v.outcome.connections.count

-- a prefix of an answer is an answer, so this speaks of every step
unfoldable pub TableAndListAgree : Type 0
TableAndListAgree =
    (default : ℕ) (t : Tables) (p : Program) (ss : List Step)
    → default ≤ 8
    → Lawful t p
    → Agrees (walk default t p start ss) (listed_walk default t p listed_start ss)
