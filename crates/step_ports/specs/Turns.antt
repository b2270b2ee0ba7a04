-- The port check by what an instance has before and after a move, port by port, and what a move takes and gives.
use Rattle.std.specs.Prelude.{ℕ, Bool, cond, not, ◌&&◌, ◌||◌, ◌==◌, nat_lt}
use Rattle.sets.specs.Test.{any_below, lowest}
use Rattle.sets.specs.Mask.{collect, overlaps, joined, without}
use Rattle.model.specs.declared.Tables.{Tables}
use Rattle.model.specs.declared.Instance.{Instance}
use Rattle.model.specs.declared.Configuration.{Configuration}
use Rattle.model.specs.declared.Concerned.{Concerned}
use Rattle.model.specs.declared.Concerned.TheVariants.{NoPort, UsePort}
use Rattle.model.specs.View.{is_use, instance}
use Rattle.rules_spec.specs.Refusal.{◌⇒◌∣◌, allowed, unconnected, unserved, provider_refusing, service_in_use}
use Rattle.rules_spec.specs.Standing.{standing, some_connection}
use Rattle.rules_spec.specs.Instance.{held, ports_of}
use Rattle.rules_spec.specs.Ports.{is_of, serves, blocks, in_use, port_check, concerned}
use Rattle.step_instance.specs.Alone.{active_with}
use Rattle.step_ports.specs.declared.Sets.{Sets}
use Rattle.step_ports.specs.declared.Answered.{Answered}

abbrev pub active_in : Tables → ℕ → Sets → ℕ → Bool
active_in t k s q = active_with t k s.places s.holds q

-- what use port q of i gets that is active after the move
unfoldable pub use_refusal : Tables → Configuration → ℕ → Bool → ℕ → ℕ
use_refusal t c i before q =
    not (some_connection c (is_of i q)) ⇒ unconnected
    ∣ not (some_connection c (serves t c i q)) ⇒ unserved
    ∣ not before && some_connection c (blocks t c i q) ⇒ provider_refusing
    ∣ allowed

-- what port q of i, of type k, gets by itself where i goes from one to the other: 36 where a service ends, in use or not
unfoldable pub port_refusal : Tables → Configuration → ℕ → ℕ → Sets → Sets → ℕ → ℕ
port_refusal t c i k was next q =
    cond (is_use t k q) (cond (active_in t k next q) (use_refusal t c i (active_in t k was q) q) allowed)
    (active_in t k was q && not (active_in t k next q) ⇒ service_in_use ∣ allowed)

-- what v has
abbrev pub sets_of : Instance → Sets
sets_of v = record { places = v.marked; holds = held v }

-- port q of i gets the number n
abbrev pub gets : Tables → Configuration → ℕ → Sets → ℕ → ℕ → Bool
gets t c i next n q = port_refusal t c i (instance c i).kind (sets_of (instance c i)) next q == n

-- the first q ports whose service ends
abbrev pub ending_below : Tables → Configuration → ℕ → Sets → ℕ → ℕ
ending_below t c i next n = collect 32 (λ q. nat_lt q n && gets t c i next service_in_use q)

-- port q of i is unconnected or unserved
abbrev pub fails : Tables → Configuration → ℕ → Sets → ℕ → Bool
fails t c i next q = gets t c i next unconnected q || gets t c i next unserved q

-- the numbers past 38 and 34
abbrev pub late_number : Tables → Configuration → ℕ → Sets → ℕ
late_number t c i next =
    any_below (ports_of t (instance c i)) (gets t c i next provider_refusing) ⇒ provider_refusing
    ∣ overlaps (ending_below t c i next (ports_of t (instance c i))) (in_use t (standing c) c i) ⇒ service_in_use
    ∣ allowed

-- what the first port gets that is unconnected or unserved, else the numbers past those
unfoldable pub first_refusal : Tables → Configuration → ℕ → Sets → Answered
first_refusal t c i next =
    let low = lowest (ports_of t (instance c i)) (fails t c i next) in
    cond (any_below (ports_of t (instance c i)) (fails t c i next))
    (record { refused = port_refusal t c i (instance c i).kind (sets_of (instance c i)) next low; port = UsePort low })
    (record { refused = late_number t c i next; port = NoPort })

-- port q of i, of type k, is a use port active after the move and has no connection
unfoldable pub is_unconnected : Tables → Configuration → ℕ → ℕ → Sets → ℕ → Bool
is_unconnected t c i k next q = is_use t k q && (active_in t k next q && not (some_connection c (is_of i q)))

unfoldable pub lowest_unconnected : Tables → Configuration → ℕ → Sets → ℕ
lowest_unconnected t c i next = lowest (ports_of t (instance c i)) (gets t c i next unconnected)

-- a number, and the use port it is about
abbrev pub answered : (ℕ → Concerned) → ℕ → Answered
answered about n = record { refused = n; port = about n }

abbrev pub about_of : ℕ → ℕ → ℕ → Concerned
about_of first second m = cond (m == unconnected) (UsePort first) (cond (m == unserved) (UsePort second) NoPort)

-- the numbers by what each port gets, and the use port that each is about
unfoldable pub ports_refusal : Tables → Configuration → ℕ → Sets → Answered
ports_refusal t c i next =
    answered (about_of (lowest (ports_of t (instance c i)) (gets t c i next unconnected)) (lowest (ports_of t (instance c i)) (gets t c i next unserved)))
    (any_below (ports_of t (instance c i)) (gets t c i next unconnected) ⇒ unconnected
    ∣ any_below (ports_of t (instance c i)) (gets t c i next unserved) ⇒ unserved
    ∣ late_number t c i next)

-- the port check where instance i becomes w
abbrev pub checked : Tables → Configuration → ℕ → Instance → Answered
checked t c i w = answered (concerned t (standing c) c i (instance c i) w) (port_check t (standing c) c i (instance c i) w)

-- a set without what is lost and with what is gained
abbrev pub changed : ℕ → ℕ → ℕ → ℕ
changed m loses gains = joined (without m loses) gains

-- v without what it loses and with what it gains
unfoldable pub turned : Instance → Sets → Sets → Instance
turned v loses gains = record {
  present = v.present;
  kind = v.kind;
  marked = changed v.marked loses.places gains.places;
  running = changed v.running loses.holds gains.holds;
  ended = without v.ended loses.holds;
  queued = v.queued;
}

-- the port check of a move by which instance i loses and gains so much: its number, and the use port that is about
abbrev pub turn_answer : Tables → Configuration → ℕ → Sets → Sets → Answered
turn_answer t c i loses gains = checked t c i (turned (instance c i) loses gains)
