-- The refusal numbers 10 to 37 of 01 and 19, 23, 24 and 38 of 02 by name, rows of checks, and what a step answers.
use Rattle.std.specs.Prelude.{Bool, cond, ℕ, eqb}
use Rattle.model.specs.declared.Configuration.{Configuration}
use Rattle.model.specs.declared.Stepped.{Stepped}
use Rattle.model.specs.declared.Concerned.{Concerned}
use Rattle.model.specs.declared.Concerned.TheVariants.{NoPort}

infixr 5 ◌⇒◌∣◌
-- a row of checks: the first test that holds gives its number, else what follows
abbrev pub ◌⇒◌∣◌ : Bool → ℕ → ℕ → ℕ
◌⇒◌∣◌ test n rest = cond test n rest

abbrev pub allowed : ℕ
allowed = 0

-- `next` with no instruction left
abbrev pub no_instruction_left : ℕ
no_instruction_left = 10

-- id absent
abbrev pub id_absent : ℕ
id_absent = 11

-- id present at `add`
abbrev pub id_present : ℕ
id_present = 12

-- no such behavior or port, or port of the wrong kind
abbrev pub no_such : ℕ
no_such = 13

-- both ends are one instance
abbrev pub one_instance : ℕ
one_instance = 14

-- use port already connected
abbrev pub already_connected : ℕ
already_connected = 15

-- 64 connections stand
abbrev pub no_more_connections : ℕ
no_more_connections = 16

-- no such connection
abbrev pub no_such_connection : ℕ
no_such_connection = 17

-- `del` of a connected instance
abbrev pub still_connected : ℕ
still_connected = 18

-- ticket not above the last
abbrev pub ticket_not_above : ℕ
ticket_not_above = 19

-- queue full
abbrev pub queue_full : ℕ
queue_full = 20

-- queue not empty at `wait` or `del`
abbrev pub queue_not_empty : ℕ
queue_not_empty = 21

-- use port active at `dcon`
abbrev pub use_port_active : ℕ
use_port_active = 22

-- ticket still queued
abbrev pub still_queued : ℕ
still_queued = 23

-- ticket never pushed
abbrev pub never_pushed : ℕ
never_pushed = 24

-- queue empty at a move
abbrev pub queue_empty : ℕ
queue_empty = 30

-- not marked, not running, not all ended
abbrev pub not_ready : ℕ
not_ready = 31

-- no transition of the current behavior leaves p, or leads to p
abbrev pub no_transition : ℕ
no_transition = 32

-- a leaving transition held, or the place already marked
abbrev pub held_or_marked : ℕ
held_or_marked = 33

-- a use port's provider is inactive
abbrev pub unserved : ℕ
unserved = 34

-- the provider is refusing
abbrev pub provider_refusing : ℕ
provider_refusing = 35

-- the service is in use
abbrev pub service_in_use : ℕ
service_in_use = 36

-- `finish` too early
abbrev pub too_early : ℕ
too_early = 37

-- a use port unconnected
abbrev pub unconnected : ℕ
unconnected = 38

-- the number a, or b where a is none
abbrev pub or_number : ℕ → ℕ → ℕ
or_number a b = cond (eqb a allowed) b a

-- refused with n, the port that n is about, and nothing changed; or with 0 the new configuration
abbrev pub settle : ℕ → (ℕ → Concerned) → Configuration → Configuration → Stepped
settle n about old new =
    cond (eqb n allowed) (record { refused = 0; port = NoPort; configuration = new }) (record { refused = n; port = about n; configuration = old })
