-- Each clause of 01's sentence on number 7 by itself, as one table: of what is lawfully lent one number is changed, and the row names it and
-- says a value at which all is lawful and one at which it is not. The step's numbers are tried with each of its verbs.
-- (No types or places and 17 types break another clause too. No number makes a use port connected twice: `NoUsePortTwice`.)
use Rattle.std.specs.Prelude.{ℕ, ◌-◌, ◌*◌, Bool, true, ◌&&◌, cond, List, [], ◌∷◌, ◌++◌, ◌≡◌, eqb, replicate, take, drop}
use Prim.Native.String.{String}
use lib.Text.{eqt}
use Rattle.model.specs.declared.ComponentType.{ComponentType}
use Rattle.model.specs.declared.Tables.{Tables}
use Rattle.model.specs.declared.Program.{Program}
use Rattle.model.specs.declared.Step.{Step}
use Rattle.model.specs.declared.Instance.{Instance}
use Rattle.model.specs.declared.Configuration.{Configuration}
use Rattle.model.specs.Empty.{none_begun, no_instruction, absent, no_server}
use Rattle.model.specs.View.{server_number}
use Rattle.model.specs.Verb.{add_verb, del_verb, pushb_verb, con_verb, dcon_verb, wait_verb, fire_verb, end_verb, enter_verb, finish_verb}
use Rattle.read_spec.specs.Kinds.{an_instruction}
use Rattle.hall.specs.Screen.{limit_broken, lent_lawful, hall_step}

-- ---- what is lent, with a number changed

-- what a number is, given its name and what it is in the base
abbrev pub Numbers : Type 0
Numbers = String → ℕ → ℕ

abbrev pub base : Numbers
base name n = n

-- the numbers f, but the one of this name is k
abbrev pub but : Numbers → String → ℕ → Numbers
but f changed k name n = cond (eqt name changed) k (f name n)

-- two places, the first initial, one transition between them and one behavior of it; port 0 uses and has the second place, port 1 provides
-- and has the first and the transition
abbrev pub type_with : Numbers → ComponentType
type_with f = record {
  places = f "places" 2;
  initial = f "initial" 1;
  transitions = f "transitions" 1;
  behaviors = f "behaviors" 1;
  ports = f "ports" 2;
}

-- one type; the rows past its counts are lawful too, and a port past them is a use port as port 0
abbrev pub tables : Numbers → Tables
tables f = record {
  depth = f "depth" 0;
  count = f "types" 1;
  types = type_with f ∷ replicate 15 (type_with base);
  transitions = record { source = f "source" 0 ∷ replicate 511 0; destination = f "destination" 1 ∷ replicate 511 1 };
  behaviors = f "behavior" 1 ∷ replicate 127 1;
  ports = record {
    uses = 1 ∷ f "port 1" 0 ∷ replicate 254 1;
    places = f "port 0 places" 2 ∷ f "port 1 places" 1 ∷ replicate 254 2;
    transitions = 0 ∷ f "port 1 transitions" 1 ∷ replicate 254 0;
  };
}

-- an instruction of each verb, the first of them done
abbrev pub program : Numbers → Program
program f = record {
  edition = f "edition" 1;
  begun = none_begun;
  instructions =
      an_instruction add_verb (f "add id" 0) (f "add type" 0) 0 0
      ∷ an_instruction del_verb (f "del id" 0) 0 0 0
      ∷ an_instruction pushb_verb (f "pushb id" 0) (f "pushb behavior" 0) 0 0
      ∷ an_instruction con_verb (f "con user" 0) (f "con useport" 0) (f "con provider" 0) (f "con provideport" 0)
      ∷ an_instruction dcon_verb (f "dcon user" 0) (f "dcon useport" 0) (f "dcon provider" 0) (f "dcon provideport" 0)
      ∷ an_instruction (f "verb" wait_verb) (f "wait id" 0) 0 0 0
      ∷ replicate 250 no_instruction;
  count = f "program" 6;
}

-- an instance of that type in its first place
abbrev pub in_place : Numbers → ℕ → Instance
in_place f n = record {
  present = true;
  kind = f "instance type" 0;
  marked = f "marked" 1;
  running = f "running" 0;
  ended = f "ended" 0;
  queued = f "queued" n;
}

-- of so many connections all but two: port 1 of instance 0 serves the use ports 2 to 14 of instances 1 to 5, in this order
abbrev pub others : ℕ → ℕ → List ℕ
others n u = take 13 (drop (u * 13) (replicate (n - 2) (server_number 0 1) ++ replicate 65 no_server))

-- the servers of the u-th of them: v of port 0, x of port 1, which provides, and y of port 15
abbrev pub servers_of : Numbers → ℕ → ℕ → ℕ → ℕ → List ℕ
servers_of f u v x y = v ∷ x ∷ others (f "connections" 2) u ++ (y ∷ [])

-- port 0 of instances 1 and 2 is served; instance 6 is the first that is absent
abbrev pub servers : Numbers → List ℕ
servers f =
    replicate 16 no_server
    ++ servers_of f 0 (f "server" (server_number 0 1)) (f "server of a provide port" no_server) (f "server past the ports" no_server)
    ++ servers_of f 1 (server_number 0 1) no_server no_server
    ++ servers_of f 2 no_server no_server no_server
    ++ servers_of f 3 no_server no_server no_server
    ++ servers_of f 4 no_server no_server no_server
    ++ (f "server of an absent one" no_server ∷ replicate 415 no_server)

-- instances 0 to 5; instance 0 has behavior 0 in its queue; 1 and 2 use it
abbrev pub configuration : Numbers → Configuration
configuration f = record {
  instances = in_place f 1 ∷ replicate 5 (in_place base 0) ++ replicate 26 absent;
  queue = f "queue" 0 ∷ replicate 255 0;
  servers = servers f;
  done = f "done" 1;
}

-- the first place of instance 0 may be left
abbrev pub step_with : Numbers → Step
step_with f = record { verb = f "step" fire_verb; id = f "step id" 0; number = f "step number" 0 }

-- ---- the rows

-- a number of what is lent, a value at which all is lawful, and one at which it is not
pub record Row : Type 0 where
  pub from : Numbers
  pub name : String
  pub lawful : ℕ
  pub broken : ℕ

abbrev pub clause_row : String → ℕ → ℕ → Row
clause_row name n m = record { from = base; name = name; lawful = n; broken = m }

-- the same with another verb of the step
abbrev pub moving : ℕ → String → ℕ → ℕ → Row
moving verb name n m = record { from = but base "step" verb; name = name; lawful = n; broken = m }

-- the same in a type of 15 ports
abbrev pub in_more : String → ℕ → ℕ → Row
in_more name n m = record { from = but base "ports" 15; name = name; lawful = n; broken = m }

-- "tables or program break a sheet's rules": the limits, then "`initial` empty; `tran` with source equal to destination; a use port whose
-- group has an initial place"
abbrev pub table_rows : List Row
table_rows =
    clause_row "depth" 8 9
    ∷ clause_row "types" 1 0
    ∷ clause_row "types" 16 17
    ∷ clause_row "places" 2 0
    ∷ clause_row "places" 16 17
    ∷ clause_row "initial" 1 4
    ∷ clause_row "transitions" 32 33
    ∷ clause_row "source" 0 2
    ∷ clause_row "destination" 1 2
    ∷ clause_row "behaviors" 8 9
    ∷ clause_row "behavior" 1 2
    ∷ clause_row "ports" 16 17
    ∷ clause_row "port 1" 0 2
    ∷ clause_row "port 1 places" 1 4
    ∷ clause_row "port 1 transitions" 1 2
    ∷ clause_row "initial" 1 0
    ∷ clause_row "source" 0 1
    ∷ clause_row "port 0 places" 2 1
    ∷ []

abbrev pub program_rows : List Row
program_rows =
    clause_row "edition" 1 2
    ∷ clause_row "program" 256 257
    ∷ clause_row "verb" wait_verb 6
    ∷ clause_row "add id" 31 32
    ∷ clause_row "add type" 0 1
    ∷ clause_row "del id" 31 32
    ∷ clause_row "pushb id" 31 32
    ∷ clause_row "pushb behavior" 7 8
    ∷ clause_row "con user" 31 32
    ∷ clause_row "con useport" 15 16
    ∷ clause_row "con provider" 31 32
    ∷ clause_row "con provideport" 15 16
    ∷ clause_row "dcon user" 31 32
    ∷ clause_row "dcon useport" 15 16
    ∷ clause_row "dcon provider" 31 32
    ∷ clause_row "dcon provideport" 15 16
    ∷ clause_row "wait id" 31 32
    ∷ []

-- "the step breaks an answer line's"
abbrev pub step_rows : List Row
step_rows =
    clause_row "step" finish_verb 5
    ∷ moving fire_verb "step id" 31 32
    ∷ moving fire_verb "step number" 15 16
    ∷ moving end_verb "step id" 31 32
    ∷ moving end_verb "step number" 31 32
    ∷ moving enter_verb "step id" 31 32
    ∷ moving enter_verb "step number" 15 16
    ∷ moving finish_verb "step id" 31 32
    ∷ []

-- "or the configuration has"
abbrev pub configuration_rows : List Row
configuration_rows =
    -- "a number of a present instance outside its type or the limits above"
    clause_row "instance type" 0 1
    ∷ clause_row "marked" 3 4
    ∷ clause_row "running" 1 2
    ∷ clause_row "ended" 1 2
    ∷ clause_row "queue" 0 1
    -- "more instructions done than the program has", "a queue past the depth", "over 64 connections"
    ∷ clause_row "done" 6 7
    ∷ clause_row "queued" 8 9
    ∷ in_more "connections" 64 65
    -- "or one with an absent end": its user, its provider, and a provider past the last
    ∷ clause_row "server of an absent one" no_server (server_number 0 1)
    ∷ clause_row "server" (server_number 0 1) (server_number 6 1)
    ∷ clause_row "server" (server_number 0 1) (server_number 32 0)
    -- "a wrong port": of the other kind, and outside its type, on either side
    ∷ clause_row "server of a provide port" no_server (server_number 0 1)
    ∷ clause_row "server past the ports" no_server (server_number 0 1)
    ∷ clause_row "server" (server_number 0 1) (server_number 0 0)
    ∷ clause_row "server" (server_number 0 1) (server_number 0 2)
    -- "a single instance at both ends"
    ∷ clause_row "server" (server_number 0 1) (server_number 1 1)
    ∷ []

-- one table
abbrev pub clause_rows : List Row
clause_rows = table_rows ++ program_rows ++ step_rows ++ configuration_rows

-- ---- the claim

abbrev pub hall_answer : Numbers → ℕ
hall_answer f = (hall_step (tables f) (program f) (configuration f) (step_with f)).refused

abbrev pub is_lawful : Numbers → Bool
is_lawful f = lent_lawful (tables f) (program f) (configuration f) (step_with f)

-- the one number makes it 7
abbrev pub breaks : Row → Bool
breaks r = is_lawful (but r.from r.name r.lawful) && eqb (hall_answer (but r.from r.name r.broken)) limit_broken

unfoldable pub every : List Row → Bool
every [] = true
every (r ∷ rs) = breaks r && every rs

-- the base gets its step's answer, and each clause by itself makes it 7
unfoldable pub ClausesBreak : Type 0
ClausesBreak = (hall_answer base ≡ 0) × (every clause_rows ≡ true)
