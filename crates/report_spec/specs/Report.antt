-- The report, line by line, as bytes.
use Rattle.std.specs.Prelude.{ℕ, suc, ◌-◌, List, [], ◌∷◌, ◌++◌, not, eqb}
use Rattle.sets.specs.Test.{tally}
use Rattle.item_spec.specs.Reader.{bytes, byte}
use Rattle.item_spec.specs.Write.{only_if, number_text, mask_text, in_turn, one_text, four_text}
use Rattle.model.specs.declared.Instance.{Instance}
use Rattle.model.specs.declared.Connection.{Connection}
use Rattle.model.specs.declared.Configuration.{Configuration}
use Rattle.model.specs.declared.Concerned.{Concerned}
use Rattle.model.specs.declared.Concerned.TheVariants.{NoPort, UsePort}
use Rattle.model.specs.declared.Walked.{Walked}
use Rattle.model.specs.Empty.{no_server}
use Rattle.model.specs.View.{instance, connection_of, behavior_in, stamp_in, queue_of}
use Rattle.rules_spec.specs.Standing.{standing}

-- key=number
unfoldable pub count_text : List ℕ → ℕ → List ℕ
count_text k n = k ++ one_text n

-- what a slot holds: the behavior, and "`behavior:ticket`" where the push had a ticket
unfoldable pub slot_text : ℕ → List ℕ
slot_text s = number_text (behavior_in s) ++ only_if (not (eqb (stamp_in s) 0)) (byte ":" ∷ number_text (stamp_in s - 1))

-- "joined by `+`, head first, `-` when empty"
unfoldable pub more_slots : List ℕ → List ℕ
more_slots [] = []
more_slots (s ∷ q) = (byte "+" ∷ slot_text s) ++ more_slots q

unfoldable pub queue_text : List ℕ → List ℕ
queue_text [] = bytes "-"
queue_text (s ∷ q) = slot_text s ++ more_slots q

-- `instance=id,type,marked,running,ended,queue`, of the record w with the queue q
unfoldable pub instance_text : ℕ → Instance → List ℕ → List ℕ
instance_text i w q =
    bytes "instance=" ++ number_text i ++ bytes "," ++ number_text w.kind ++ bytes "," ++ mask_text w.marked ++ bytes ","
    ++ mask_text w.running ++ bytes "," ++ mask_text w.ended ++ bytes "," ++ queue_text q ++ bytes "\n"

-- `connection=user,useport,provider,provideport`
unfoldable pub connection_text : Connection → List ℕ
connection_text k = bytes "connection=" ++ four_text k.user k.useport k.provider k.provideport

-- "in a line `port=` after `refused=`; it is `-`" where no use port is concerned
unfoldable pub port_text : Concerned → List ℕ
port_text NoPort = bytes "port=-\n"
port_text (UsePort q) = count_text (bytes "port=") q

-- instance i's line, nothing where it is absent
unfoldable pub instance_at : Configuration → ℕ → List ℕ
instance_at c i = only_if (instance c i).present (instance_text i (instance c i) (queue_of c i))

-- the line of the use port of number s with the server v, nothing where that is none
unfoldable pub connection_line : ℕ → ℕ → List ℕ
connection_line s v = only_if (not (eqb v no_server)) (connection_text (connection_of s v))

-- the lines of a table whose first use port has the number s
unfoldable pub lines_from : ℕ → List ℕ → List ℕ
lines_from s [] = []
lines_from s (v ∷ x) = connection_line s v ++ lines_from (suc s) x

-- "per instance by ascending id"; "per connection by user then port"
unfoldable pub instances_text : Configuration → List ℕ
instances_text c = in_turn (instance_at c) 32

unfoldable pub connections_text : Configuration → List ℕ
connections_text c = lines_from 0 c.servers

-- "`accepted=` (steps allowed), `refused=` (0 or the number)", `port=`, "`next=` (instructions done), `instances=`, .. `connections=`, ..": there are n
-- connections, and their lines are ls
unfoldable pub report_with : Walked → ℕ → List ℕ → List ℕ
report_with w n ls =
    count_text (bytes "accepted=") w.accepted ++ count_text (bytes "refused=") w.refused ++ port_text w.port
    ++ count_text (bytes "next=") w.configuration.done
    ++ count_text (bytes "instances=") (tally 32 (λ i. (instance w.configuration i).present)) ++ instances_text w.configuration
    ++ count_text (bytes "connections=") n ++ ls

unfoldable pub report : Walked → List ℕ
report w = report_with w (standing w.configuration).count (connections_text w.configuration)
