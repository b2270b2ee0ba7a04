-- The report as it was before there were tickets: a queue is a list of behaviors. "`sheet=1` reads and reports as before".
use Rattle.std.specs.Prelude.{ℕ, ◌<◌, List, ◌++◌, true, ◌≡◌}
use Rattle.sets.specs.Test.{tally}
use Rattle.item_spec.specs.Reader.{bytes}
use Rattle.item_spec.specs.Write.{only_if, number_text, list_text, mask_text, in_turn}
use Rattle.model.specs.declared.Instance.{Instance}
use Rattle.model.specs.declared.Configuration.{Configuration}
use Rattle.model.specs.declared.Walked.{Walked}
use Rattle.model.specs.View.{instance, slot, queue_of}
use Rattle.rules_spec.specs.Standing.{standing}
use Rattle.report_spec.specs.Report.{count_text, port_text, connections_text, report}

unfoldable pub plain_instance : ℕ → Instance → List ℕ → List ℕ
plain_instance i w q =
    bytes "instance=" ++ number_text i ++ bytes "," ++ number_text w.kind ++ bytes "," ++ mask_text w.marked ++ bytes ","
    ++ mask_text w.running ++ bytes "," ++ mask_text w.ended ++ bytes "," ++ list_text q ++ bytes "\n"

unfoldable pub plain_at : Configuration → ℕ → List ℕ
plain_at c i = only_if (instance c i).present (plain_instance i (instance c i) (queue_of c i))

unfoldable pub plain_report : Walked → List ℕ
plain_report w =
    count_text (bytes "accepted=") w.accepted ++ count_text (bytes "refused=") w.refused ++ port_text w.port
    ++ count_text (bytes "next=") w.configuration.done
    ++ count_text (bytes "instances=") (tally 32 (λ i. (instance w.configuration i).present))
    ++ in_turn (plain_at w.configuration) 32
    ++ count_text (bytes "connections=") (standing w.configuration).count ++ connections_text w.configuration

-- no push had a ticket
abbrev pub NoTickets : Configuration → Type 0
NoTickets c = (i r : ℕ) → (instance c i).present ≡ true → r < (instance c i).queued → slot c i r < 8

unfoldable pub PlainAsBefore : Type 0
PlainAsBefore = (w : Walked) → NoTickets w.configuration → report w ≡ plain_report w
