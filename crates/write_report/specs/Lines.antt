-- The parts of the report and of the start as the writers take them.
use Rattle.std.specs.Prelude.{ℕ, List, ◌++◌}
use Rattle.sets.specs.Test.{tally}
use Rattle.item_spec.specs.Reader.{bytes}
use Rattle.item_spec.specs.Write.{number_text, mask_text, in_turn}
use Rattle.model.specs.declared.Instance.{Instance}
use Rattle.model.specs.declared.Configuration.{Configuration}
use Rattle.model.specs.declared.Concerned.{Concerned}
use Rattle.model.specs.declared.Walked.{Walked}
use Rattle.model.specs.View.{instance}
use Rattle.rules_spec.specs.Standing.{standing}
use Rattle.report_spec.specs.Report.{queue_text, count_text, port_text, instances_text, connections_text}
use Rattle.start_spec.specs.Round.{row_at}
use Rattle.words.specs.Words.{state_in}

-- what a walk came to: the steps allowed, the number of the refusal, the use port concerned, and the state that the words say
abbrev pub reached : ℕ → ℕ → Concerned → List ℕ → Walked
reached accepted refused port ws = record { accepted = accepted; refused = refused; port = port; configuration = state_in ws }

-- an instance's line up to its end, of the record w with the queue q
unfoldable pub fields_part : ℕ → Instance → List ℕ → List ℕ
fields_part i w q =
    bytes "instance=" ++ number_text i ++ bytes "," ++ number_text w.kind ++ bytes "," ++ mask_text w.marked ++ bytes ","
    ++ mask_text w.running ++ bytes "," ++ mask_text w.ended ++ bytes "," ++ queue_text q

unfoldable pub ending_part : ℕ → Concerned → List ℕ
ending_part refused port = count_text (bytes "refused=") refused ++ port_text port

unfoldable pub head_part : ℕ → ℕ → Concerned → ℕ → List ℕ
head_part accepted refused port next = count_text (bytes "accepted=") accepted ++ ending_part refused port ++ count_text (bytes "next=") next

unfoldable pub instances_part : Configuration → List ℕ
instances_part c = count_text (bytes "instances=") (tally 32 (λ i. (instance c i).present)) ++ instances_text c

-- the same of a start, with the last tickets l in a sheet that opens with e
unfoldable pub rows_part : ℕ → List ℕ → Configuration → List ℕ
rows_part e l c = count_text (bytes "instances=") (tally 32 (λ i. (instance c i).present)) ++ in_turn (row_at e l c) 32

unfoldable pub connections_part : Configuration → List ℕ
connections_part c = count_text (bytes "connections=") (standing c).count ++ connections_text c
