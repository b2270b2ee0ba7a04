use Rattle.write_report.specs.Lines.{fields_part}
use Rattle.write_items.proofs.Laws.{then, length-written}
use borrow.Author.Rules.{rules}
use Rattle.write_report.proofs.write_fields.Statement.{statement}
use Rattle.write_report.proofs.write_fields.Tie as tie

returns : tie.Need-returns
unfolding fields_part
returns c =
    let queue = c in
    let ended-end = c in
    let ended = c in
    let running-end = c in
    let running = c in
    let marked-end = c in
    let marked = c in
    let kind-end = c in
    let kind = c in
    let id-end = c in
    let id = c in
    let key = c in
    let to-id = then (then key.write_key-at.ensures id.write_number-at.ensures) id-end.write_byte-at.ensures in
    let to-kind = then (then to-id (rw kind.kind.ensures at kind.write_number-at-2.ensures)) kind-end.write_byte-at-2.ensures in
    let to-marked = then (then to-kind (rw marked.marked.ensures at marked.write_mask-at.ensures)) marked-end.write_byte-at-3.ensures in
    let to-running = then (then to-marked (rw running.running.ensures at running.write_mask-at-2.ensures)) running-end.write_byte-at-4.ensures in
    let to-ended = then (then to-running (rw ended.ended.ensures at ended.write_mask-at-3.ensures)) ended-end.write_byte-at-5.ensures in
    then to-ended queue.write_queue.ensures

pub write_fields_spec : {M : Type 1} → statement M
write_fields_spec =
    tie.close
    (tie.spec
    (λ c κs. search rules) (λ c κs. search rules) (λ c κs. search rules) (λ c κs. search rules) (λ c. search rules) (λ c κs. search rules)
    (λ c κs. search rules) (λ c κs. search rules) (λ c κs. search rules) (λ c κs. search rules) (λ c κs. search rules) (λ c κs. search rules)
    (λ c κs. search rules) (λ c κs. search rules) (λ c κs. search rules) (λ c κs. search rules) (λ c κs. search rules)
    (λ c. length-written (returns c)) returns)
