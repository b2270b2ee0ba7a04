use Rattle.write_items.proofs.Laws.{then, length-written}
use Rattle.write_report.proofs.Queue.{slot-plain, slot-pair}
use borrow.Author.Rules.{rules}
use Rattle.write_report.proofs.write_slot.Statement.{statement}
use Rattle.write_report.proofs.write_slot.Tie as tie

returns : tie.Need-returns-then-s-lt8
returns c = rw (slot-plain _ c.if-s-lt8.true) c.write_number-p.ensures

returns-2 : tie.Need-returns
returns-2 c =
    let n = c in
    let b = c in
    let f = c in
    rw (slot-pair _ f.if-s-lt8.false) (then f.write_number-p.ensures (then b.write_byte-q.ensures n.write_number.ensures))

pub write_slot_spec : {M : Type 1} → statement M
write_slot_spec =
    tie.close
    (tie.spec
    (λ c. search rules) (λ c κs. search rules) (λ c. length-written (returns c)) returns (λ c κs. search rules) (λ c. search rules)
    (λ c. search rules) (λ c κs. search rules) (λ c. length-written (returns-2 c)) returns-2)
