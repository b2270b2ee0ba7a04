use Rattle.write_texts.proofs.Whole.{fault-number, room-number}
use borrow.Author.Rules.{rules}
use Rattle.write_texts.proofs.answer_number.Statement.{statement}
use Rattle.write_texts.proofs.answer_number.Tie as tie

pub answer_number_spec : {M : Type 1} → statement M
answer_number_spec =
    tie.close
    (tie.spec
    (λ c κs. search rules) (λ c. fault-number _ _ _ _ c.answer_fault-fault.ensures c.if-fault-ne0.true) (λ c κs. search rules) (λ c κs. search rules)
    (λ c. room-number _ _ _ _ _ _ c.answer_fault-fault.ensures c.if-fault-ne0.false c.answer_length.ensures c.room_fault.ensures))
