use borrow.Author.Tests.{le-leb, lt-leb}
use Rattle.write_room.proofs.room_fault.Statement.{statement}
use Rattle.write_room.proofs.room_fault.Tie as tie

pub room_fault_spec : {M : Type 1} → statement M
room_fault_spec =
    tie.close
    (tie.spec
    (λ c. rw (lt-leb _ _ c.if-length-gt-LONGEST.true)) (λ c. rw (le-leb _ _ c.if-length-gt-LONGEST.false, lt-leb _ _ c.if-short.true))
    (λ c. rw (le-leb _ _ c.if-length-gt-LONGEST.false, le-leb _ _ c.if-short.false)))
