use Rattle.timing_clock.proofs.note_at.Goals as goal

pub returns-then-member : goal.returns-then-member
returns-then-member c = rw (← c.member.ensures, c.if-member.true, ← c.pair_slot-slot.ensures) c.put_at.ensures

pub returns-else-member : goal.returns-else-member
returns-else-member c = rw (← c.member.ensures, c.if-member.false)
