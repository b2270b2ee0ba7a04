use Rattle.read_start.specs.Start.{queue_room}
use borrow.Author.Rules.{rules}
use Rattle.read_start.proofs.rows.queue_room.Statement.{statement}
use Rattle.read_start.proofs.rows.queue_room.Tie as tie

returns : tie.Need-returns
unfolding queue_room
returns c = search rules

pub queue_room_spec : {M : Type 1} → statement M
queue_room_spec = tie.close (tie.spec
    (λ c κs. search rules) (λ c. search rules) (λ c κs. search rules) returns)
