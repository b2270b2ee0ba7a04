use mathlib.Core.Path.{refl}
use Rattle.aeolus_judge_spec.specs.Judged.{no_room}
use Rattle.aeolus_lib.proofs.no_room.Statement.{statement}
use Rattle.aeolus_lib.proofs.no_room.Tie as tie

returns : tie.Need-returns
unfolding no_room
returns c = refl

pub no_room_spec : {M : Type 1} → statement M
no_room_spec = tie.close (tie.spec
    returns)
