use Rattle.std.proofs.Common.{rules, refl}
use Rattle.words.specs.Words.{state_in}
use Rattle.step_walk.specs.Reached.{walked}
use Rattle.judge_verdicts.proofs.InRoom.{fits-place}
use Rattle.judge_lib.proofs.Room.{fits_told}
use Rattle.timing_lib.specs.Came.{marked_in}
use Rattle.timing_lib.proofs.Order.{marked-short}
use Rattle.timing_lib.proofs.Timing.{fault-placed, walk-placed}
use Rattle.timing_lib.proofs.timed_place.Goals as goal

pub overflow_cast-refused : goal.overflow_cast-refused
overflow_cast-refused c =
    let h = (marked-short _ _ _ _ _ (rw c.in-Ok.is at c.course.ensures)).small in
    search rules

pub returns-in-Ok : goal.returns-in-Ok
returns-in-Ok c =
    let ws = c.course.new.state in
    let w = c.in-Ok.walk in
    let e = rw c.in-Ok.is at c.course.ensures in
    let told = fits_told (marked_in w ws) _ c.args.room c.has_room-fits.ensures refl (marked-short _ _ _ _ _ e).few in
    walk-placed _ _ _ _ (walked w.passed (state_in ws)) w.mark e (fits-place (walked w.passed (state_in ws)) (marked_in w ws) c.args.answer.now c.args.room c.walk_place.ensures told)

pub returns-in-Err : goal.returns-in-Err
returns-in-Err c = fault-placed _ _ _ _ _ _ _ (rw c.in-Err.is at c.course.ensures) c.fault_place.ensures
