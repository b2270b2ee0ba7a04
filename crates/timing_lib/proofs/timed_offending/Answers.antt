use Rattle.std.proofs.Common.{unwrap_or}
use Rattle.std.specs.Option.{is_some}
use Rattle.timing_lib.proofs.Places.{lent-paper, part_placed, elsewhere}
use Rattle.timing_lib.proofs.timed_offending.Goals as goal

pub returns-in-Times : goal.returns-in-Times
returns-in-Times c =
    let p = c.args.paper in
    let a = c.args.answer in
    part_placed p.sheet (is_some p.start) (unwrap_or p.start a) a c.args.times {p = c.timed_place-place.result} _ (rw (lent-paper p.sheet.now p.start a) c.timed_place-place.ensures) (rw c.in-Times.is c.part_of.ensures)

pub returns-in_default : goal.returns-in_default
returns-in_default c =
    let p = c.args.paper in
    let a = c.args.answer in
    let x = c.args.times in
    let h = rw (c.unwrap_or-start.ensures, elsewhere _ c.in_default.not-Times p.sheet (unwrap_or p.start a) a x) at c.part_at.ensures in
    part_placed p.sheet (is_some p.start) (unwrap_or p.start a) a x {p = c.timed_place-place.result} _ (rw (lent-paper p.sheet.now p.start a) c.timed_place-place.ensures) h
