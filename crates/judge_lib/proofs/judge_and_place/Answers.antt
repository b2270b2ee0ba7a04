use Rattle.words.proofs.InState.{start-in}
use Rattle.judge_spec.specs.Judged.{after_fault}
use Rattle.judge_lib.proofs.Judgement.{fault-judges, walk-judges, fault-places, walk-places}
use Rattle.judge_lib.proofs.Order.{reached-short}
use Rattle.judge_lib.proofs.judge_and_place.Goals as goal

pub walk_texts-requires : goal.walk_texts-requires
walk_texts-requires c = start-in

pub judge_walk-requires : goal.judge_walk-requires
judge_walk-requires c = reached-short _ _ _ _ (rw c.in-Ok.is at c.walk_texts.ensures)

pub returns-in-Ok : goal.returns-in-Ok
returns-in-Ok c =
    let e = rw c.in-Ok.is at c.walk_texts.ensures in
    let h = c.judge_walk.ensures in
    record { judges = walk-judges _ _ c.args.report.now _ e h.verdict h.buffer; places = walk-places _ _ _ _ e h.place }

pub returns-in-Err : goal.returns-in-Err
unfolding after_fault
returns-in-Err c =
    let e = rw c.in-Err.is at c.walk_texts.ensures in
    let h = c.judge_fault.ensures in
    record { judges = fault-judges _ _ _ _ _ _ e h.verdict; places = fault-places _ _ _ _ _ _ e h.place }
