use Rattle.compare_batch.proofs.Room.{written-counts}
use Rattle.compare_batch.proofs.judge_answer.Goals as goal

pub returns : goal.returns
returns c = written-counts _ _ c.args.report.now c.judge_and_place.ensures.judges.verdict-is c.judge_and_place.ensures.judges.buffer-is
