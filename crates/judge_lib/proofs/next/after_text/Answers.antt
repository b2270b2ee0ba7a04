use Rattle.judge_spec.specs.Judged.{after_fault}
use Rattle.judge_lib.proofs.next.after_text.Goals as goal

pub returns : goal.returns
unfolding after_fault
returns c = rw (c.after_fault-verdict.ensures, c.text_of.ensures)
