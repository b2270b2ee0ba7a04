use Rattle.aeolus_model.specs.Words.{plan_in}
use Rattle.judge_lib.proofs.Order.{passed-on}
use Rattle.aeolus_lib.proofs.Order.{run-goes, fault-goes}
use Rattle.aeolus_lib.proofs.run_texts.Goals as goal

pub returns-in_err-read_both : goal.returns-in_err-read_both
returns-in_err-read_both c =
    rw (passed-on _ _ c.from_residual.ensures.1) (fault-goes _ _ _ _ _ (rw c.in_err-read_both.was at c.read_both.ensures))

pub returns : goal.returns
returns c = run-goes _ _ _ (plan_in c.read_both.new.plan) (rw c.in_ok-read_both.was at c.read_both.ensures) c.clear_deployed.ensures c.run.ensures
