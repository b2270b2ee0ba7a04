use Rattle.std.proofs.Common.{◌∙◌}
use Rattle.judge_spec.specs.Course.{reached}
use Rattle.timing_clock.specs.Once.{TimedAsRuled}
use Rattle.timing_clock.proofs.Once.{timed-as-ruled}
use Rattle.timing_lib.proofs.Order.{clocks-told}
use Rattle.timing_lib.proofs.clock_pair.Goals as goal

pub returns-then-read-ne0 : goal.returns-then-read-ne0
returns-then-read-ne0 c = λ fits. (clocks-told _ _ _ _ _ c.read_times-read.ensures).faults c.if-read-ne0.true

pub returns : goal.returns
unfolding TimedAsRuled
returns c = λ fits.
    let read = c.read_times-read in
    let (walks, marks) = timed-as-ruled _ _ _ _ _ _ _ _ fits (c.walk_timed.ensures read.result.times.listed) in
    (λ i. reached (walks i, marks i)) ∙ (clocks-told _ _ _ _ _ read.ensures).reaches c.if-read-ne0.false
