use mathlib.Core.Path.{◌≡◌, sym, ◌∙◌}
use native.Mathlib.Omega.{arith}
use Rattle.aeolus_model.specs.Words.{universe_in, plan_in, configuration_in}
use Rattle.aeolus_step.proofs.Ahead.{plan-long, run-start, run_end, run-refused, run_more}
use Rattle.aeolus_step.proofs.run.Goals as goal

pub loop-k-init : goal.loop-k-init
loop-k-init c = run-start _ _ _

pub returns-then-refused-ne0 : goal.returns-then-refused-ne0
returns-then-refused-ne0 c =
    let l = c.loop-k in
    sym (l.invariant
    ∙ run-refused (universe_in c.args.universe.now) (plan_in c.args.plan.now) (configuration_in l.deployed) (plan-long c.args.plan.now) l.k _ _
    (omega (arith, c.step_count-n.ensures)) c.step_at-step.ensures c.act-refused.ensures c.if-refused-ne0.true)

pub loop-k-preserved : goal.loop-k-preserved
loop-k-preserved c =
    let l = c.loop-k in
    l.invariant
    ∙ run_more (universe_in c.args.universe.now) (plan_in c.args.plan.now) (configuration_in l.deployed) (plan-long c.args.plan.now) l.k _ _
    (omega (arith, c.step_count-n.ensures)) c.step_at-step.ensures c.act-refused.ensures c.if-refused-ne0.false

pub returns : goal.returns
returns c =
    let l = c.loop-k in
    let e : l.k ≡ c.step_count-n.result = omega arith in
    rw c.last_check-refused.ensures
    (sym ((rw e at l.invariant)
    ∙ run_end (universe_in c.args.universe.now) (plan_in c.args.plan.now) (configuration_in l.deployed) (plan-long c.args.plan.now) c.step_count-n.result (omega (arith, c.step_count-n.ensures))))
