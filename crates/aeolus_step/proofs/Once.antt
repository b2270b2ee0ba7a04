-- No other outcome fits: what the words say tells them all, and what is promised is an equation with the rules.
-- Assumes nothing.
use mathlib.Core.Path.{sym, ap, ◌∙◌}
use Rattle.aeolus_model.proofs.Told.{configuration-words}
use Rattle.aeolus_rules_spec.specs.Action.{Acted}
use Rattle.aeolus_rules_spec.specs.Run.{Ran}
use Rattle.aeolus_step.specs.declared.Passed.{Passed}
use Rattle.aeolus_step.specs.Once.{NoOtherAct, NoOtherRun}

pub no-other-act : NoOtherAct
unfolding NoOtherAct
no-other-act u c a n m ws vs h g e f =
    let q = e ∙ sym f in
    (ap (λ (x : Acted). x.refused) q, configuration-words ws vs h g (ap (λ (x : Acted). x.configuration) q))

abbrev passed : Ran → Passed
passed w = record { accepted = w.accepted; refused = w.refused }

pub no-other-run : NoOtherRun
unfolding NoOtherRun
no-other-run u c acts p q ws vs h g e f =
    let r = e ∙ sym f in
    (ap passed r, configuration-words ws vs h g (ap (λ (x : Ran). x.configuration) r))
