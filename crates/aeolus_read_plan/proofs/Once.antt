-- That no other answer fits the promise of a step line, or the promise to fill a plan.
-- Assumes nothing.
use mathlib.Core.Path.{refl, sym, ap, ◌∙◌}
use Rattle.read_items.specs.Reads.{past, fault, NoOther}
use Rattle.read_items.proofs.Once.{no_other, refusal_by, refusal-back}
use Rattle.read_chain.specs.Whole.{Whole}
use Rattle.aeolus_model.specs.Action.{Plan}
use Rattle.aeolus_model.proofs.Told.{plan-words}
use Rattle.aeolus_read_plan.specs.Says.{step_says}
use Rattle.aeolus_read_plan.specs.Once.{NoOtherPlan}
use Rattle.std.specs.declared.result.Result.TheVariants.{Ok, Err}

pub step-once : NoOther step_says
step-once =
    no_other step_says
    (elim [ past x n ↦ Ok (x, n) | fault k ↦ Err (refusal_by k) ])
    (elim [ Ok (x, n) ↦ refl | Err r ↦ ap Err (refusal-back r) ])

pub plan-once : NoOtherPlan
unfolding NoOtherPlan
plan-once s n r q ws vs a b e f =
    let g = e ∙ sym f in
    (ap (λ (x : Whole Plan). record { refused = x.refused; place = x.place }) g, plan-words ws vs a b (ap (λ (x : Whole Plan). x.value) g))
