use Rattle.std.proofs.Common.{eqb, refl, ◌∙◌, arith, rules, tests}
use Rattle.std.proofs.lemmas.Iterator.{YieldsList-from_range}
use Rattle.std.proofs.lemmas.Iterator.Search.{any_from_yields_List}
use Rattle.sets.proofs.Ranges.{any-range}
use Rattle.model.specs.View.{slot, stamp_in}
use Rattle.words.specs.Words.{state_in}
use Rattle.step_instructions.proofs.is_queued.Goals as goal

pub returns : goal.returns
returns c =
    let a = c.args in
    let n = c.queued.result in
    rw (← c.queued.ensures)
    (any_from_yields_List (λ r. eqb (stamp_in (slot (state_in a.state.now) a.i r)) a.stamp) _ _ c.any.result c.any.ensures.ran (YieldsList-from_range 0 n n refl (omega arith)) (λ x b q k. search (rules, tests))
    ∙ any-range n _)
