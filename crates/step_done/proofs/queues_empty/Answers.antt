use Rattle.std.proofs.Common.{eqb, refl, ◌∙◌, rules, tests}
use Rattle.std.proofs.lemmas.Iterator.{YieldsList-from_range}
use Rattle.std.proofs.lemmas.Iterator.Search.{all_from_yields_List}
use Rattle.sets.proofs.Ranges.{all-range}
use Rattle.model.specs.View.{instance}
use Rattle.words.specs.Words.{state_in}
use Rattle.step_done.proofs.queues_empty.Goals as goal

pub returns : goal.returns
returns c =
    all_from_yields_List (λ i. eqb (instance (state_in c.args.state.now) i).queued 0) _ _ c.all.result c.all.ensures.ran (YieldsList-from_range 0 32 32 refl refl) (λ x b q k. search (rules, tests))
    ∙ all-range 32 _
