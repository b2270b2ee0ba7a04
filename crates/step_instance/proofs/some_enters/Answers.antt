use Rattle.std.proofs.Common.{refl, ◌∙◌, rules, tests}
use Rattle.std.proofs.lemmas.Iterator.{YieldsList-from_range}
use Rattle.std.proofs.lemmas.Iterator.Search.{any_from_yields_List}
use Rattle.sets.proofs.Ranges.{any-range}
use Rattle.model.specs.View.{instance}
use Rattle.words.specs.Words.{tables_in, state_in}
use Rattle.rules_spec.specs.Ports.{would_enter}
use Rattle.step_instance.proofs.some_enters.Goals as goal

pub returns : goal.returns
returns c =
    let a = c.args in
    any_from_yields_List (would_enter (tables_in a.tables.now) (instance (state_in a.state.now) a.i) a.m a.q) _ _ c.any.result c.any.ensures.ran (YieldsList-from_range 0 16 16 refl refl) (λ x b q k. search (rules, tests))
    ∙ any-range 16 _
