-- That no other outcome fits the promise to fill a universe.
-- Assumes nothing.
use mathlib.Core.Path.{sym, ap, ◌∙◌}
use Rattle.read_chain.specs.Whole.{Whole}
use Rattle.aeolus_model.specs.Model.{Universe}
use Rattle.aeolus_model.proofs.Told.{universe-words}
use Rattle.aeolus_read_sheet.specs.Once.{NoOtherUniverse}

pub universe-once : NoOtherUniverse
unfolding NoOtherUniverse
universe-once s r q ws vs a b e f =
    let g = e ∙ sym f in
    (ap (λ (x : Whole Universe). record { refused = x.refused; place = x.place }) g, universe-words ws vs a b (ap (λ (x : Whole Universe). x.value) g))
