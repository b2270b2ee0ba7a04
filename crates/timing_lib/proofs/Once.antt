-- No other outcome fits: each promise is an equation, or tells a part by where it lies.
-- Assumes nothing.
use mathlib.Core.Path.{refl, sym, ◌∙◌}
use Rattle.start_spec.specs.Paper.{paper}
use Rattle.timing_spec.specs.Timed.{timed}
use Rattle.timing_spec.specs.Once.{PromisedPlace}
use Rattle.timing_spec.proofs.Once.{place-promised}
use Rattle.timing_lib.specs.Once.{NoOtherTimedPart, NoOtherTimedPrint}

pub timed-part-once : NoOtherTimedPart
unfolding NoOtherTimedPart
timed-part-once s given b a x room r q h g =
    let is : PromisedPlace (paper s.now given b.now) a.now x.now room (timed (paper s.now given b.now) a.now x.now room).judgement.place = place-promised refl in
    let here = h _ is in
    let there = g _ is in
    (λ i. ((here.block ∙ sym there.block) i, (here.place ∙ sym there.place) i), here.holds ∙ sym there.holds)

pub timed-print-once : NoOtherTimedPrint
unfolding NoOtherTimedPrint
timed-print-once s a x old b c n m h g = (h.used-is ∙ sym g.used-is, h.out-is ∙ sym g.out-is)
