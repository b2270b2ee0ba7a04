-- No other outcome fits: what is promised is an equation with the definition, so two results that meet it are one.
-- Assumes nothing.
use Prim.Native.Nat.{ℕ}
use mathlib.Core.List.{List}
use Rattle.item_spec.specs.Once.{NoOtherEquals}
use Rattle.item_spec.proofs.Once.{no-other-equals}
use Rattle.judge_spec.specs.declared.Verdict.{Verdict}
use Rattle.judge_spec.specs.declared.Place.{Place}
use Rattle.judge_spec.specs.Once.{NoOtherFits, NoOtherVerdict, NoOtherPlace, NoOtherPrint}

pub no-other-verdict : NoOtherVerdict
unfolding NoOtherVerdict NoOtherEquals
no-other-verdict s a old v w b c h g =
    (no-other-equals Verdict _ v w h.verdict-is g.verdict-is, no-other-equals (List ℕ) _ b c h.buffer-is g.buffer-is)

pub no-other-place : NoOtherPlace
unfolding NoOtherPlace NoOtherEquals
no-other-place s a room p q h g = no-other-equals Place _ p q h.place_is g.place_is

pub no-other-fits : NoOtherFits
unfolding NoOtherFits NoOtherVerdict NoOtherPlace
no-other-fits s a old v w b c p q h g =
    let j = no-other-verdict s a old v w b c h.judges g.judges in
    (j.0, j.1, no-other-place s a _ p q h.places g.places)

pub no-other-print : NoOtherPrint
unfolding NoOtherPrint NoOtherEquals
no-other-print s a old n m b c h g =
    (no-other-equals ℕ _ n m h.used-is g.used-is, no-other-equals (List ℕ) _ b c h.array-is g.array-is)
