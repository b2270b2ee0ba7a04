use Rattle.std.proofs.Common.{sym, ◌∙◌}
use Rattle.judge_lib.specs.Came.{outcome_of}
use Rattle.judge_lib.proofs.Order.{passed-on, halts, goes-on}
use Rattle.judge_lib.proofs.pairs.outcome_of.Goals as goal

pub returns-in_err-short : goal.returns-in_err-short
unfolding outcome_of
returns-in_err-short c = passed-on _ _ c.from_residual.ensures.1 ∙ halts _ (sym c.short.ensures ∙ c.in_err-short.was)

pub returns-in_err-short-2 : goal.returns-in_err-short-2
unfolding outcome_of
returns-in_err-short-2 c =
    passed-on _ _ c.from_residual-in_err-short-2.ensures.1
    ∙ goes-on (sym c.short.ensures ∙ c.in_ok-short.was) (halts _ (sym c.short-2.ensures ∙ c.in_err-short-2.was))

pub returns-in_err-short-3 : goal.returns-in_err-short-3
unfolding outcome_of
returns-in_err-short-3 c =
    passed-on _ _ c.from_residual-in_err-short-3.ensures.1
    ∙ goes-on (sym c.short.ensures ∙ c.in_ok-short.was) (goes-on (sym c.short-2.ensures ∙ c.in_ok-short-2.was) (halts _ (sym c.short-3.ensures ∙ c.in_err-short-3.was)))

pub returns-in_err-read : goal.returns-in_err-read
unfolding outcome_of
returns-in_err-read c =
    passed-on _ _ c.from_residual-in_err-read.ensures.1
    ∙ goes-on (sym c.short.ensures ∙ c.in_ok-short.was) (goes-on (sym c.short-2.ensures ∙ c.in_ok-short-2.was) (goes-on (sym c.short-3.ensures ∙ c.in_ok-short-3.was)
    (halts _ (sym c.read.ensures ∙ c.in_err-read.was))))

pub returns-in_err-read-2 : goal.returns-in_err-read-2
unfolding outcome_of
returns-in_err-read-2 c =
    passed-on _ _ c.from_residual-in_err-read-2.ensures.1
    ∙ goes-on (sym c.short.ensures ∙ c.in_ok-short.was) (goes-on (sym c.short-2.ensures ∙ c.in_ok-short-2.was) (goes-on (sym c.short-3.ensures ∙ c.in_ok-short-3.was)
    (goes-on (sym c.read.ensures ∙ c.in_ok-read.was) (halts _ (sym c.read-2.ensures ∙ c.in_err-read-2.was)))))

pub returns : goal.returns
unfolding outcome_of
returns c =
    goes-on (sym c.short.ensures ∙ c.in_ok-short.was) (goes-on (sym c.short-2.ensures ∙ c.in_ok-short-2.was) (goes-on (sym c.short-3.ensures ∙ c.in_ok-short-3.was)
    (goes-on (sym c.read.ensures ∙ c.in_ok-read.was) (goes-on (sym c.read-2.ensures ∙ c.in_ok-read-2.was) c.read-3.ensures))))
