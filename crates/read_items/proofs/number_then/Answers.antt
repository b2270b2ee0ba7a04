use Prim.Native.Nat.{ℕ, ◌+◌, ◌<◌}
use mathlib.Core.List.{List, ◌∷◌}
use mathlib.Core.Path.{◌≡◌, sym, ap, ◌∙◌}
use native.Mathlib.Numerals.{add-one}
use native.Mathlib.Omega.{arith}
use borrow.Author.Rules.{rules}
use borrow.Author.Tests.{eq-eqb, ne_eqb}
use lib.ListN.{length, drop, get_or}
use Rattle.item_spec.specs.Read.{number, number_from}
use Rattle.item_spec.proofs.Laws.{number-none, number-end, number-digit, number-other}
use Rattle.read_items.proofs.Laws.{from, number-over}
use Rattle.read_items.proofs.number_then.Goals as goal

-- at a byte: the number from there on is the number from the start
here : (d e k v : ℕ) (s : List ℕ) (at i : ℕ) → i < length s → number_from d e k v (drop i s) ≡ number d e (drop at s)
    → number_from d e k v (get_or s i 0 ∷ drop (i + 1) s) ≡ number d e (drop at s)
here d e k v s at i h g = sym (ap (number_from d e k v) (from s i h)) ∙ g

pub returns-then-count-eq0 : goal.returns-then-count-eq0
returns-then-count-eq0 c =
    record { within = search rules; same = sym (number-none _ _ _ _ _ _ (eq-eqb _ _ c.if-c-end.true) (eq-eqb _ _ c.if-count-eq0.true)) ∙ here _ _ _ _ c.args.s.now c.args.at c.loop-i.i (search rules) c.loop-i.invariant.1 }

pub returns-then-c-end : goal.returns-then-c-end
returns-then-c-end c =
    record { within = omega arith; same = sym (number-end _ _ _ _ _ _ (eq-eqb _ _ c.if-c-end.true) (ne_eqb _ _ c.if-count-eq0.false)) ∙ here _ _ _ _ c.args.s.now c.args.at c.loop-i.i (search rules) c.loop-i.invariant.1 }

pub digit_after-requires : goal.digit_after-requires
digit_after-requires c = c.loop-i.invariant.0

pub returns-in_err-more : goal.returns-in_err-more
returns-in_err-more c =
    rw c.from_residual.ensures
    (record { within = search rules; same = sym (number-other _ _ _ _ _ _ (ne_eqb _ _ c.if-c-end.false) c.in_err-more.ensures) ∙ here _ _ _ _ c.args.s.now c.args.at c.loop-i.i (search rules) c.loop-i.invariant.1 })

pub loop-i-preserved : goal.loop-i-preserved
loop-i-preserved c =
    let m = c.in_ok-more.ensures in
    (m.2, rw (m.1, add-one) (sym (number-digit _ _ _ _ _ _ (ne_eqb _ _ c.if-c-end.false) m.0) ∙ here _ _ _ _ c.args.s.now c.args.at c.loop-i.i (search rules) c.loop-i.invariant.1))

pub returns : goal.returns
returns c =
    record { within = search rules; same = sym (number-over _ _ _ _ _ _ c.loop-i-test.false) ∙ c.loop-i.invariant.1 }
