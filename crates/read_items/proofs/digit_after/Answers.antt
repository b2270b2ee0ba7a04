use mathlib.Core.Bool.{false}
use mathlib.Core.Path.{◌≡◌, refl}
use mathlib.Core.Logic.{⊎_elim}
use native.Mathlib.Omega.{arith}
use lib.Dec.{eqb}
use borrow.Author.Tests.{ne_eqb, eqb-false}
use borrow.Author.Rules.{rules}
use Rattle.item_spec.proofs.Laws.{true-digit}
use Rattle.read_items.proofs.Laws.{most-few, not_digit, small-below, small-more}
use Rattle.read_items.proofs.digit_after.Goals as goal

pub returns-then-c-lt48 : goal.returns-then-c-lt48
returns-then-c-lt48 c = not_digit _ _ _ _ (λ w. omega (arith, w.low))

pub returns-then-c-gt57 : goal.returns-then-c-gt57
returns-then-c-gt57 c = not_digit _ _ _ _ (λ w. omega (arith, w.high))

pub returns-then-most-count : goal.returns-then-most-count
returns-then-most-count c = not_digit _ _ _ _ (λ w. omega (arith, w.few, c.most.ensures))

pub returns-then-value-eq0 : goal.returns-then-value-eq0
returns-then-value-eq0 c = not_digit _ _ _ _ (λ w. w.leads (ne_eqb c.args.count 0 (λ e. omega arith)) c.if-value-eq0.true)

pub overflow_mul-more : goal.overflow_mul-more
overflow_mul-more c =
    let a = c.args in
    omega (arith, small-below a.count a.value c.requires (omega (arith, most-few a.digits, c.most.ensures)))

pub overflow_add-more : goal.overflow_add-more
overflow_add-more c =
    let a = c.args in
    omega (arith, small-below a.count a.value c.requires (omega (arith, most-few a.digits, c.most.ensures)), c.wide.ensures)

-- a digit before is no 0
leads : (c : goal.Joined-count-gt0) → eqb c.args.count 0 ≡ false → c.args.value ≡ 0 → ⊥
leads c z e = ⊎_elim (λ w. w.if-value-eq0.false e) (λ w. eqb-false c.args.count 0 z (omega (arith, w.if-count-gt0.false))) c.if-count-gt0.branch-raw

pub returns : goal.returns
returns c =
    let a = c.args in
    rw c.wide.ensures (
      true-digit (record { low = search rules; high = search rules; few = omega (arith, c.most.ensures); leads = leads c.before }),
      refl,
      small-more a.count a.value a.c c.requires (omega (arith, most-few a.digits, c.most.ensures)) (search rules) (search rules),
    )
