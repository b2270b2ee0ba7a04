use Rattle.aeolus_model.proofs.Find.{find-hit, find_none}
use Rattle.aeolus_model.specs.Model.{type_of}
use Rattle.aeolus_model.specs.Words.{universe_in}
use Rattle.sets.proofs.Laws.{any-start, any-more}
use borrow.Author.Tests.{eq-eqb, ne_eqb}
use mathlib.Core.Path.{◌≡◌, sym, ◌∙◌}
use native.Mathlib.Omega.{arith}
use Rattle.aeolus_model.proofs.place_of.Goals as goal

pub loop-j-init : goal.loop-j-init
loop-j-init c = any-start _

pub returns-then-name_of-r : goal.returns-then-name_of-r
returns-then-name_of-r c =
    let l = c.loop-j in
    sym (find-hit _ _ l.j (omega (arith, c.interfaces_of-most.ensures)) l.invariant (eq-eqb _ _ (sym c.name_of.ensures ∙ c.if-name_of-r.true)))

pub loop-j-preserved : goal.loop-j-preserved
loop-j-preserved c = any-more _ _ c.loop-j.invariant (ne_eqb _ _ (λ e. c.if-name_of-r.false (c.name_of.ensures ∙ e)))

pub returns : goal.returns
returns c =
    let q : c.loop-j.j ≡ (type_of (universe_in c.args.universe.now) c.args.k).interfaces = omega (arith, c.interfaces_of-most.ensures) in
    c.interfaces_of-most.ensures ∙ sym (find_none _ _ (rw q at c.loop-j.invariant))
