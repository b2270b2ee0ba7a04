use borrow.Author.Tests.{eq-eqb, ne_eqb}
use Rattle.passlist_spec.specs.Listed.{wrong_in}
use Rattle.passlist_lib.proofs.wrong_in.Goals as goal

pub returns-then-counts-ne0 : goal.returns-then-counts-ne0
unfolding wrong_in
returns-then-counts-ne0 c = rw (ne_eqb _ _ c.if-counts-ne0.true)

pub returns-then-counts-eq0 : goal.returns-then-counts-eq0
unfolding wrong_in
returns-then-counts-eq0 c = rw (eq-eqb _ _ c.if-counts-ne0.false, eq-eqb _ _ c.if-counts-eq0.true)

pub returns-then-counts-ne0-2 : goal.returns-then-counts-ne0-2
unfolding wrong_in
returns-then-counts-ne0-2 c = rw (eq-eqb _ _ c.if-counts-ne0.false, ne_eqb _ _ c.if-counts-eq0.false, ne_eqb _ _ c.if-counts-ne0-2.true)

pub returns : goal.returns
unfolding wrong_in
returns c = rw (eq-eqb _ _ c.if-counts-ne0.false, ne_eqb _ _ c.if-counts-eq0.false, eq-eqb _ _ c.if-counts-ne0-2.false)
