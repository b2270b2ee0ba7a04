use mathlib.Core.Path.{refl, ◌∙◌}
use Rattle.words.specs.Words.{tables_in}
use Rattle.read_start.proofs.Laws.{head-slot, no-slots}
use borrow.Author.Rules.{rules}
use Rattle.read_start.proofs.rows.head_of.Statement.{statement}
use Rattle.read_start.proofs.rows.head_of.Tie as tie

returns : tie.Need-returns-then-count-eq0
returns c = rw c.if-count-eq0.true refl

returns-2 : tie.Need-returns-then-slots-eq0
returns-2 c = let a = c.args in no-slots (tables_in a.tables.now) a.k a.count a.slots.now c.if-slots-eq0.true

returns-3 : tie.Need-returns
returns-3 c =
    let a = c.args in
    c.behavior_of.ensures ∙ head-slot (tables_in a.tables.now) a.k a.count a.slots.now c.if-count-eq0.false c.if-slots-eq0.false

pub head_of_spec : {M : Type 1} → statement M
head_of_spec = tie.close (tie.spec
    returns returns-2 (λ c. search rules) (λ c κs. search rules) returns-3)
