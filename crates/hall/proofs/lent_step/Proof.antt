use mathlib.Core.Path.{ap, ◌∙◌}
use Rattle.model.specs.declared.Program.{Program}
use Rattle.judge_spec.specs.Course.{default_depth}
use Rattle.words.specs.Words.{tables_in, state_in}
use Rattle.words.specs.Parts.{step_of}
use Rattle.words.proofs.InTexts.{from-none}
use Rattle.step_walk.specs.Held.{held_step}
use borrow.Author.Rules.{rules}
use Rattle.hall.proofs.Words.{broken-left, ruled-left}
use Rattle.hall.proofs.lent_step.Statement.{statement}
use Rattle.hall.proofs.lent_step.Tie as tie

returns : tie.Need-returns-then-not-lent_lawful
returns c = broken-left _ _ _ _ _ c.lent_lawful.ensures c.if-not-lent_lawful.true _ c.about_none.ensures

returns-2 : tie.Need-returns
returns-2 c =
    let e = c in
    let a = c.args in
    ruled-left _ _ _ _ _ e.lent_lawful.ensures e.if-not-lent_lawful.false _ _
    (c.step.ensures ∙ ap (λ (p : Program). held_step default_depth (tables_in a.tables.now) p (state_in a.configuration.now) (step_of a.verb a.i a.n)) (from-none a.program.now 1))

pub lent_step_spec : {M : Type 1} → statement M
lent_step_spec = tie.close (tie.spec
    (λ c κs. search rules) (λ c κs. search rules) returns (λ c. search rules) (λ c. search rules) (λ c κs. search rules) returns-2)
