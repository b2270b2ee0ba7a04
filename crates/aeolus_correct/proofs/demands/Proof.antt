use Rattle.aeolus_model.specs.Model.{weak, strong, number_at}
use Rattle.aeolus_model.specs.Words.{universe_in}
use Rattle.aeolus_correct.proofs.Places.{demanded-first, demanded-second}
use borrow.Author.Rules.{rules}
use Rattle.aeolus_correct.proofs.demands.Statement.{statement}
use Rattle.aeolus_correct.proofs.demands.Tie as tie

returns : tie.Need-returns-then-number_at-ne0
returns c =
    let a = c.args in
    demanded-first (number_at (universe_in a.universe.now) a.k a.q weak a.j) (number_at (universe_in a.universe.now) a.k a.q strong a.j)
    c.number_at.ensures c.if-number_at-ne0.true

returns-2 : tie.Need-returns-else-number_at-ne0
returns-2 c =
    let a = c.args in
    demanded-second (number_at (universe_in a.universe.now) a.k a.q weak a.j) (number_at (universe_in a.universe.now) a.k a.q strong a.j)
    c.number_at.ensures c.if-number_at-ne0.false c.number_at-else-number_at-ne0.ensures

pub demands_spec : {M : Type 1} → statement M
demands_spec = tie.close (tie.spec
    (λ c κs. search rules) (λ c κs. search rules) returns returns-2)
