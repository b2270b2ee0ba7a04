use Rattle.aeolus_rules_spec.specs.Correct.{provided}
use Rattle.aeolus_correct.specs.Tests.{passes}
use Rattle.aeolus_correct.proofs.Users.{users-counted}
use Rattle.aeolus_model.specs.Words.{universe_in, configuration_in}
use borrow.Author.Rules.{rules}
use Rattle.aeolus_correct.proofs.provided.Statement.{statement}
use Rattle.aeolus_correct.proofs.provided.Tie as tie

returns : tie.Need-returns
unfolding provided passes
returns c =
    let a = c.args in
    rw (c.count.ensures, users-counted (universe_in a.universe.now) (configuration_in a.deployed.now) a.z a.users a.p c.requires)

pub provided_spec : {M : Type 1} → statement M
provided_spec = tie.close (tie.spec
    (λ c κs. search rules) returns)
