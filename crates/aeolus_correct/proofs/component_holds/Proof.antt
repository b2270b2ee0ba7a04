use Rattle.aeolus_correct.proofs.Users.{users-are}
use Rattle.aeolus_model.specs.Words.{universe_in, configuration_in}
use borrow.Author.Rules.{rules}
use Rattle.aeolus_correct.proofs.component_holds.Statement.{statement}
use Rattle.aeolus_correct.proofs.component_holds.Tie as tie

ports-hold-requires : tie.Need-ports_hold-requires
ports-hold-requires c κs =
    let pre = c.requires in
    let a = c.args in
    λ e. users-are (universe_in a.universe.now) (configuration_in a.deployed.now) a.z a.targets.now _ pre.0 (pre.1 e) (c.users_of.ensures e)

pub component_holds_spec : {M : Type 1} → statement M
component_holds_spec = tie.close (tie.spec
    (λ c κs. search rules) ports-hold-requires (λ c. c.ports_hold.ensures))
