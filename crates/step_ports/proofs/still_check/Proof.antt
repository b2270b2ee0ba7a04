use Rattle.std.proofs.Common.{refl, ◌∙◌, rules}
use Rattle.model.specs.View.{instance}
use Rattle.words.specs.Words.{state_in}
use Rattle.step_ports.proofs.Ports.{ports-check}
use Rattle.step_ports.proofs.still_check.Statement.{statement}
use Rattle.step_ports.proofs.still_check.Tie as tie

returns : tie.Need-returns
returns c =
    c.ports_refusal.ensures
    ∙ rw (c.marked.ensures, c.held.ensures) (ports-check _ _ _ (instance (state_in c.args.state.now) c.args.i) refl)

pub still_check_spec : {M : Type 1} → statement M
still_check_spec = tie.close (tie.spec
    (λ c κs. search rules) (λ c κs. search rules) (λ c κs. search rules) returns)
