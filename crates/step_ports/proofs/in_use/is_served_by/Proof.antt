use Rattle.std.proofs.Common.{◌∙◌, rules}
use Rattle.model.specs.View.{is_served}
use Rattle.step_ports.specs.InUse.{served_by}
use Rattle.step_ports.proofs.InUse.{served-word}
use Rattle.step_ports.proofs.in_use.is_served_by.Statement.{statement}
use Rattle.step_ports.proofs.in_use.is_served_by.Tie as tie

returns : tie.Need-returns
unfolding served_by is_served
returns c =
    let s = c in
    served-word c.wrapping_sub_u32.result s.server.result s.args.i c.wrapping_sub_u32.type_inv c.wrapping_sub_u32.ensures s.requires.2
    ∙ rw s.server.ensures

pub is_served_by_spec : {M : Type 1} → statement M
is_served_by_spec = tie.close (tie.spec
    (λ c. search rules) (λ c. search rules) (λ c κs. search rules) (λ c κs. search rules) returns)
