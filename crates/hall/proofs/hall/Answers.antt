-- What is stored where the step is allowed is the step's; where it is refused, what was lent is what the step left.
use Rattle.std.proofs.Common.{sym, ◌∙◌}
use Rattle.hall.proofs.Words.{refused-same}
use Rattle.hall.proofs.hall.Goals as goal
use Rattle.hall.proofs.hall.Goals.{then-m-eq0, else-m-eq0}

pub returns : goal.returns
returns c =
    elim c.if-m-eq0.branch [
      | then-m-eq0 w ↦ rw w.configuration-is c.hall_step-m.ensures
      | else-m-eq0 w ↦
          let h = c.hall_step-m.ensures in
          rw w.configuration-is (h.0, h.1, sym (refused-same _ _ _ _ _ _ h w.if-m-eq0.false) ∙ h.2)
    ]
