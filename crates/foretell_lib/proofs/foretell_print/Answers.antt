use Rattle.std.proofs.Common.{rules, ap}
use Rattle.model.specs.declared.Text.{Text}
use Rattle.foretell_lib.specs.Foresees.{shown_as}
use Rattle.foretell_lib.proofs.Papers.{of-text, prints-so}
use Rattle.foretell_lib.proofs.foretell_print.Goals as goal

pub returns-in-Neither : goal.returns-in-Neither
returns-in-Neither c =
    let f = c.foretell-f in
    let w = prints-so _ _ _ _ _ f.result f.ensures (search rules) (ap (λ (x : Text). shown_as x f.result) c.in-Neither.is) c.write_told.ensures in
    record { prints = (w.0, w.1); counts = w.2 }

pub returns-in_default : goal.returns-in_default
returns-in_default c =
    let f = c.foretell-f in
    let w = prints-so _ _ _ _ _ f.result f.ensures (search rules) (of-text _ c.in_default.not-Neither f.result) c.write_fault.ensures in
    record { prints = (w.0, w.1); counts = w.2 }
