use mathlib.Core.Path.{refl}
use Rattle.read_sheet.specs.Sheet.{sheet_read}
use Rattle.form_spec.specs.Said.{sheet_said}
use Rattle.form_lib.proofs.Laws.{said-so}
use borrow.Author.Rules.{rules}
use Rattle.form_lib.proofs.read_sheet.Statement.{statement}
use Rattle.form_lib.proofs.read_sheet.Tie as tie

pub read_sheet_spec : {M : Type 1} → statement M
unfolding sheet_said
read_sheet_spec =
    tie.close
    (tie.spec
    (λ c κs. search rules) (λ c κs. search rules) (λ c. said-so sheet_read _ _ refl c.fill_sheet-read.ensures c.fault_of.ensures))
