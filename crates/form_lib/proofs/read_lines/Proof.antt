use Rattle.read_sheet.specs.Form.{form_read}
use Rattle.form_lib.proofs.Laws.{looked-is, looked-long, said-so}
use borrow.Author.Rules.{rules}
use Rattle.form_lib.proofs.read_lines.Statement.{statement}
use Rattle.form_lib.proofs.read_lines.Tie as tie

returns : tie.Need-returns
returns c =
    let s = c.args.text.now in
    said-so form_read _ _ (looked-is s _ c.looked_at-n.ensures) c.fill_form-read.ensures c.fault_of.ensures

pub read_lines_spec : {M : Type 1} → statement M
read_lines_spec =
    tie.close
    (tie.spec
    (λ c κs. search rules) (λ c. looked-long _ _ c.looked_at-n.ensures) (λ c κs. search rules) (λ c. looked-long _ _ c.looked_at-n.ensures)
    (λ c κs. search rules) returns)
