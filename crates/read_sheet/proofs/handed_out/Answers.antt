use mathlib.Core.Path.{sym, ◌∙◌}
use Rattle.model.specs.declared.Program.{Program}
use Rattle.model.specs.declared.Tables.{Tables}
use Rattle.model.specs.Empty.{no_tables, no_program}
use Rattle.read_chain.proofs.Chain.{place-of}
use Rattle.read_chain.proofs.Placed.{kept-none, kept-all}
use Rattle.read_sheet.proofs.handed_out.Goals.{then-is_err, else-is_err}
use Rattle.read_sheet.proofs.handed_out.Goals as goal

pub returns : goal.returns
returns c =
    rw (place-of _ c.came_to.ensures)
    (elim c.if-is_err.branch [
      | then-is_err w ↦
          rw (w.tables-is, w.program-is, w.clear_tables.ensures, w.clear_program.ensures, kept-none {A = Tables × Program} (no_tables, no_program) _ _ (sym c.is_err.ensures.value ∙ w.if-is_err.true))
      | else-is_err w ↦ rw (w.tables-is, w.program-is, kept-all {A = Tables × Program} (no_tables, no_program) _ _ (sym c.is_err.ensures.value ∙ w.if-is_err.false))
    ])
