use mathlib.Core.Path.{sym}
use Rattle.read_items.proofs.Laws.{handed_on}
use Rattle.read_lines.proofs.Runs.{run-refused, run-then}
use Rattle.read_chain.specs.Chain.{shortly}
use Rattle.read_chain.proofs.After.{end-after}
use Rattle.read_sheet.proofs.Forms.{form_counted, form-shortly}
use Rattle.read_sheet.proofs.filled.read_rows.Goals as goal

pub returns-in_err-at : goal.returns-in_err-at
unfolding shortly form_counted
returns-in_err-at c =
    rw (handed_on _ c.from_residual.ensures.1, sym (form-shortly c.args.text.now))
    (run-refused _ _ c.in_err-at.ensures)

pub returns-in_err-edition : goal.returns-in_err-edition
unfolding shortly form_counted
returns-in_err-edition c =
    rw (handed_on _ c.from_residual-in_err-edition.ensures.1, sym (form-shortly c.args.text.now))
    (run-then _ _ c.in_ok-at.ensures
    (run-refused _ _ c.in_err-edition.ensures))

pub returns-in_err-depth : goal.returns-in_err-depth
unfolding shortly form_counted
returns-in_err-depth c =
    rw (handed_on _ c.from_residual-in_err-depth.ensures.1, sym (form-shortly c.args.text.now))
    (run-then _ _ c.in_ok-at.ensures
    (run-then _ _ c.in_ok-edition.ensures
    (run-refused _ _ c.in_err-depth.ensures.reads)))

pub returns-in_err-types : goal.returns-in_err-types
unfolding shortly form_counted
returns-in_err-types c =
    rw (handed_on _ c.from_residual-in_err-types.ensures.1, sym (form-shortly c.args.text.now))
    (run-then _ _ c.in_ok-at.ensures
    (run-then _ _ c.in_ok-edition.ensures
    (run-then _ _ c.in_ok-depth.ensures.reads
    (run-refused _ _ c.in_err-types.ensures.reads))))

pub returns-in_err-at-2 : goal.returns-in_err-at-2
unfolding shortly form_counted
returns-in_err-at-2 c =
    rw (handed_on _ c.from_residual-in_err-at-2.ensures.1, sym (form-shortly c.args.text.now))
    (run-then _ _ c.in_ok-at.ensures
    (run-then _ _ c.in_ok-edition.ensures
    (run-then _ _ c.in_ok-depth.ensures.reads
    (run-then _ _ c.in_ok-types.ensures.reads
    (run-refused _ _ (rw c.start_tables.ensures at c.in_err-at-2.ensures))))))

pub returns-in_err-count : goal.returns-in_err-count
unfolding shortly form_counted
returns-in_err-count c =
    rw (handed_on _ c.from_residual-in_err-count.ensures.1, sym (form-shortly c.args.text.now))
    (run-then _ _ c.in_ok-at.ensures
    (run-then _ _ c.in_ok-edition.ensures
    (run-then _ _ c.in_ok-depth.ensures.reads
    (run-then _ _ c.in_ok-types.ensures.reads
    (run-then _ _ (rw c.start_tables.ensures at c.in_ok-at-2.ensures)
    (run-refused _ _ c.in_err-count.ensures.reads))))))

pub returns : goal.returns
unfolding shortly form_counted
returns c =
    rw (sym (form-shortly c.args.text.now))
    (run-then _ _ c.in_ok-at.ensures
    (run-then _ _ c.in_ok-edition.ensures
    (run-then _ _ c.in_ok-depth.ensures.reads
    (run-then _ _ c.in_ok-types.ensures.reads
    (run-then _ _ (rw c.start_tables.ensures at c.in_ok-at-2.ensures)
    (run-then _ _ c.in_ok-count.ensures.reads
    (end-after (λ p. (_, p)) _ _ _ (rw c.start_program.ensures at c.read_instructions-instructions.ensures) c.then_end.ensures)))))))
