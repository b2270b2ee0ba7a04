use Rattle.model.specs.Empty.{no_tables, no_program}
use Rattle.read_spec.specs.Fill.{headed, program_of}
use Rattle.read_spec.specs.Texts.{sheet}
use Rattle.read_items.proofs.Laws.{handed_on}
use Rattle.read_lines.proofs.Runs.{run-refused, run-then}
use Rattle.read_chain.specs.Chain.{shortly}
use Rattle.read_chain.proofs.After.{before-run, end-after, then-read, then-refused}
use Rattle.read_sheet.proofs.read_lines.Goals as goal

pub returns-in_err-edition : goal.returns-in_err-edition
unfolding shortly sheet headed program_of no_tables no_program
returns-in_err-edition c =
    rw (handed_on _ c.from_residual.ensures.1)
    (then-refused _ _ (before-run _ c.length_run.ensures) c.in_err-edition.ensures.reads)

pub returns-in_err-depth : goal.returns-in_err-depth
unfolding shortly sheet headed program_of no_tables no_program
returns-in_err-depth c =
    rw (handed_on _ c.from_residual-in_err-depth.ensures.1)
    (then-read _ _ (before-run _ c.length_run.ensures) c.in_ok-edition.ensures.reads
    (run-refused _ _ c.in_err-depth.ensures.reads))

pub returns-in_err-types : goal.returns-in_err-types
unfolding shortly sheet headed program_of no_tables no_program
returns-in_err-types c =
    rw (handed_on _ c.from_residual-in_err-types.ensures.1)
    (then-read _ _ (before-run _ c.length_run.ensures) c.in_ok-edition.ensures.reads
    (run-then _ _ c.in_ok-depth.ensures.reads
    (run-refused _ _ c.in_err-types.ensures.reads)))

pub returns-in_err-at : goal.returns-in_err-at
unfolding shortly sheet headed program_of no_tables no_program
returns-in_err-at c =
    rw (handed_on _ c.from_residual-in_err-at.ensures.1)
    (then-read _ _ (before-run _ c.length_run.ensures) c.in_ok-edition.ensures.reads
    (run-then _ _ c.in_ok-depth.ensures.reads
    (run-then _ _ c.in_ok-types.ensures.reads
    (run-refused _ _ (rw (c.put_head.ensures, c.requires.tables_value) at c.in_err-at.ensures)))))

pub returns-in_err-count : goal.returns-in_err-count
unfolding shortly sheet headed program_of no_tables no_program
returns-in_err-count c =
    rw (handed_on _ c.from_residual-in_err-count.ensures.1)
    (then-read _ _ (before-run _ c.length_run.ensures) c.in_ok-edition.ensures.reads
    (run-then _ _ c.in_ok-depth.ensures.reads
    (run-then _ _ c.in_ok-types.ensures.reads
    (run-then _ _ (rw (c.put_head.ensures, c.requires.tables_value) at c.in_ok-at.ensures)
    (run-refused _ _ c.in_err-count.ensures.reads)))))

pub returns : goal.returns
unfolding shortly sheet headed program_of no_tables no_program
returns c =
    then-read _ _ (before-run _ c.length_run.ensures) c.in_ok-edition.ensures.reads
    (run-then _ _ c.in_ok-depth.ensures.reads
    (run-then _ _ c.in_ok-types.ensures.reads
    (run-then _ _ (rw (c.put_head.ensures, c.requires.tables_value) at c.in_ok-at.ensures)
    (run-then _ _ c.in_ok-count.ensures.reads
    (end-after (λ p. (_, p)) _ _ _ (rw (c.put_edition.ensures, c.put_instructions.ensures, c.requires.program_value) at c.read_instructions-instructions.ensures) c.then_end.ensures)))))
