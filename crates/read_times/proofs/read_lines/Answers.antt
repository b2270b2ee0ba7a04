use mathlib.Core.Path.{refl}
use Rattle.read_items.proofs.Laws.{handed_on}
use Rattle.read_lines.proofs.Runs.{went_on, run-refused, run-then}
use Rattle.read_chain.specs.Chain.{shortly}
use Rattle.times_spec.specs.Text.{times}
use Rattle.times_spec.specs.View.{times_of}
use Rattle.read_times.proofs.Laws.{rows-counted}
use Rattle.read_times.proofs.read_lines.Goals as goal

pub returns-in_err-at : goal.returns-in_err-at
unfolding shortly times
returns-in_err-at c = rw (handed_on _ c.from_residual.ensures.1) (run-refused _ _ c.in_err-at.ensures)

pub returns-in_err-at-2 : goal.returns-in_err-at-2
unfolding shortly times
returns-in_err-at-2 c =
    rw (handed_on _ c.from_residual-in_err-at-2.ensures.1) (run-then _ _ c.in_ok-at.ensures (run-refused _ _ c.in_err-at-2.ensures))

pub returns-in_err-par : goal.returns-in_err-par
unfolding shortly times
returns-in_err-par c =
    rw (handed_on _ c.from_residual-in_err-par.ensures.1)
    (run-then _ _ c.in_ok-at.ensures (run-then _ _ c.in_ok-at-2.ensures (run-refused _ _ c.in_err-par.ensures)))

pub returns-in_err-count : goal.returns-in_err-count
unfolding shortly times
returns-in_err-count c =
    rw (handed_on _ c.from_residual-in_err-count.ensures.1)
    (run-then _ _ c.in_ok-at.ensures
    (run-then _ _ c.in_ok-at-2.ensures
    (run-then _ _ c.in_ok-par.ensures
    (run-refused _ _ (rows-counted c.args.text.now c.in_ok-par.at c.in_err-count.ensures)))))

pub returns-in_err-at-3 : goal.returns-in_err-at-3
unfolding shortly times times_of
returns-in_err-at-3 c =
    rw (handed_on _ c.from_residual-in_err-at-3.ensures.1)
    (run-then _ _ c.in_ok-at.ensures
    (run-then _ _ c.in_ok-at-2.ensures
    (run-then _ _ c.in_ok-par.ensures
    (run-then _ _ (rows-counted c.args.text.now c.in_ok-par.at c.in_ok-count.ensures)
    (run-refused _ _ (rw (c.requires.0, c.requires.1) at (c.in_err-at-3.ensures c.in_ok-par.par)))))))

pub returns-in_err-at-4 : goal.returns-in_err-at-4
unfolding shortly times times_of
returns-in_err-at-4 c =
    rw (handed_on _ c.from_residual-in_err-at-4.ensures.1)
    (run-then _ _ c.in_ok-at.ensures
    (run-then _ _ c.in_ok-at-2.ensures
    (run-then _ _ c.in_ok-par.ensures
    (run-then _ _ (rows-counted c.args.text.now c.in_ok-par.at c.in_ok-count.ensures)
    (run-then _ _ (rw (c.requires.0, c.requires.1) at (c.in_ok-at-3.ensures c.in_ok-par.par))
    (run-refused _ _ c.in_err-at-4.ensures))))))

pub returns : goal.returns
unfolding shortly times times_of
returns c =
    run-then _ _ c.in_ok-at.ensures
    (run-then _ _ c.in_ok-at-2.ensures
    (run-then _ _ c.in_ok-par.ensures
    (run-then _ _ (rows-counted c.args.text.now c.in_ok-par.at c.in_ok-count.ensures)
    (run-then _ _ (rw (c.requires.0, c.requires.1) at (c.in_ok-at-3.ensures c.in_ok-par.par))
    (run-then _ _ c.in_ok-at-4.ensures (went_on c.in_ok-at-4.ensures.within refl))))))
