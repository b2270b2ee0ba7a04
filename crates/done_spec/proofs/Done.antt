-- The test of whether all of a paper is done, in other words.
-- Assumes nothing.
use borrow.Author.Tests.{eqb-true, eq-eqb, leb-true, le-leb}
use lib.Dec.{eqb, leb}
use Rattle.item_spec.proofs.Tests.{and_left, and_right}
use Rattle.sets.proofs.Laws.{all-at, all_of}
use Rattle.model.specs.View.{instance}
use Rattle.done_spec.specs.Done.{all_done, DoneExactly}

pub done-exactly : DoneExactly
unfolding DoneExactly all_done
done-exactly p c = (
  λ e. record {
    program = leb-true p.count c.done (and_left (leb p.count c.done) _ e);
    queues = λ i h. eqb-true (instance c i).queued 0 (all-at 32 (λ j. eqb (instance c j).queued 0) (and_right (leb p.count c.done) _ e) i h);
  },
  λ d. rw (le-leb p.count c.done d.program) (all_of 32 (λ j. eqb (instance c j).queued 0) (λ i h. eq-eqb (instance c i).queued 0 (d.queues i h))),
)
