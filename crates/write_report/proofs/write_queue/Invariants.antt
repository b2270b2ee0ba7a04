-- The first s behaviors are written.
use Rattle.model.specs.View.{slot}
use Rattle.words.specs.Words.{state_in}
use Rattle.write_items.specs.Written.{Written}
use Rattle.write_report.proofs.Queue.{further}
use Rattle.write_report.proofs.write_queue.Given as goal

abbrev pub invariant-loop-s : goal.invariant-loop-s
invariant-loop-s l = Written l.initial.t (further (slot (state_in l.state) l.i) l.s) l.t l.initial.p l.p
