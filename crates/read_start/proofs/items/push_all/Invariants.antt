use Rattle.std.proofs.Common.{◌≡◌, ◌≤◌, drop}
use Rattle.model.specs.View.{instance}
use Rattle.start_spec.specs.Row.{pushed_all}
use Rattle.words.specs.Words.{state_in}
use Rattle.read_start.proofs.items.push_all.Given as goal

abbrev pub invariant-loop-word : goal.invariant-loop-word
invariant-loop-word l = l.count ≤ 8 → (instance (state_in l.initial.state) l.i).queued ≡ 0
    → ((instance (state_in l.state) l.i).queued ≤ l.word-index)
    × (pushed_all (state_in l.state) l.i (drop l.word-index l.queue) ≡ pushed_all (state_in l.initial.state) l.i l.queue)
