use Rattle.std.proofs.Common.{◌≡◌, length, take}
use Rattle.model.specs.View.{list_of}
use Rattle.start_spec.specs.Round.{last_of}
use Rattle.words.specs.Words.{program_from, state_in}
use Rattle.judge_lib.proofs.next.fill_lasts.Given as goal

abbrev pub invariant-loop-i : goal.invariant-loop-i
invariant-loop-i l = record { long : length l.lasts ≡ 32; filled : take l.i l.lasts ≡ list_of l.i (last_of (program_from l.program l.begun) (state_in l.state)) }
