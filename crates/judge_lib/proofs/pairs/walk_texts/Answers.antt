use Rattle.words.specs.Words.{program_from, state_in}
use Rattle.words.proofs.InTexts.{none-begun}
use Rattle.step_walk.specs.Reached.{walked}
use Rattle.judge_lib.proofs.Order.{came-course}
use Rattle.judge_lib.proofs.pairs.walk_texts.Goals as goal

pub walk_paper-requires : goal.walk_paper-requires
walk_paper-requires c = (c.requires, none-begun 288)

pub returns : goal.returns
returns c =
    let l = c.walk_paper.new in
    came-course _ _ c.walk_paper.result (λ w. (program_from l.program l.begun, walked w (state_in l.state))) c.walk_paper.ensures
