use Rattle.std.proofs.Common.{◌∙◌}
use Rattle.model.specs.Empty.{no_program}
use Rattle.judge_lib.proofs.Alone.{outcome-opens, told-read, told-fault}
use Rattle.judge_lib.proofs.papers.read_paper.Goals as goal

pub returns-in_default-clause-fault : goal.returns-in_default-clause-fault
returns-in_default-clause-fault c =
    let o = c.open_paper-opened.ensures in
    let e = rw c.in_default.is at (outcome-opens _ c.paper_outcome.ensures o.sheet o.long o.begins) in
    c.no_fault.ensures ∙ (told-read _ _ e).0

pub returns-in_default-clause-says : goal.returns-in_default-clause-says
returns-in_default-clause-says c =
    let o = c.open_paper-opened.ensures in
    let e = rw c.in_default.is at (outcome-opens _ c.paper_outcome.ensures o.sheet o.long o.begins) in
    (told-read _ _ e).1

pub returns-clause-fault : goal.returns-clause-fault
returns-clause-fault c =
    let o = c.open_paper-opened.ensures in
    let e = rw c.in-Err.is at (outcome-opens _ c.paper_outcome.ensures o.sheet o.long o.begins) in
    rw (← (told-fault _ _ _ _ e).0, ← c.text_of.ensures) c.fault_at.ensures

pub returns-clause-says : goal.returns-clause-says
unfolding no_program
returns-clause-says c =
    let o = c.open_paper-opened.ensures in
    let e = rw c.in-Err.is at (outcome-opens _ c.paper_outcome.ensures o.sheet o.long o.begins) in
    rw (← (told-fault _ _ _ _ e).1, c.clear_tables.ensures, c.clear_program.ensures, c.clear_state.ensures, c.clear_begun.ensures)
