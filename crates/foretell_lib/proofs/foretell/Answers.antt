-- What the paper's reader answered is the course that `foretold_on` goes on from.
use Rattle.std.proofs.Common.{rules, sym, ap, ◌∙◌}
use Rattle.judge_lib.specs.declared.papers.PaperFault.{PaperFault}
use Rattle.judge_lib.proofs.Alone.{said-reached, paper-fits}
use Rattle.foretell_spec.specs.Lines.{instruction_line}
use Rattle.foretell_lib.proofs.Papers.{fault-so, told-so, told-small}
use Rattle.foretell_lib.proofs.foretell.Goals as goal

pub returns-then-fault-ne0 : goal.returns-then-fault-ne0
returns-then-fault-ne0 c = fault-so _ _ c.read_paper-fault.ensures.fault c.if-fault-ne0.true

pub overflow_cast-result : goal.overflow_cast-result
overflow_cast-result c =
    let e = c.read_paper-fault.ensures in
    let r = said-reached _ _ (sym (ap (λ (x : PaperFault). x.refused) e.fault) ∙ c.if-fault-ne0.false) e.says in
    let h = told-small _ _ r _ (c.foretell_program-told.ensures (paper-fits _ _ r)) in
    search (rules, h)

pub returns : goal.returns
unfolding instruction_line
returns c =
    let e = c.read_paper-fault.ensures in
    let r = said-reached _ _ (sym (ap (λ (x : PaperFault). x.refused) e.fault) ∙ c.if-fault-ne0.false) e.says in
    told-so _ _ r _ (c.foretell_program-told.ensures (paper-fits _ _ r)) _ c.foretold_line-line.ensures
