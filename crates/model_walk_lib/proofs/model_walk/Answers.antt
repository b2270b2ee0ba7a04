-- What the paper's reader answered is the course that the model goes on from.
use Rattle.std.proofs.Common.{refl, sym, ap, ◌∙◌, arith}
use Rattle.judge_lib.specs.declared.papers.PaperFault.{PaperFault}
use Rattle.judge_lib.proofs.Alone.{said-reached, paper-fits}
use Rattle.model_walk_lib.proofs.Papers.{fault-models, walk-models}
use Rattle.model_walk_lib.proofs.model_walk.Goals as goal

pub returns-then-fault-ne0 : goal.returns-then-fault-ne0
returns-then-fault-ne0 c =
    record {
      models = fault-models _ _ c.read_paper-fault.result c.read_paper-fault.ensures.fault c.if-fault-ne0.true _ c.no_model.ensures;
      counts = rw c.no_model.ensures (omega arith, refl);
    }

pub returns : goal.returns
returns c =
    let e = c.read_paper-fault.ensures in
    let r = said-reached _ _ (sym (ap (λ (x : PaperFault). x.refused) e.fault) ∙ c.if-fault-ne0.false) e.says in
    record { models = walk-models _ _ _ r _ _ (c.write_model.ensures.model (paper-fits _ _ r)); counts = c.write_model.ensures.counts }
