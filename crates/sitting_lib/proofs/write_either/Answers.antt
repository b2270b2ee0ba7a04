use Rattle.std.proofs.Common.{sym, ◌∙◌}
use Rattle.sitting_spec.specs.Candidate.{either_block}
use Rattle.sitting_lib.proofs.write_either.Goals as goal

pub returns-then-is_aeolus : goal.returns-then-is_aeolus
unfolding either_block
returns-then-is_aeolus c = rw (sym c.is_aeolus.ensures ∙ c.if-is_aeolus.true, either_block) c.write_plan.ensures

pub returns : goal.returns
unfolding either_block
returns c = rw (sym c.is_aeolus.ensures ∙ c.if-is_aeolus.false, either_block) c.write_block.ensures
