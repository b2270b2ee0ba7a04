use Rattle.write_items.proofs.Laws.{then}
use Rattle.sitting_spec.specs.Candidate.{candidate_text}
use Rattle.sitting_lib.proofs.write_candidate.Goals as goal

pub returns : goal.returns
unfolding candidate_text
returns c = then c.write_name-at.ensures c.write_either.ensures
