use Rattle.write_verbs.proofs.write_step.Goals as goal

pub returns : goal.returns
returns c = rw (c.step_verb-verb.ensures.text-is _ _ _ _) at c.write_verb.ensures
