use Rattle.write_verbs.proofs.write_do.Goals as goal

pub returns : goal.returns
returns c = rw (c.do_verb-verb.ensures.text-is _ _ _ _) at c.write_verb.ensures
