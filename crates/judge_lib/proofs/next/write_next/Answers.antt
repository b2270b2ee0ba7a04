use Rattle.judge_lib.proofs.next.write_next.Goals as goal

pub returns : goal.returns
returns c = rw (← c.fill_lasts.ensures, ← c.edition.ensures) c.write_start.ensures
