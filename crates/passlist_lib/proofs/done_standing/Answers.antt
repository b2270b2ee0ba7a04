use Rattle.passlist_lib.proofs.done_standing.Goals as goal

pub returns-in-Some : goal.returns-in-Some
returns-in-Some c = rw (c.in-AtLeast.is, c.in-Some.is) c.by_mark.ensures
