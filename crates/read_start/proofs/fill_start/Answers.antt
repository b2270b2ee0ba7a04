use mathlib.Core.Path.{sym, ◌∙◌}
use Rattle.read_chain.proofs.Chain.{place-of}
use Rattle.read_start.proofs.Laws.{start-stopped, start-fifty, start-served}
use Rattle.read_start.proofs.fill_start.Goals as goal

pub returns-in_default : goal.returns-in_default
returns-in_default c =
    rw (place-of _ c.came_to.ensures, c.in_default.is, c.clear_words-in_default.ensures.0, c.clear_words-in_default.ensures.1)
    (start-stopped _ _ _ _ c.in_default.ensures)

pub returns-then-some_unserved : goal.returns-then-some_unserved
returns-then-some_unserved c =
    rw (c.clear_words-then-some_unserved.ensures.0, c.clear_words-then-some_unserved.ensures.1)
    (start-fifty _ _ _ _ c.in-Ok.ensures (sym c.some_unserved.ensures ∙ c.if-some_unserved.true))

pub returns : goal.returns
returns c = rw c.show_queues.ensures (start-served _ _ _ _ c.in-Ok.ensures (sym c.some_unserved.ensures ∙ c.if-some_unserved.false))
