use Rattle.std.proofs.Common.{◌≡◌, Bool, sym, arith, ◌∙◌}
use borrow.Author.Tests.{lt-leb, le-leb}
use Rattle.sets.specs.Test.{all_below}
use Rattle.sets.proofs.Laws.{all_start}
use Rattle.words.specs.Words.{tables_in, state_in}
use Rattle.words.proofs.InState.{servers-length}
use Rattle.hall_configuration.specs.Lawful.{connections_lawful}
use Rattle.hall_lawful.proofs.Loops.{one-fails, one_more, all-passed}
use Rattle.hall_configuration.proofs.Servers.{lawful_at, lawful-all}
use Rattle.hall_configuration.proofs.connections_lawful.Goals as goal
use Rattle.hall_configuration.proofs.connections_lawful.Goals.{Else-many}

pub returns-then-many : goal.returns-then-many
unfolding connections_lawful
returns-then-many c = rw (← c.entries-many.ensures.value, lt-leb _ _ c.if-many.true)

-- few enough, and so by each use port
each : (e : Else-many) (r : Bool)
    → let s = e.args in
    r ≡ all_below 512 (lawful_at (tables_in s.tables.now) (state_in s.state.now) (state_in s.state.now).servers)
    → r ≡ connections_lawful (tables_in s.tables.now) (state_in s.state.now)
unfolding connections_lawful
each e r is =
    let s = e.args in
    rw (← e.entries-many.ensures.value, le-leb _ _ e.if-many.false) (is ∙ sym (lawful-all (tables_in s.tables.now) (state_in s.state.now) _ (servers-length _)))

pub loop-s-init : goal.loop-s-init
loop-s-init c = all_start _

pub returns-then-not-connection_lawful : goal.returns-then-not-connection_lawful
returns-then-not-connection_lawful c =
    each (goal.at.returns-then-not-connection_lawful c).Else-many _ (one-fails _ c.loop-s.s _ c.connection_lawful.ensures _ c.loop-s-test.true c.if-not-connection_lawful.true)

pub loop-s-preserved : goal.loop-s-preserved
loop-s-preserved c = one_more _ c.loop-s.s _ c.connection_lawful.ensures c.loop-s.invariant c.if-not-connection_lawful.false

pub returns : goal.returns
returns c = each (goal.at.returns c).Else-many _ (all-passed _ _ c.loop-s.s c.loop-s.invariant (omega arith))
