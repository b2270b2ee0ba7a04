use mathlib.Core.Path.{sym}
use borrow.Author.Tests.{lt-leb, le-leb, eq-eqb, ne_eqb}
use Rattle.read_start.specs.Says.{join_number}
use Rattle.read_start.proofs.joins.join_held.Goals as goal

pub returns-then-not-user-provider : goal.returns-then-not-user-provider
unfolding join_number
returns-then-not-user-provider c = rw (sym c.port_in-provider.ensures, sym c.port_in-user.ensures, c.if-not-user-provider.true)

pub returns-then-n-least : goal.returns-then-n-least
unfolding join_number
returns-then-n-least c = rw (sym c.port_in-provider.ensures, sym c.port_in-user.ensures, c.if-not-user-provider.false, lt-leb _ _ c.if-n-least.true)

pub returns-then-con_check-ne0 : goal.returns-then-con_check-ne0
unfolding join_number
returns-then-con_check-ne0 c = rw (sym c.port_in-provider.ensures, sym c.port_in-user.ensures, c.if-not-user-provider.false, le-leb _ _ c.if-n-least.false, sym c.con_check.ensures, ne_eqb _ 0 c.if-con_check-ne0.true)

pub returns : goal.returns
unfolding join_number
returns c = rw (sym c.port_in-provider.ensures, sym c.port_in-user.ensures, c.if-not-user-provider.false, le-leb _ _ c.if-n-least.false, sym c.con_check.ensures, eq-eqb _ 0 c.if-con_check-ne0.false)
