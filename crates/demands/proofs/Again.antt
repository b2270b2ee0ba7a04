-- At each accepted point the state shown is a start: it is read back, no use port is unserved, and it has room.
-- Assumes nothing.
use Prim.Native.Nat.{◌≤◌, ◌<◌}
use mathlib.Core.List.{List}
use mathlib.Core.Bool.{false}
use mathlib.Core.Path.{◌≡◌, refl, ap}
use mathlib.Core.Logic.{⊎_elim}
use native.Mathlib.Omega.{arith}
use lib.ListN.{length, length-append, length-take}
use borrow.Author.Tests.{le-leb, eq-eqb}
use Rattle.item_spec.specs.Reader.{bytes}
use Rattle.model.specs.declared.Tables.{Tables}
use Rattle.model.specs.declared.Program.{Program}
use Rattle.model.specs.declared.Step.{Step}
use Rattle.model.specs.declared.Configuration.{Configuration}
use Rattle.model.specs.declared.Walked.{Walked}
use Rattle.model.specs.View.{connection, begun_with, with_done}
use Rattle.model.specs.Empty.{none_begun}
use Rattle.read_spec.specs.Limits.{has_tickets}
use Rattle.read_spec.specs.Lawful.{Lawful}
use Rattle.rules_spec.specs.Ports.{serves, blocks, employs, fails_unconnected, fails_unserved, fails_refusing, fails_in_use, port_check}
use Rattle.rules_spec.specs.Walk.{walk}
use Rattle.rules_spec.proofs.Connections.{joined-some}
use Rattle.rules_spec.proofs.Named.{walk-port-small}
use Rattle.rules_spec.proofs.Numbers.{walk-numbers}
use Rattle.rules_spec.proofs.Proper.{proper-from}
use Rattle.rules_spec.proofs.Tables.{facts}
use Rattle.report_spec.specs.Report.{count_text}
use Rattle.report_spec.proofs.Bound.{report-le}
use Rattle.start_spec.specs.Paper.{given}
use Rattle.start_spec.specs.Served.{fails_still, some_unserved, AllServed, FiftyExactly}
use Rattle.start_spec.specs.Permitted.{MayBegin}
use Rattle.start_spec.specs.Round.{state_text, head_text, plain_start, ReportsEndInTheState, ReportsAreStarts}
use Rattle.start_spec.proofs.Fifty.{fifty-exactly}
use Rattle.start_spec.proofs.Round.{reports-end-in-the-state, reports-are-starts}
use Rattle.judge_spec.specs.Course.{reached, read, served, short_start, outset, default_depth}
use Rattle.demands.specs.Safe.{Safe, WalksAreSafe}
use Rattle.demands.specs.OnTexts.{sheet_tables, sheet_program, begin_of, answer_steps, walk_on, up_to}
use Rattle.demands.specs.Again.{ReportsAreStartsOnTexts}
use Rattle.demands.proofs.Safe.{walks-are-safe}
use Rattle.demands.proofs.OnTexts.{read_goes}

-- a safe configuration has no unserved use port
pub served-is : (t : Tables) (c : Configuration) → Safe t c → some_unserved t c ≡ false
unfolding Safe FiftyExactly AllServed serves
served-is t c safe =
    (fifty-exactly t c).1
    (λ i q h here hq hu ha.
    let s = safe i q here hq hu ha in
    joined-some c (serves t c i q) (connection c s.at) (s.at, s.within, s.stands, refl) (rw (eq-eqb (connection c s.at).user i s.user, eq-eqb (connection c s.at).useport q s.useport, s.provider)))

-- how far the program is, isn't looked at
pub unserved-done : (t : Tables) (c : Configuration) → some_unserved t c ≡ false → some_unserved t (with_done c 0) ≡ false
unfolding with_done some_unserved fails_still port_check fails_unconnected fails_unserved fails_refusing fails_in_use serves blocks employs
unserved-done t c e = e

-- the lines before the state have more bytes than `start=1`
head-long : (w : Walked) → 8 ≤ length (head_text w)
unfolding head_text count_text
head-long w = simp length-append (omega arith)

module _ (t : Tables) (p : Program) (c : Configuration) (ss : List Step) (law : Lawful t p) (b : MayBegin default_depth t p c) (few : length ss ≤ 1024) (plain : has_tickets p.edition ≡ false) where
  start-short : length (plain_start (walk default_depth t p c ss).configuration) ≤ 8192
  unfolding ReportsEndInTheState plain_start
  start-short =
      let w = walk default_depth t p c ss in
      let known = facts default_depth t p (omega arith) law in
      let n = walk-numbers default_depth t p ss c in
      let small : w.refused < 100 = ⊎_elim (λ e. omega arith) (λ e. omega arith) n.refused.range in
      let l = report-le default_depth t p w (omega arith) law (proper-from default_depth t p known ss c b.permitted.proper) (omega (arith, n.accepted)) small
      (walk-port-small default_depth t p known ss c b.permitted.proper) in
      omega (arith, l, ap length (reports-end-in-the-state w), length-append (head_text w) (state_text w.configuration), length-append (bytes "start=1\n") (state_text w.configuration), head-long w)

  start-given : outset default_depth t p (given (plain_start (walk default_depth t p c ss).configuration))
      ≡ reached (begun_with p (walk default_depth t p c ss).configuration.queue none_begun.last, with_done (walk default_depth t p c ss).configuration 0)
  unfolding outset read served plain_start with_done ReportsAreStarts WalksAreSafe
  start-given =
      rw (
        reports-are-starts default_depth t p c ss (omega arith) law plain b,
        read,
        unserved-done t (walk default_depth t p c ss).configuration (served-is t _ (walks-are-safe default_depth t p c ss (omega arith) law b)),
        served,
      )

pub reports-are-starts-on-texts : ReportsAreStartsOnTexts
unfolding ReportsAreStartsOnTexts short_start
reports-are-starts-on-texts s a n r plain =
    let g = read_goes s a r in
    let few : length (up_to n a) ≤ 1024 = omega (arith, g.said.few, length-take n (answer_steps a)) in
    let short = start-short (sheet_tables s) (sheet_program s) (begin_of s) (up_to n a) g.lawful g.begins-well few plain in
    (short, rw (le-leb (length (plain_start (walk_on s (up_to n a)).configuration)) 8192 short, short_start), start-given (sheet_tables s) (sheet_program s) (begin_of s) (up_to n a) g.lawful g.begins-well few plain)
