use Rattle.std.proofs.Common.{◌≡◌, ℕ, List, [], sym, arith}
use borrow.Author.Tests.{eq-eqb, ne_eqb}
use lib.Dec.{eqb}
use mathlib.Core.Bool.{true, false, not}
use Rattle.sets.specs.Test.{tally}
use Rattle.sets.proofs.Laws.{tally-start, tally-in, tally-out}
use Rattle.model.specs.View.{server, is_served, connection_of}
use Rattle.rules_spec.proofs.Connections.{count-is}
use Rattle.report_spec.specs.Report.{connection_text, connection_line}
use Rattle.report_spec.proofs.Lines.{line_at, lines-in-turn}
use Rattle.words.specs.Words.{state_in}
use Rattle.words.proofs.InState.{servers-length}
use Rattle.write_items.proofs.Turns.{turns-none, turns_more, turns-empty, turns-all}
use Rattle.write_report.proofs.Parts.{all-written}
use Rattle.write_report.proofs.write_connection_lines.Goals as goal
use Rattle.write_report.proofs.write_connection_lines.Goals.{then-x-ne0, else-x-ne0}

-- a use port that is free has no line
silent : (x : List ℕ) (s : ℕ) → is_served x s ≡ false → line_at x s ≡ []
unfolding is_served connection_line
silent x s e = rw e

pub loop-s-init : goal.loop-s-init
loop-s-init c = (omega (arith, tally-start (is_served (state_in c.args.state.now).servers)), turns-none)

pub returns-then-left-eq0 : goal.returns-then-left-eq0
returns-then-left-eq0 c =
    let ws = c.args.state.now in
    let x = (state_in ws).servers in
    let all : tally 512 (is_served x) ≡ tally c.loop-s.s (is_served x) = omega (arith, c.loop-s.invariant.0, c.requires, count-is x (servers-length ws)) in
    let same = all-written (is_served x) (line_at x) (silent x) c.loop-s.s 512 c.loop-s.auto.s-end all in
    rw (lines-in-turn (state_in ws) (servers-length ws), same) c.loop-s.invariant.1.written

pub loop-s-preserved : goal.loop-s-preserved
unfolding is_served connection_line
loop-s-preserved c =
    let x = (state_in c.args.state.now).servers in
    let read = c.server-x.ensures in
    let s = c.loop-s.s in
    elim c.if-x-ne0.branch [
      | then-x-ne0 w ↦
          let on : not (eqb (server x s) 0) ≡ true = rw (← read, ne_eqb _ _ w.if-x-ne0.true) in
          let line : line_at x s ≡ connection_text (connection_of s c.server-x.result) = rw (on, read) in
          (omega (arith, w.left-is, c.loop-s.invariant.0, tally-in (is_served x) s on), rw (w.t-is, w.used-is) (turns_more c.loop-s.invariant.1 c.loop-s-test.true (rw (sym line) at w.write_connection-used.ensures)))
      | else-x-ne0 w ↦
          let off : not (eqb (server x s) 0) ≡ false = rw (← read, eq-eqb _ _ w.if-x-ne0.false) in
          (omega (arith, w.left-is, c.loop-s.invariant.0, tally-out (is_served x) s off), rw (w.t-is, w.used-is) (turns-empty c.loop-s.invariant.1 c.loop-s-test.true (rw off)))
    ]

pub returns : goal.returns
returns c = let ws = c.args.state.now in rw (lines-in-turn (state_in ws) (servers-length ws)) (turns-all c.loop-s.invariant.1 c.loop-s-test.false)
