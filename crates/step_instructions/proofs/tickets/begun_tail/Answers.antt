use Rattle.std.proofs.Common.{sym, ap, ◌∙◌}
use Rattle.words.specs.Words.{program_from}
use Rattle.step_instructions.proofs.Begun.{from-none, from_more, from_end, last_from, last_more, slots, tail-is}
use Rattle.step_instructions.proofs.tickets.begun_tail.Goals as goal

pub loop-r-init : goal.loop-r-init
loop-r-init c = λ program. rw c.begun_last-last.ensures (tail-is _ _)

pub returns-then-stamp-eq0 : goal.returns-then-stamp-eq0
returns-then-stamp-eq0 c = λ program.
    let l = c.loop-r in
    let a = c.args in
    sym (ap (last_from l.last) (from-none (slots (program_from program a.begun.now) a.i) l.r c.loop-r-test.true (sym c.begun_stamp-stamp.ensures ∙ c.if-stamp-eq0.true)))
    ∙ l.invariant program

pub loop-r-preserved : goal.loop-r-preserved
loop-r-preserved c = λ program.
    let l = c.loop-r in
    let a = c.args in
    let f = slots (program_from program a.begun.now) a.i in
    rw c.begun_stamp-stamp.ensures
    (sym (ap (last_from l.last) (from_more f l.r c.loop-r-test.true (λ z. c.if-stamp-eq0.false (c.begun_stamp-stamp.ensures ∙ z))) ∙ last_more l.last (f l.r) _)
    ∙ l.invariant program)

pub returns : goal.returns
returns c = λ program.
    let l = c.loop-r in
    let a = c.args in
    sym (ap (last_from l.last) (from_end (slots (program_from program a.begun.now) a.i) l.r c.loop-r-test.false)) ∙ l.invariant program
