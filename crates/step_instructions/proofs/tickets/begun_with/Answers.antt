use Rattle.std.proofs.Common.{◌+◌, sym, ◌∙◌}
use Rattle.words.specs.Words.{program_from}
use Rattle.step_instructions.proofs.Begun.{from-none, from_end, slots, none_has, some-has, none_left, this-one, not-this}
use Rattle.step_instructions.proofs.tickets.begun_with.Goals as goal

pub returns-then-begun_stamp-eq0 : goal.returns-then-begun_stamp-eq0
returns-then-begun_stamp-eq0 c = λ program.
    let a = c.args in
    rw c.begun_last.ensures (none_has (program_from program a.begun.now) a.i a.ticket (sym c.begun_stamp.ensures ∙ c.if-begun_stamp-eq0.true))

pub loop-r-init : goal.loop-r-init
loop-r-init c = λ program.
    let a = c.args in
    some-has (program_from program a.begun.now) a.i (a.ticket + 1) (λ z. c.if-begun_stamp-eq0.false (c.begun_stamp.ensures ∙ z))

pub returns-then-stamp-eq0 : goal.returns-then-stamp-eq0
returns-then-stamp-eq0 c = λ program.
    let l = c.loop-r in
    let a = c.args in
    let f = slots (program_from program a.begun.now) a.i in
    none_left (a.ticket + 1) f l.r (from-none f l.r c.loop-r-test.true (sym c.begun_stamp-stamp.ensures ∙ c.if-stamp-eq0.true)) ∙ l.invariant program

pub returns-then-stamp-ticket : goal.returns-then-stamp-ticket
returns-then-stamp-ticket c = λ program.
    let l = c.loop-r in
    let a = c.args in
    this-one (a.ticket + 1) (slots (program_from program a.begun.now) a.i) l.r c.loop-r-test.true (λ z. c.if-stamp-eq0.false (c.begun_stamp-stamp.ensures ∙ z)) (sym c.begun_stamp-stamp.ensures ∙ c.if-stamp-ticket.true)
    ∙ l.invariant program

pub loop-r-preserved : goal.loop-r-preserved
loop-r-preserved c = λ program.
    let l = c.loop-r in
    let a = c.args in
    not-this (a.ticket + 1) (slots (program_from program a.begun.now) a.i) l.r c.loop-r-test.true (λ z. c.if-stamp-eq0.false (c.begun_stamp-stamp.ensures ∙ z)) (λ z. c.if-stamp-ticket.false (c.begun_stamp-stamp.ensures ∙ z))
    ∙ l.invariant program

pub returns : goal.returns
returns c = λ program.
    let l = c.loop-r in
    let a = c.args in
    let f = slots (program_from program a.begun.now) a.i in
    none_left (a.ticket + 1) f l.r (from_end f l.r c.loop-r-test.false) ∙ l.invariant program
