use Prim.Native.Nat.{◌+◌, ◌-◌}
use borrow.Author.Tests.{lt-ltb, le-ltb}
use Rattle.page_spec.specs.Page.{line_row}
use Rattle.page_lib.proofs.Pieces.{when-so, when-not}
use borrow.Author.Rules.{rules}
use Rattle.page_lib.proofs.lines.write_if_there.Statement.{statement}
use Rattle.page_lib.proofs.lines.write_if_there.Tie as tie

returns : tie.Need-returns-then-i-less
returns c =
    let x = c.args in
    let test = lt-ltb _ _ (rw (c.less.ensures, c.line_count.ensures, c.less-first.ensures) at c.if-i-less.true) in
    when-so (line_row x.answer.now x.hit (x.hit - 7 + x.i + 1)) test (rw c.less-first.ensures at c.write_line_row.ensures)

returns-2 : tie.Need-returns
returns-2 c =
    let x = c.args in
    let test = le-ltb _ _ (rw (c.less.ensures, c.line_count.ensures, c.less-first.ensures) at c.if-i-less.false) in
    when-not (line_row x.answer.now x.hit (x.hit - 7 + x.i + 1)) _ _ test

pub write_if_there_spec : {M : Type 1} → statement M
write_if_there_spec =
    tie.close
    (tie.spec
    (λ c κs. search rules) (λ c κs. search rules) (λ c κs. search rules) (λ c. search rules) (λ c. search rules) (λ c κs. search rules)
    (λ c. search rules) returns returns-2)
