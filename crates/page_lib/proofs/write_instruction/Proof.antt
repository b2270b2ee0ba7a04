use Rattle.write_items.proofs.Laws.{none, then, length-written}
use borrow.Author.Tests.{lt-ltb, le-ltb}
use Rattle.page_spec.specs.Page.{instruction_line}
use Rattle.page_spec.specs.Piece.{piece_text, page_text}
use Rattle.page_lib.proofs.FirstBytes.{next-is}
use borrow.Author.Rules.{rules}
use Rattle.page_lib.proofs.write_instruction.Statement.{statement}
use Rattle.page_lib.proofs.write_instruction.Tie as tie

returns : tie.Need-returns-then-n-k
unfolding instruction_line page_text piece_text
returns c = rw (le-ltb _ _ c.if-n-k.true, instruction_line) (none _ _)

returns-2 : tie.Need-returns
unfolding instruction_line page_text piece_text
returns-2 c =
    let w9 = c in
    let w8 = c in
    let w7 = c in
    let w6 = c in
    let w5 = c in
    let w4 = c in
    let w3 = c in
    let w2 = c in
    let w1 = c in
    let at = c in
    let count = c in
    let test = c in
    let x = c.args in
    let line = next-is x.sheet.now x.n x.k count.line_number.ensures at.less-line.ensures in
    rw (lt-ltb _ _ test.if-n-k.false, instruction_line, ← line, ← w8.less.ensures)
    (then w1.write_key-a.ensures (then w2.write_number-b.ensures (then w3.write_key-c.ensures (then w4.write_number-d.ensures (then w5.write_key-e.ensures (then w6.write_number-f.ensures (then w7.write_key-g.ensures (then w8.show_line-h.ensures (then w9.write_key.ensures (none _ _))))))))))

pub write_instruction_spec : {M : Type 1} → statement M
write_instruction_spec =
    tie.close
    (tie.spec
    returns (λ c κs. search rules) (λ c. search rules) (λ c κs. search rules) (λ c κs. search rules) (λ c κs. search rules) (λ c κs. search rules)
    (λ c κs. search rules) (λ c κs. search rules) (λ c κs. search rules) (λ c κs. search rules) (λ c κs. search rules) (λ c κs. search rules)
    (λ c κs. search rules) (λ c. length-written (returns-2 c)) returns-2)
