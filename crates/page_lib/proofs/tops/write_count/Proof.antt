use Rattle.write_items.proofs.Laws.{none, then, length-written}
use native.Mathlib.Omega.{arith}
use borrow.Author.Tests.{lt-ltb, le-ltb}
use Rattle.page_spec.specs.Page.{count_row}
use Rattle.page_spec.specs.Piece.{piece_text, page_text}
use borrow.Author.Rules.{rules}
use Rattle.page_lib.proofs.tops.write_count.Statement.{statement}
use Rattle.page_lib.proofs.tops.write_count.Tie as tie

returns : tie.Need-returns-then-n-eq0
unfolding count_row page_text piece_text
returns c = rw (le-ltb 0 c.args.n (omega (arith, c.if-n-eq0.true)), count_row) (none _ _)

returns-2 : tie.Need-returns
unfolding count_row page_text piece_text
returns-2 c =
    let w9 = c in
    let w8 = c in
    let w7 = c in
    let w6 = c in
    let w5 = c in
    let w4 = c in
    let w3 = c in
    let w2 = c in
    let w1 = c in
    let test = c in
    rw (lt-ltb 0 test.args.n (omega (arith, test.if-n-eq0.false)), count_row)
    (then w1.write_key-a.ensures (then w2.write_number-b.ensures (then w3.write_key-c.ensures (then w4.write_number-d.ensures (then w5.write_key-e.ensures (then w6.write_number-f.ensures (then w7.write_key-g.ensures (then w8.write_words-h.ensures (then w9.write_key.ensures (none _ _))))))))))

pub write_count_spec : {M : Type 1} → statement M
write_count_spec =
    tie.close
    (tie.spec
    returns (λ c κs. search rules) (λ c κs. search rules) (λ c κs. search rules) (λ c κs. search rules) (λ c κs. search rules) (λ c κs. search rules)
    (λ c κs. search rules) (λ c κs. search rules) (λ c κs. search rules) (λ c. length-written (returns-2 c)) returns-2)
