-- `rewrite_lib::write_sheet` meets its contract: the sheet as it was, or with 4 at its byte 14.
-- Assumes nothing.
use borrow.Author.Rules.{rules}
use Rattle.rewrite_lib.proofs.Bytes.{as_it_was, with-four}
use Rattle.rewrite_lib.proofs.write_sheet.Statement.{statement}
use Rattle.rewrite_lib.proofs.write_sheet.Tie as tie

returns : tie.Need-returns-then-depth-eq0
returns c =
    let s = c in
    with-four s.requires.0 c.write_key-arg-1.given.0.1 c.write_key-written.ensures
    c.write_byte.ensures s.args.depth c.if-depth-eq0.true (s.requires.1 c.if-depth-eq0.true)

returns-2 : tie.Need-returns
returns-2 c = as_it_was c.requires.0 c.write_key-arg-1.given.0.1 c.write_key-written.ensures c.args.depth c.if-depth-eq0.false

pub write_sheet_spec : {M : Type 1} → statement M
write_sheet_spec = tie.close (tie.spec
    (λ c κs. search rules) (λ c κs. search rules) returns returns-2)
