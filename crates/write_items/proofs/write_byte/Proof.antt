use borrow.Author.Rules.{rules}
use Rattle.write_items.proofs.Laws.{all_past, byte-stored}
use Rattle.write_items.proofs.write_byte.Statement.{statement}
use Rattle.write_items.proofs.write_byte.Tie as tie

returns : tie.Need-returns-then-t-at
returns c = all_past _ _ _ c.if-t-at.true

returns-2 : tie.Need-returns
returns-2 c = byte-stored _ _ _ c.if-t-at.false

pub write_byte_spec : {M : Type 1} → statement M
write_byte_spec =
    tie.close
    (tie.spec
    returns (λ c. search rules) (λ c. search rules) (λ c. search rules) returns-2)
