use mathlib.Core.Path.{sym, ◌∙◌}
use borrow.Author.Rules.{rules}
use Rattle.write_items.proofs.Laws.{then, length-written}
use Rattle.sitting_shown.specs.Shown.{shown_byte}
use Rattle.sitting_shown.proofs.show_byte.Statement.{statement}
use Rattle.sitting_shown.proofs.show_byte.Tie as tie

returns-2 : tie.Need-returns
unfolding shown_byte
returns-2 c =
    let low = c in
    let high = c in
    let key = c in
    let test = c in
    let plain-is = sym test.stands.ensures ∙ test.if-stands.false in
    rw (plain-is, shown_byte, ← high.hex_digit.ensures, ← low.hex_digit-2.ensures)
    (then (then key.write_key-p.ensures high.write_byte-q.ensures) low.write_byte-2.ensures)

pub show_byte_spec : {M : Type 1} → statement M
unfolding shown_byte
show_byte_spec =
    tie.close
    (tie.spec
    (λ c κs. search rules) (λ c κs. search rules) (λ c. search rules)
    (λ c.
    let d = c in
    let test = c in
    rw (sym test.stands.ensures ∙ test.if-stands.true, shown_byte) d.write_byte.ensures)
    (λ c κs. search rules) (λ c κs. search rules) (λ c κs. search rules) (λ c κs. search rules) (λ c κs. search rules)
    (λ c. length-written (returns-2 c)) returns-2)
