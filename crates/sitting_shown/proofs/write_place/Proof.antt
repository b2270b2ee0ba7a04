use borrow.Author.Rules.{rules}
use Rattle.write_items.proofs.Laws.{then, length-written}
use Rattle.sitting_shown.specs.Place.{place_text}
use Rattle.sitting_shown.proofs.write_place.Statement.{statement}
use Rattle.sitting_shown.proofs.write_place.Tie as tie

returns : tie.Need-returns
unfolding place_text
returns c =
    let end = c in
    let size = c in
    let start-end = c in
    let start = c in
    let which-end = c in
    let which = c in
    let key = c in
    let to-which = then (then key.write_key-a.ensures which.write_which-b.ensures) which-end.write_byte-c.ensures in
    let to_start = then (then to-which start.write_number-d.ensures) start-end.write_byte-e.ensures in
    then (then to_start size.write_number-f.ensures) end.write_byte.ensures

pub write_place_spec : {M : Type 1} → statement M
write_place_spec =
    tie.close
    (tie.spec
    (λ c κs. search rules) (λ c κs. search rules) (λ c κs. search rules) (λ c κs. search rules) (λ c κs. search rules) (λ c κs. search rules)
    (λ c κs. search rules) (λ c. length-written (returns c)) returns)
