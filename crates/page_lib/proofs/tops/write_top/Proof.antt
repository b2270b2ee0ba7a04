use Rattle.write_items.proofs.Laws.{length-written}
use Rattle.page_spec.specs.Page.{top}
use Rattle.page_lib.proofs.Pieces.{more}
use borrow.Author.Rules.{rules}
use Rattle.page_lib.proofs.tops.write_top.Statement.{statement}
use Rattle.page_lib.proofs.tops.write_top.Tie as tie

returns : tie.Need-returns
unfolding top
returns c =
    let w8 = c in
    let w7 = c in
    let w6 = c in
    let w5 = c in
    let w4 = c in
    let w3 = c in
    let w2 = c in
    let w1 = c in
    more _ _ w1.write_begin-a.ensures (more _ _ w2.write_colours-b.ensures (more _ _ w3.write_text_look-c.ensures (more _ _ w4.write_rules-d.ensures (more _ _ w5.write_candidates_look-e.ensures (more _ _ w6.write_parts_look-f.ensures (more _ _ w7.write_print_look-g.ensures w8.write_heading.ensures))))))

pub write_top_spec : {M : Type 1} → statement M
write_top_spec =
    tie.close
    (tie.spec
    (λ c κs. search rules) (λ c κs. search rules) (λ c κs. search rules) (λ c κs. search rules) (λ c κs. search rules) (λ c κs. search rules)
    (λ c κs. search rules) (λ c κs. search rules) (λ c. length-written (returns c)) returns)
