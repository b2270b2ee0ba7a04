use Rattle.write_items.proofs.Laws.{length-written}
use Rattle.page_spec.specs.Page.{candidate}
use Rattle.page_lib.proofs.Pieces.{more}
use borrow.Author.Rules.{rules}
use Rattle.page_lib.proofs.write_candidate.Statement.{statement}
use Rattle.page_lib.proofs.write_candidate.Tie as tie

returns : tie.Need-returns
unfolding candidate
returns c =
    let w3 = c in
    let w2 = c in
    let w1 = c in
    more _ _ w1.write_opening-a.ensures (more _ _ w2.write_mark-b.ensures w3.write_body.ensures)

pub write_candidate_spec : {M : Type 1} → statement M
write_candidate_spec =
    tie.close
    (tie.spec
    (λ c κs. search rules) (λ c κs. search rules) (λ c κs. search rules) (λ c. length-written (returns c)) returns)
