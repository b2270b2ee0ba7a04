use Rattle.write_items.proofs.Laws.{none, then}
use Rattle.write_lines.specs.Numbers.{numbers_text}
use borrow.Author.Tests.{ne_eqb}
use borrow.Author.Rules.{rules}
use Rattle.write_lines.proofs.write_line.Statement.{statement}
use Rattle.write_lines.proofs.write_line.Tie as tie

pub write_line_spec : {M : Type 1} → statement M
unfolding numbers_text
write_line_spec =
    tie.close
    (tie.spec
    (λ c κs. search rules) (λ c κs. search rules) (λ c κs. search rules) (λ c κs. search rules) (λ c κs. search rules) (λ c. search rules)
    (λ c. rw c.in-0.is (then c.write_key-at.ensures (none _ _))) (λ c. search rules)
    (λ c. rw c.in-1.is (then c.write_key-at.ensures c.write_last.ensures)) (λ c. search rules)
    (λ c. rw c.in-2.is (then c.write_key-at.ensures c.write_pair.ensures)) (λ c. search rules)
    (λ c. rw c.in-3.is (then c.write_key-at.ensures c.write_three.ensures)) (λ c. search rules)
    (λ c.
    let r = c.in_default.in_default-own.rest in
    rw (ne_eqb _ _ r.0.0.0.1, ne_eqb _ _ r.0.0.1, ne_eqb _ _ r.0.1, ne_eqb _ _ r.1) (then c.write_key-at.ensures c.write_four.ensures)))
