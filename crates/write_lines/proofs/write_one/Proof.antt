use Rattle.write_lines.specs.Numbers.{numbers_text}
use borrow.Author.Rules.{rules}
use Rattle.write_lines.proofs.write_one.Statement.{statement}
use Rattle.write_lines.proofs.write_one.Tie as tie

pub write_one_spec : {M : Type 1} → statement M
unfolding numbers_text
write_one_spec = tie.close (tie.spec
    (λ c κs. search rules) (λ c. search rules) (λ c. c.write_line.ensures))
