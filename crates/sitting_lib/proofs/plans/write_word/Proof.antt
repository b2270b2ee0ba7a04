use borrow.Author.Tests.{eq-eqb, ne_eqb}
use borrow.Author.Rules.{rules}
use Rattle.sitting_lib.proofs.plans.write_word.Statement.{statement}
use Rattle.sitting_lib.proofs.plans.write_word.Tie as tie

returns : tie.Need-returns-then-refused-eq0
returns c = rw (c.in-Neither.is, eq-eqb _ _ c.if-refused-eq0.true) c.write_key.ensures

returns-2 : tie.Need-returns-else-refused-eq0
returns-2 c = rw (c.in-Neither.is, ne_eqb _ _ c.if-refused-eq0.false) c.write_key-in-Neither.ensures

returns-3 : tie.Need-returns-in-Sheet
returns-3 c = rw c.in-Sheet.is c.write_key-in-Sheet.ensures

returns-4 : tie.Need-returns-in-Answer
returns-4 c = rw c.in-Answer.is c.write_key-in-Answer.ensures

returns-5 : tie.Need-returns-in-Times
returns-5 c = rw c.in-Times.is c.write_key-in-Times.ensures

returns-6 : tie.Need-returns-in-Start
returns-6 c = rw c.in-Start.is c.write_key-in-Start.ensures

pub write_word_spec : {M : Type 1} → statement M
write_word_spec = tie.close (tie.spec
    (λ c. search rules) (λ c κs. search rules) (λ c. search rules) returns (λ c κs. search rules) (λ c. search rules) (λ c κs. search rules)
    (λ c. search rules) (λ c κs. search rules) (λ c. search rules) (λ c κs. search rules) (λ c. search rules) (λ c κs. search rules)
    (λ c. search rules) returns-2 (λ c. search rules) returns-3 (λ c. search rules) returns-4 (λ c. search rules) returns-5 (λ c. search rules)
    returns-6)
