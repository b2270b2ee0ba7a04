use mathlib.Core.Path.{refl}
use borrow.Author.Tests.{ne_eqb}
use Rattle.write_spec.specs.Kinds.{step_text, step_fault}
use Rattle.write_lines.specs.Numbers.{numbers_text}
use Rattle.write_verbs.specs.Verbs.{numbers_ok}
use Rattle.write_verbs.proofs.Limits.{below}
use Rattle.write_verbs.proofs.step_verb.Statement.{statement}
use Rattle.write_verbs.proofs.step_verb.Tie as tie

pub step_verb_spec : {M : Type 1} → statement M
unfolding step_text step_fault numbers_text numbers_ok
step_verb_spec =
    tie.close
    (tie.spec
    (λ c. rw c.in-0.is (record { text-is = λ a b c d. refl; fault-is = λ a b c d. refl }))
    (λ c. rw c.in-1.is (record { text-is = λ a b c d. refl; fault-is = λ a b c d. rw (below a 31, below b 15) }))
    (λ c. rw c.in-2.is (record { text-is = λ a b c d. refl; fault-is = λ a b c d. rw (below a 31, below b 31) }))
    (λ c. rw c.in-3.is (record { text-is = λ a b c d. refl; fault-is = λ a b c d. rw (below a 31, below b 15) }))
    (λ c. rw c.in-4.is (record { text-is = λ a b c d. refl; fault-is = λ a b c d. rw (below a 31) }))
    (λ c.
    let r = c.in_default.in_default-own.rest in
    rw (ne_eqb _ _ r.0.0.0.0.1, ne_eqb _ _ r.0.0.0.1, ne_eqb _ _ r.0.0.1, ne_eqb _ _ r.0.1, ne_eqb _ _ r.1) (record { text-is = λ a b c d. refl; fault-is = λ a b c d. refl })))
