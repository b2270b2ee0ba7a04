use lib.Dec.{eqb}
use borrow.Author.Tests.{ne_eqb}
use Rattle.item_spec.proofs.Tests.{by-test}
use Rattle.model.specs.Verb.{push_ticket_verb, wait_ticket_verb}
use Rattle.hall_lawful.proofs.verb_lawful.Statement.{statement}
use Rattle.hall_lawful.proofs.verb_lawful.Tie as tie

returns : tie.Need-returns-in-0
returns c = rw c.in-0.is

returns-2 : tie.Need-returns-in-1
returns-2 c = rw c.in-1.is

returns-3 : tie.Need-returns-in-2
returns-3 c = rw c.in-2.is

returns-4 : tie.Need-returns-in-3
returns-4 c = rw c.in-3.is

returns-5 : tie.Need-returns-in-4
returns-5 c = rw c.in-4.is

returns-6 : tie.Need-returns-in-5
returns-6 c = rw c.in-5.is

returns-7 : tie.Need-returns-in_default
returns-7 c =
    let r = c.in_default.in_default-own.rest in
    rw (
      ne_eqb _ _ r.0.0.0.0.0.1,
      ne_eqb _ _ r.0.0.0.0.1,
      ne_eqb _ _ r.0.0.0.1,
      ne_eqb _ _ r.0.0.1,
      ne_eqb _ _ r.0.1,
      ne_eqb _ _ r.1,
    )
    (by-test (eqb c.args.verb push_ticket_verb) (λ e. rw e) (λ e. rw e (by-test (eqb c.args.verb wait_ticket_verb) (λ f. rw f) (λ f. rw f))))

pub verb_lawful_spec : {M : Type 1} → statement M
verb_lawful_spec =
    tie.close (tie.spec
    returns returns-2 returns-3 returns-4 returns-5 returns-6 returns-7)
