use Rattle.sets.proofs.Members.{rest-start, left, left_less}
use Rattle.aeolus_judge_spec.specs.Report.{binding_text, providers_text}
use Rattle.aeolus_write_report.proofs.Members.{Lines, lines_none, lines_more, lines-all}
use borrow.Author.Rules.{rules}
use Rattle.aeolus_write_report.proofs.write_providers.Statement.{statement}
use Rattle.aeolus_write_report.proofs.write_providers.Tie as tie

abbrev invariant-loop : tie.invariant-loop-rest
invariant-loop t₀ r z m used₀ rest₀ t used rest = Lines (binding_text r z) m rest t₀ t used

abbrev decreases-loop : tie.decreases-loop-rest
decreases-loop t₀ r z m used₀ rest₀ t used rest = left rest

loop-holds : tie.Need-loop-rest-init invariant-loop decreases-loop
loop-holds c = lines_none c.ranges.m.fits

loop-less : tie.Need-loop-rest-smaller invariant-loop decreases-loop
loop-less c =
    let t = c in
    rw c.later-rest.ensures (left_less _ t.loop-rest.rest (rest-start t.loop-rest.rest t.loop-rest.invariant.fits) t.loop-rest-test.true)

loop-again : tie.Need-loop-rest-preserved invariant-loop decreases-loop
unfolding binding_text
loop-again c =
    let w = c in
    let y = c in
    let t = c in
    rw c.later-rest.ensures (lines_more t.loop-rest.invariant t.loop-rest-test.true (rw y.least-y.ensures at w.write_three-used.ensures))

returns : tie.Need-returns invariant-loop decreases-loop
unfolding providers_text
returns c = lines-all c.loop-rest.invariant c.loop-rest-test.false

pub write_providers_spec : {M : Type 1} → statement M
write_providers_spec =
    tie.close
    (tie.spec
    invariant-loop decreases-loop loop-holds (λ c κs. search rules) (λ c. search rules) (λ c. search rules) (λ c. search rules) (λ c κs. search rules)
    (λ c. search rules) (λ c κs. search rules) loop-less loop-again (λ c. c.loop-rest.invariant.same_length) returns)
