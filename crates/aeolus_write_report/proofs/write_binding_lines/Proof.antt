-- The lines of all names before r are written.
use Prim.Native.Nat.{◌-◌}
use native.Mathlib.Omega.{arith}
use Rattle.write_items.proofs.Turns.{Turns, turns-none, turns_more, turns-all}
use Rattle.aeolus_model.specs.Words.{universe_in, configuration_in}
use Rattle.item_spec.specs.Write.{in_turn}
use Rattle.aeolus_judge_spec.specs.Report.{bindings_at}
use Rattle.aeolus_write_report.proofs.Names.{no_lines, turns-over}
use borrow.Author.Rules.{rules}
use Rattle.aeolus_write_report.proofs.write_binding_lines.Statement.{statement}
use Rattle.aeolus_write_report.proofs.write_binding_lines.Tie as tie

abbrev invariant-loop : tie.invariant-loop-r
invariant-loop t₀ universe deployed used₀ r₀ t used r = Turns (λ x. in_turn (bindings_at (universe_in universe) (configuration_in deployed) x) 32) 256 r t₀ t used

abbrev decreases-loop : tie.decreases-loop-r
decreases-loop t₀ universe deployed used₀ r₀ t used r = 256 - r

loop-holds : tie.Need-loop-r-init invariant-loop decreases-loop
loop-holds c = let n = c.next_name-r.ensures in turns-over _ turns-none (omega arith) n.most (λ i l h. no_lines _ _ _ _ n i l h)

loop-less : tie.Need-loop-r-smaller invariant-loop decreases-loop
loop-less c = let n = c.next_name-r-in-loop-r.ensures in omega (arith, n.low (omega arith))

loop-again : tie.Need-loop-r-preserved invariant-loop decreases-loop
loop-again c =
    let n = c.next_name-r-in-loop-r.ensures in
    let b = c in
    turns-over _ (turns_more b.loop-r.invariant b.loop-r-test.true b.write_requirers-used.ensures)
    (n.low (omega arith)) n.most (λ i l h. no_lines _ _ _ _ n i l h)

pub write_binding_lines_spec : {M : Type 1} → statement M
write_binding_lines_spec =
    tie.close
    (tie.spec
    invariant-loop decreases-loop (λ c κs. search rules) loop-holds (λ c. search rules) (λ c. search rules) (λ c. search rules) (λ c κs. search rules)
    (λ c. search rules) (λ c. search rules) (λ c κs. search rules) loop-less loop-again (λ c. search rules)
    (λ c. turns-all c.loop-r.invariant c.loop-r-test.false))
