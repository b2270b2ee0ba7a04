-- The ports that a lawful program names.
-- Assumes nothing.
use mathlib.Core.Path.{◌≡◌}
use mathlib.Core.Bool.{true, not}
use mathlib.Core.List.{List}
use Prim.Native.Nat.{ℕ}
use native.Mathlib.Omega.{arith}
use lib.Dec.{eqb}
use borrow.Author.Tests.{leb-true}
use Rattle.sets.proofs.Laws.{all-at}
use Rattle.item_spec.proofs.Tests.{by-test, and_left, and_right}
use Rattle.model.specs.declared.Instruction.{Instruction}
use Rattle.model.specs.Verb.{add_verb, del_verb, pushb_verb, con_verb, dcon_verb, push_ticket_verb, wait_ticket_verb}
use Rattle.read_spec.specs.Limits.{id_ok, port_ok, program_ok, behavior_ok, has_tickets, edition_ok}
use Rattle.read_spec.specs.Lawful.{verb_lawful, instruction_lawful, program_lawful}
use Rattle.rules_spec.specs.Tickets.{instruction_of}
use Rattle.rules_spec.specs.Action.{instruction_action}
use Rattle.rules_spec.specs.Step.{action_at}
use Rattle.step_walk.specs.Fits.{PortFits, LawfulPortsFit}

verb-fits : (k n : ℕ) (l : List ℕ) (x : Instruction) → verb_lawful k n x ≡ true → PortFits (instruction_action l x)
unfolding instruction_action
verb-fits k n l x e =
    by-test (eqb x.verb add_verb) (λ a. rw a tt)
    (λ a. by-test (eqb x.verb del_verb) (λ b. rw (a, b) tt)
    (λ b. by-test (eqb x.verb pushb_verb) (λ d. rw (a, b, d) (omega (arith, leb-true x.number 7 (and_right (not (has_tickets k)) _ (rw (a, d) at e)))))
    (λ d. by-test (eqb x.verb con_verb) (λ f. rw (a, b, d, f) (let g = and_right (port_ok x.number) _ (rw (a, d, f) at e) in omega (arith, leb-true x.provider 31 (and_left (id_ok x.provider) _ g), leb-true x.provideport 15 (and_right (id_ok x.provider) _ g))))
    (λ f. by-test (eqb x.verb dcon_verb) (λ g. rw (a, b, d, f, g) tt)
    (λ g. by-test (eqb x.verb push_ticket_verb)
    (λ h. let z = and_right (has_tickets k) _ (rw (a, d, f, g, h) at e) in
    rw (a, b, d, f, g, h) (omega (arith, leb-true x.number 7 (and_left (behavior_ok x.number) _ z), leb-true x.provider 255 (and_right (behavior_ok x.number) _ z))))
    (λ h. by-test (eqb x.verb wait_ticket_verb) (λ w. rw (a, b, d, f, g, h, w) tt) (λ w. rw (a, b, d, f, g, h, w) tt)))))))

pub lawful-ports-fit : LawfulPortsFit
unfolding LawfulPortsFit program_lawful instruction_lawful action_at
lawful-ports-fit n p e j h =
    verb-fits p.edition n _ (instruction_of p j) (and_right (id_ok (instruction_of p j).id) _
    (all-at p.count (λ k. instruction_lawful p.edition n (instruction_of p k)) (and_right (edition_ok p.edition) _ (and_right (program_ok p.count) _ e)) j h))
