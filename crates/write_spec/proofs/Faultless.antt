-- Tables and a program of which no line is refused are lawful.
-- Assumes nothing.
use Prim.Native.Nat.{ℕ, ◌+◌, ◌*◌}
use mathlib.Core.Bool.{Bool, true, false, not, ◌&&◌, ◌||◌}
use mathlib.Core.Path.{◌≡◌, refl}
use native.Mathlib.Omega.{arith}
use lib.Dec.{eqb}
use borrow.Author.Tests.{eqb-true}
use Rattle.sets.proofs.Laws.{all_of}
use Rattle.item_spec.proofs.Tests.{by-test, and_left, and_right}
use Rattle.model.specs.declared.Tables.{Tables}
use Rattle.model.specs.declared.Instruction.{Instruction}
use Rattle.model.specs.declared.Program.{Program}
use Rattle.model.specs.View.{type_of}
use Rattle.model.specs.Verb.{add_verb, del_verb, pushb_verb, con_verb, dcon_verb, wait_verb, push_ticket_verb, wait_ticket_verb}
use Rattle.read_spec.specs.Limits.{depth_ok, types_ok, places_ok, transitions_ok, behaviors_ok, ports_ok, program_ok, mask_ok, end_ok, ends_ok, initial_ok, use_ok, kind_ok, id_ok, port_ok, type_ok, behavior_ok, ticket_ok, has_tickets, edition_ok}
use Rattle.read_spec.specs.Lawful.{transition_lawful, behavior_lawful, port_lawful, type_lawful, tables_lawful, instruction_lawful, program_lawful, Lawful}
use Rattle.rules_spec.specs.Refusal.{◌⇒◌∣◌}
use Rattle.write_spec.specs.Kinds.{limit_fault, edition_fault, initial_fault, tran_fault, behavior_fault, port_fault, do_fault}
use Rattle.write_spec.specs.Texts.{first_of, transition_row, behavior_row, port_row, instruction_row, type_fault, sheet_fault}
use Rattle.write_spec.proofs.Turns.{or-both, first-zero, limit-met, clauses-met}

-- ---- a type
pub port-met : (k p u w : Bool) → (not k ⇒ 2 ∣ not p ⇒ 3 ∣ (u && not w) ⇒ 4 ∣ 0) ≡ 0 → (k ≡ true) × (p ≡ true) × ((not u || w) ≡ true)
port-met true true true true e = (refl, refl, refl)
port-met true true true false e = absurd (omega arith)
port-met true true false w e = (refl, refl, refl)
port-met true false u w e = absurd (omega arith)
port-met false p u w e = absurd (omega arith)

module _ (t : Tables) (i : ℕ) where
  abbrev ends_fault : ℕ → ℕ
  ends_fault x = tran_fault (type_of t i).places (transition_row t (i * 32 + x))

  abbrev list_fault : ℕ → ℕ
  list_fault x = behavior_fault (type_of t i).transitions (behavior_row t (i * 8 + x))

  abbrev group_fault : ℕ → ℕ
  group_fault x = port_fault (type_of t i).places (type_of t i).transitions (type_of t i).initial (port_row t (i * 16 + x))

  transition-lawful : (x : ℕ) → ends_fault x ≡ 0 → transition_lawful t i x ≡ true
  unfolding tran_fault transition_lawful
  transition-lawful x e =
      let y = transition_row t (i * 32 + x) in
      let (ends, apart) = clauses-met (end_ok (type_of t i).places y.0 && end_ok (type_of t i).places y.1) (ends_ok y.0 y.1) e in
      rw (and_left (end_ok (type_of t i).places y.0) (end_ok (type_of t i).places y.1) ends, and_right (end_ok (type_of t i).places y.0) (end_ok (type_of t i).places y.1) ends) apart

  behavior-lawful : (x : ℕ) → list_fault x ≡ 0 → behavior_lawful t i x ≡ true
  unfolding behavior_fault behavior_lawful
  behavior-lawful x e = limit-met _ e

  port-lawful : (x : ℕ) → group_fault x ≡ 0 → port_lawful t i x ≡ true
  unfolding port_fault port_lawful
  port-lawful x e =
      let y = port_row t (i * 16 + x) in
      let (kind, group, clause) = port-met (kind_ok y.0) (mask_ok (type_of t i).places y.1 && mask_ok (type_of t i).transitions y.2) (eqb y.0 1) (use_ok (type_of t i).initial y.1) e in
      rw (and_left (mask_ok (type_of t i).places y.1) (mask_ok (type_of t i).transitions y.2) group, and_right (mask_ok (type_of t i).places y.1) (mask_ok (type_of t i).transitions y.2) group, kind) clause

  type-lawful : type_fault t i ≡ 0 → type_lawful t i ≡ true
  unfolding type_fault type_lawful initial_fault
  type-lawful e =
      let v = type_of t i in
      let (places, e₁) = or-both _ _ e in
      let (initial, e₂) = or-both _ _ e₁ in
      let (transitions, e₃) = or-both _ _ e₂ in
      let (ends, e₄) = or-both (first_of ends_fault v.transitions) _ e₃ in
      let (behaviors, e₅) = or-both _ _ e₄ in
      let (lists, e₆) = or-both (first_of list_fault v.behaviors) _ e₅ in
      let (ports, groups) = or-both (limit_fault (ports_ok v.ports)) (first_of group_fault v.ports) e₆ in
      let (mask, some) = clauses-met (mask_ok v.places v.initial) (initial_ok v.initial) initial in
      rw (
        limit-met (places_ok v.places) places,
        mask,
        some,
        limit-met (transitions_ok v.transitions) transitions,
        all_of v.transitions (transition_lawful t i) (λ x h. transition-lawful x (first-zero ends_fault v.transitions ends x h)),
        limit-met (behaviors_ok v.behaviors) behaviors,
        all_of v.behaviors (behavior_lawful t i) (λ x h. behavior-lawful x (first-zero list_fault v.behaviors lists x h)),
        limit-met (ports_ok v.ports) ports,
      )
      (all_of v.ports (port_lawful t i) (λ x h. port-lawful x (first-zero group_fault v.ports groups x h)))

-- ---- an instruction
pub do-lawful : (f n : ℕ) (x : Instruction) → do_fault f n x ≡ 0 → instruction_lawful f n x ≡ true
unfolding do_fault instruction_lawful
do-lawful f n x e =
    by-test (eqb x.verb add_verb) (λ a. let h = limit-met (id_ok x.id && type_ok n x.number) (rw a at e) in rw (and_left (id_ok x.id) (type_ok n x.number) h, a) (and_right (id_ok x.id) (type_ok n x.number) h))
    λ a. by-test (eqb x.verb del_verb) (λ d. rw (limit-met (id_ok x.id) (rw (a, d) at e), eqb-true x.verb del_verb d))
    λ d. by-test (eqb x.verb pushb_verb) (λ b. by-test (has_tickets f) (λ k. absurd (let z : ◌≡◌ {A = ℕ} 2 0 = rw (a, d, b, k) at e in omega arith))
    (λ k. let h = limit-met (id_ok x.id && behavior_ok x.number) (rw (a, d, b, k) at e) in rw (and_left (id_ok x.id) (behavior_ok x.number) h, a, b, k) (and_right (id_ok x.id) (behavior_ok x.number) h)))
    λ b. by-test (eqb x.verb con_verb || eqb x.verb dcon_verb) (λ c. let h = limit-met (id_ok x.id && ends) (rw (a, d, b, c) at e) in rw (and_left (id_ok x.id) ends h, a, b, c) (and_right (id_ok x.id) ends h))
    λ c. by-test (eqb x.verb wait_verb) (λ w. rw (limit-met (id_ok x.id) (rw (a, d, b, c, w) at e), eqb-true x.verb wait_verb w))
    λ w. by-test (eqb x.verb push_ticket_verb) (λ g. by-test (has_tickets f)
    (λ k. let h = limit-met (id_ok x.id && pair) (rw (a, d, b, c, w, g, k) at e) in rw (and_left (id_ok x.id) pair h, a, b, c, g, k) (and_right (id_ok x.id) pair h))
    (λ k. absurd (let z : ◌≡◌ {A = ℕ} 2 0 = rw (a, d, b, c, w, g, k) at e in omega arith)))
    λ g. by-test (eqb x.verb wait_ticket_verb) (λ i. by-test (has_tickets f)
    (λ k. let h = limit-met (id_ok x.id && ticket_ok x.number) (rw (a, d, b, c, w, g, i, k) at e) in rw (and_left (id_ok x.id) (ticket_ok x.number) h, a, b, c, g, i, k) (and_right (id_ok x.id) (ticket_ok x.number) h))
    (λ k. absurd (let z : ◌≡◌ {A = ℕ} 2 0 = rw (a, d, b, c, w, g, i, k) at e in omega arith)))
    λ i. absurd (let z : ◌≡◌ {A = ℕ} 2 0 = rw (a, d, b, c, w, g, i) at e in omega arith)
  where
    pair : Bool
    pair = behavior_ok x.number && ticket_ok x.provider

    ends : Bool
    ends = port_ok x.number && (id_ok x.provider && port_ok x.provideport)

pub edition-met : (f : ℕ) → edition_fault f ≡ 0 → edition_ok f ≡ true
unfolding edition_fault
edition-met f e = by-test (edition_ok f) (λ k. k) (λ k. absurd (let z : ◌≡◌ {A = ℕ} 2 0 = rw k at e in omega arith))

-- ---- the sheet
pub sheet-lawful : (t : Tables) (p : Program) → sheet_fault t p ≡ 0 → Lawful t p
unfolding sheet_fault Lawful tables_lawful program_lawful
sheet-lawful t p e₀ =
    let (edition, e) = or-both (edition_fault p.edition) _ e₀ in
    let (depth, e₁) = or-both _ _ e in
    let (count, e₂) = or-both _ _ e₁ in
    let (types, e₃) = or-both (first_of (type_fault t) t.count) _ e₂ in
    let (program, lines) = or-both (limit_fault (program_ok p.count)) (first_of (λ j. do_fault p.edition t.count (instruction_row p j)) p.count) e₃ in (
      rw (limit-met (depth_ok t.depth) depth, limit-met (types_ok t.count) count) (all_of t.count (type_lawful t) (λ i h. type-lawful t i (first-zero (type_fault t) t.count types i h))),
      rw (limit-met (program_ok p.count) program, edition-met p.edition edition) (all_of p.count _ (λ j h. do-lawful p.edition t.count (instruction_row p j) (first-zero (λ j. do_fault p.edition t.count (instruction_row p j)) p.count lines j h))),
    )
