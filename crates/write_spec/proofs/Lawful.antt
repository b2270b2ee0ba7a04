-- Lawful tables and a lawful program have a sheet: none of their lines is refused, and their numbers have few digits.
-- Assumes nothing.
use Prim.Native.Nat.{ℕ, ◌+◌, ◌-◌, ◌*◌, ◌^◌, ◌≤◌, ◌<◌}
use mathlib.Core.Bool.{Bool, true, false, not, ◌&&◌, ◌||◌, and-eq-true_iff, false≢true}
use mathlib.Core.Path.{◌≡◌, refl}
use native.Mathlib.Omega.{arith}
use native.Mathlib.Nat.{lt_of_lt_of_le}
use lib.Pow.{pow_mono}
use lib.Dec.{eqb, leb}
use borrow.Author.Tests.{leb-true, ltb-true, eqb-true, not-true}
use Rattle.sets.proofs.Laws.{all-at}
use Rattle.item_spec.proofs.Tests.{by-test, or-not}
use Rattle.model.specs.declared.Tables.{Tables}
use Rattle.model.specs.declared.Instruction.{Instruction}
use Rattle.model.specs.declared.Program.{Program}
use Rattle.model.specs.View.{type_of}
use Rattle.model.specs.Verb.{add_verb, del_verb, pushb_verb, con_verb, dcon_verb, wait_verb, push_ticket_verb, wait_ticket_verb}
use Rattle.read_spec.specs.Limits.{depth_ok, types_ok, program_ok, mask_ok, end_ok, use_ok, kind_ok, id_ok, port_ok, behavior_ok, has_tickets, edition_ok}
use Rattle.read_spec.specs.Lawful.{transition_lawful, behavior_lawful, port_lawful, type_lawful, tables_lawful, verb_lawful, instruction_lawful, program_lawful, Lawful}
use Rattle.rules_spec.specs.Refusal.{◌⇒◌∣◌}
use Rattle.rules_spec.proofs.Tables.{Kept, kept}
use Rattle.write_spec.specs.Kinds.{limit_fault, edition_fault, initial_fault, tran_fault, behavior_fault, port_fault, do_fault}
use Rattle.write_spec.specs.Texts.{transition_row, behavior_row, port_row, instruction_row, type_fault, sheet_fault}
use Rattle.write_spec.specs.Cleared.{spoken}
use Rattle.write_spec.specs.Round.{Digits, Mask, DigitsOf, Held}
use Rattle.write_spec.proofs.Turns.{first-none}

both : (a : Bool) {b : Bool} → (a && b) ≡ true → (a ≡ true) × (b ≡ true)
both a {b} = (and-eq-true_iff a b).0

limit-none : (b : Bool) → b ≡ true → limit_fault b ≡ 0
limit-none b e = rw e

-- ---- a type
module _ (t : Tables) (i : ℕ) (law : type_lawful t i ≡ true) where
  transition-none : (x : ℕ) → x < (type_of t i).transitions → tran_fault (type_of t i).places (transition_row t (i * 32 + x)) ≡ 0
  unfolding tran_fault transition_lawful
  transition-none x h =
      let (a, e₁) = both (end_ok (type_of t i).places (transition_row t (i * 32 + x)).0) ((kept t i law).transition x h) in
      let (b, e₂) = both (end_ok (type_of t i).places (transition_row t (i * 32 + x)).1) e₁ in
      rw (a, b, e₂)

  behavior-none : (x : ℕ) → x < (type_of t i).behaviors → behavior_fault (type_of t i).transitions (behavior_row t (i * 8 + x)) ≡ 0
  unfolding behavior_fault behavior_lawful
  behavior-none x h = rw ((kept t i law).behavior x h)

  port-none : (x : ℕ) → x < (type_of t i).ports → port_fault (type_of t i).places (type_of t i).transitions (type_of t i).initial (port_row t (i * 16 + x)) ≡ 0
  unfolding port_fault port_lawful
  port-none x h =
      let y = port_row t (i * 16 + x) in
      let (a, e₁) = both (mask_ok (type_of t i).places (port_row t (i * 16 + x)).1) ((kept t i law).port x h) in
      let (b, e₂) = both (mask_ok (type_of t i).transitions (port_row t (i * 16 + x)).2) e₁ in
      let (k, e₃) = both (kind_ok (port_row t (i * 16 + x)).0) e₂ in
      rw (k, a, b) (clause (eqb (port_row t (i * 16 + x)).0 1) (use_ok (type_of t i).initial (port_row t (i * 16 + x)).1) e₃)
    where
      clause : (u w : Bool) → (not u || w) ≡ true → ((u && not w) ⇒ 4 ∣ 0) ≡ 0
      clause true true e = refl
      clause true false e = absurd (false≢true e)
      clause false w e = refl

  type-none : type_fault t i ≡ 0
  unfolding type_fault initial_fault
  type-none =
      rw (
        (kept t i law).places,
        (kept t i law).mask,
        (kept t i law).some,
        (kept t i law).transitions,
        first-none (λ x. tran_fault (type_of t i).places (transition_row t (i * 32 + x))) (type_of t i).transitions transition-none,
        (kept t i law).behaviors,
        first-none (λ x. behavior_fault (type_of t i).transitions (behavior_row t (i * 8 + x))) (type_of t i).behaviors behavior-none,
        (kept t i law).ports,
      )
      (first-none (λ x. port_fault (type_of t i).places (type_of t i).transitions (type_of t i).initial (port_row t (i * 16 + x))) (type_of t i).ports port-none)

-- ---- an instruction
-- what holds of it by each verb that a line says
pub record Told (f n : ℕ) (x : Instruction) : Type 0 where
  pub none : do_fault f n x ≡ 0
  pub digits : DigitsOf (spoken x)

small : (a : ℕ) → id_ok a ≡ true → Digits a
small a e = omega (arith, leb-true a 31 e)

pub told : (f n : ℕ) (x : Instruction) → n ≤ 16 → instruction_lawful f n x ≡ true → Told f n x
unfolding instruction_lawful do_fault spoken
told f n x few e =
    let (id, rest) = both (id_ok x.id) e in
    let i : Digits x.id = small x.id id in
    let z : Digits 0 = omega arith in
    by-test (eqb x.verb add_verb) (λ v. let q = eqb-true x.verb add_verb v in let h = rw q at rest in record { none = rw (q, id, h); digits = rw q (i, omega (arith, ltb-true x.number n h), z, z) })
    λ a. by-test (eqb x.verb pushb_verb) (λ v. let q = eqb-true x.verb pushb_verb v in
    let (k, h) = both (not (has_tickets f)) (rw q at rest) in
    record { none = rw (q, not-true (has_tickets f) k, id, h); digits = rw q (i, omega (arith, leb-true x.number 7 h), z, z) })
    λ b. by-test (eqb x.verb con_verb) (λ v. let q = eqb-true x.verb con_verb v in ends a (rw q) b (rw q) (rw q) id rest)
    λ c. by-test (eqb x.verb dcon_verb) (λ v. let q = eqb-true x.verb dcon_verb v in ends a (rw q) b (rw q) (rw q) id rest)
    λ d. by-test (eqb x.verb push_ticket_verb) (λ v. let q = eqb-true x.verb push_ticket_verb v in
    let (k, h) = both (has_tickets f) (rw q at rest) in
    let (j, l) = both (behavior_ok x.number) h in
    record { none = rw (q, k, id, j, l); digits = rw q (i, omega (arith, leb-true x.number 7 j), omega (arith, leb-true x.provider 255 l), z) })
    λ g. by-test (eqb x.verb wait_ticket_verb) (λ v. let q = eqb-true x.verb wait_ticket_verb v in
    let (k, h) = both (has_tickets f) (rw q at rest) in
    record { none = rw (q, k, id, h); digits = rw q (i, omega (arith, leb-true x.number 255 h), z, z) })
    λ w. let h : (eqb x.verb del_verb || eqb x.verb wait_verb) ≡ true = rw (a, b, c, d, g, w) at rest in
    by-test (eqb x.verb del_verb) (λ v. let q = eqb-true x.verb del_verb v in record { none = rw (q, id); digits = rw q (i, z, z, z) })
    λ y. let q = eqb-true x.verb wait_verb (or-not (eqb x.verb del_verb) _ h y) in record { none = rw (q, id); digits = rw q (i, z, z, z) }
  where
    ends : eqb x.verb add_verb ≡ false → eqb x.verb del_verb ≡ false → eqb x.verb pushb_verb ≡ false → eqb x.verb wait_ticket_verb ≡ false
        → (eqb x.verb con_verb || eqb x.verb dcon_verb) ≡ true → id_ok x.id ≡ true → verb_lawful f n x ≡ true → Told f n x
    ends a d b w c id rest =
        let h = rw (a, b, c) at rest in
        let (q, h₁) = both (port_ok x.number) h in
        let (j, r) = both (id_ok x.provider) h₁ in
        record { none = rw (a, d, b, c, id, q, j, r); digits = rw (a, b, w, c) (small x.id id, omega (arith, leb-true x.number 15 q), small x.provider j, omega (arith, leb-true x.provideport 15 r)) }

pub edition-small : (f : ℕ) → edition_ok f ≡ true → Digits f
edition-small f e = by-test (eqb f 1) (λ q. omega (arith, eqb-true f 1 q)) (λ q. omega (arith, eqb-true f 2 (or-not (eqb f 1) _ e q)))

-- ---- the sheet
pub masked : (n m : ℕ) → n ≤ 32 → mask_ok n m ≡ true → Mask m
masked n m l e = lt_of_lt_of_le (ltb-true m (2 ^ n) e) (pow_mono l)

module _ (t : Tables) (p : Program) (law : Lawful t p) where
  record Sheet : Type 0 where
    depth : depth_ok t.depth ≡ true
    count : types_ok t.count ≡ true
    type : (i : ℕ) → i < t.count → type_lawful t i ≡ true
    program : program_ok p.count ≡ true
    edition : edition_ok p.edition ≡ true
    instruction : (j : ℕ) → j < p.count → instruction_lawful p.edition t.count (instruction_row p j) ≡ true

  parts : Sheet
  unfolding Lawful tables_lawful program_lawful
  parts =
      let (depth, e) = both (depth_ok t.depth) law.0 in
      let (count, types) = both (types_ok t.count) e in
      let (program, rest) = both (program_ok p.count) law.1 in
      let (edition, lines) = both (edition_ok p.edition) rest in
      record {
        depth = depth;
        count = count;
        type = all-at t.count (type_lawful t) types;
        program = program;
        edition = edition;
        instruction = all-at p.count (λ j. instruction_lawful p.edition t.count (instruction_row p j)) lines;
      }

  few : t.count ≤ 16
  few = leb-true t.count 16 (both (leb 1 t.count) parts.count).1

  line-told : (j : ℕ) → j < p.count → Told p.edition t.count (instruction_row p j)
  line-told j h = told p.edition t.count (instruction_row p j) few (parts.instruction j h)

  pub sheet-none : sheet_fault t p ≡ 0
  unfolding sheet_fault edition_fault
  sheet-none =
      rw (parts.edition, parts.depth, parts.count, first-none (type_fault t) t.count (λ i h. type-none t i (parts.type i h)), parts.program)
      (first-none (λ j. do_fault p.edition t.count (instruction_row p j)) p.count (λ j h. (line-told j h).none))

  module _ (i : ℕ) (h : i < t.count) where
    abbrev at : Kept t i
    at = kept t i (parts.type i h)

    places-few : (type_of t i).places ≤ 16
    places-few = leb-true _ 16 (both (leb 1 (type_of t i).places) at.places).1

    transitions-few : (type_of t i).transitions ≤ 32
    transitions-few = leb-true _ 32 at.transitions

    ends : (x : ℕ) → x < (type_of t i).transitions → Digits (transition_row t (i * 32 + x)).0 × Digits (transition_row t (i * 32 + x)).1
    unfolding transition_lawful
    ends x l =
        let (a, e₁) = both (end_ok (type_of t i).places (transition_row t (i * 32 + x)).0) (at.transition x l) in
        let (b, _) = both (end_ok (type_of t i).places (transition_row t (i * 32 + x)).1) e₁ in
        (omega (arith, ltb-true (transition_row t (i * 32 + x)).0 (type_of t i).places a, places-few), omega (arith, ltb-true (transition_row t (i * 32 + x)).1 (type_of t i).places b, places-few))

    lists : (x : ℕ) → x < (type_of t i).behaviors → Mask (behavior_row t (i * 8 + x))
    unfolding behavior_lawful
    lists x l = masked (type_of t i).transitions _ transitions-few (at.behavior x l)

    groups : (x : ℕ) → x < (type_of t i).ports → Mask (port_row t (i * 16 + x)).1 × Mask (port_row t (i * 16 + x)).2
    unfolding port_lawful
    groups x l =
        let (a, e₁) = both (mask_ok (type_of t i).places (port_row t (i * 16 + x)).1) (at.port x l) in
        let (b, _) = both (mask_ok (type_of t i).transitions (port_row t (i * 16 + x)).2) e₁ in
        (masked (type_of t i).places _ (omega (arith, places-few)) a, masked (type_of t i).transitions _ transitions-few b)

  pub sheet-held : Held t p
  sheet-held = record {
    edition = edition-small p.edition parts.edition;
    depth = omega (arith, leb-true t.depth 8 parts.depth);
    count = omega (arith, few);
    places = λ i h. omega (arith, places-few i h);
    initial = λ i h. masked (type_of t i).places _ (omega (arith, places-few i h)) (at i h).mask;
    transitions = λ i h. omega (arith, transitions-few i h);
    behaviors = λ i h. omega (arith, leb-true (type_of t i).behaviors 8 (at i h).behaviors);
    ports = λ i h. omega (arith, leb-true (type_of t i).ports 16 (at i h).ports);
    transition = λ i x h. ends i h x;
    behavior = λ i x h. lists i h x;
    port = λ i x h. groups i h x;
    instructions = omega (arith, leb-true p.count 256 parts.program);
    instruction = λ j h. (line-told j h).digits;
  }
