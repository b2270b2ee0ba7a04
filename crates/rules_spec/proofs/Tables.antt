-- Lawful tables and a lawful program, as facts.
-- Assumes nothing.
use mathlib.Core.Path.{◌≡◌, refl, sym, ◌∙◌}
use mathlib.Core.Logic.{by_cases}
use mathlib.Core.Bool.{Bool, true, false, not, ◌&&◌, cond, and-eq-true_iff, false≢true}
use mathlib.Core.List.{List}
use Prim.Native.Nat.{ℕ, ◌^◌, ◌≤◌, ◌<◌}
use native.Mathlib.Omega.{arith}
use native.Mathlib.Decide.{dec_lt}
use lib.Dec.{eqb, leb}
use borrow.Author.Tests.{eqb-true, ltb-true, leb-true, not-true}
use Rattle.sets.specs.Test.{all_below}
use Rattle.sets.specs.Mask.{member, overlaps}
use Rattle.sets.proofs.Laws.{all-at, member-past}
use Rattle.model.specs.declared.Tables.{Tables}
use Rattle.model.specs.declared.Instruction.{Instruction}
use Rattle.model.specs.declared.Program.{Program}
use Rattle.model.specs.View.{type_of, source, destination, behavior_of, port_kind, is_use, group_places, group_transitions}
use Rattle.model.specs.Verb.{add_verb, pushb_verb, push_ticket_verb}
use Rattle.read_spec.specs.Limits.{depth_ok, types_ok, places_ok, transitions_ok, behaviors_ok, ports_ok, program_ok, kind_ok, mask_ok, end_ok, id_ok, behavior_ok, has_tickets, edition_ok, initial_ok}
use Rattle.read_spec.specs.Lawful.{transition_lawful, behavior_lawful, port_lawful, type_lawful, tables_lawful, verb_lawful, instruction_lawful, program_lawful, Lawful}
use Rattle.rules_spec.specs.PushB.{Push, depth_of}
use Rattle.rules_spec.specs.Tickets.{ticket_push, instruction_of}
use Rattle.rules_spec.specs.Action.{Action, add, pushb, plainly, ticketed, instruction_action}
use Rattle.rules_spec.specs.Step.{action_at}
use Rattle.rules_spec.specs.Proper.{slot_limit}
use Rattle.rules_spec.proofs.Actions.{instruction-cases, is_add, is_push, not-push, not-add}

-- of type k
pub record TypeFacts (t : Tables) (k : ℕ) : Type 0 where
  pub places : (type_of t k).places ≤ 16
  pub transitions : (type_of t k).transitions ≤ 32
  pub behaviors : (type_of t k).behaviors ≤ 8
  pub ports : (type_of t k).ports ≤ 16
  pub initial : (x : ℕ) → member x (type_of t k).initial ≡ true → x < (type_of t k).places
  pub source_is : (x : ℕ) → x < (type_of t k).transitions → source t k x < (type_of t k).places
  pub destination-is : (x : ℕ) → x < (type_of t k).transitions → destination t k x < (type_of t k).places
  pub behavior : (b x : ℕ) → b < (type_of t k).behaviors → member x (behavior_of t k b) ≡ true → x < (type_of t k).transitions
  -- a use port's group has no initial place
  pub use-port : (q : ℕ) → q < (type_of t k).ports → is_use t k q ≡ true → overlaps (type_of t k).initial (group_places t k q) ≡ false

pub record Facts (default : ℕ) (t : Tables) (p : Program) : Type 0 where
  pub depth : depth_of default t ≤ 8
  pub count : t.count ≤ 16
  pub types : (k : ℕ) → k < t.count → TypeFacts t k
  pub program : p.count ≤ 256
  -- an `add` has an id below 32 and a type that exists
  pub adds : (n i k : ℕ) → n < p.count → action_at p n ≡ add i k → (i < 32) × (k < t.count)
  -- and what is pushed is within the limit
  pub pushes : (n i : ℕ) (b : Push) → n < p.count → action_at p n ≡ pushb i b → b.slot < slot_limit p

-- a member of a set of members below n
pub in-mask : (n m x : ℕ) → mask_ok n m ≡ true → member x m ≡ true → x < n
in-mask n m x e q =
    by_cases (dec_lt x n) (λ l. l) (λ l. absurd (false≢true (sym (member-past n x m (omega arith) (ltb-true m (2 ^ n) e)) ∙ q)))

both : (a : Bool) {b : Bool} → (a && b) ≡ true → (a ≡ true) × (b ≡ true)
both a {b} = (and-eq-true_iff a b).0

transition-ends : (t : Tables) (k x : ℕ) → transition_lawful t k x ≡ true → (source t k x < (type_of t k).places) × (destination t k x < (type_of t k).places)
unfolding transition_lawful
transition-ends t k x e =
    let (a, rest) = both (end_ok (type_of t k).places (source t k x)) e in
    let (b, _) = both (end_ok (type_of t k).places (destination t k x)) rest in
    (ltb-true _ _ a, ltb-true _ _ b)

port-spared : (t : Tables) (k q : ℕ) → port_lawful t k q ≡ true → is_use t k q ≡ true → overlaps (type_of t k).initial (group_places t k q) ≡ false
unfolding port_lawful
port-spared t k q e u =
    let (_, e₁) = both (mask_ok (type_of t k).places (group_places t k q)) e in
    let (_, e₂) = both (mask_ok (type_of t k).transitions (group_transitions t k q)) e₁ in
    let (_, e₃) = both (kind_ok (port_kind t k q)) e₂ in
    not-true (overlaps (type_of t k).initial (group_places t k q)) (rw u at e₃)

-- what a lawful type keeps to, one by one
pub record Kept (t : Tables) (k : ℕ) : Type 0 where
  pub places : places_ok (type_of t k).places ≡ true
  pub mask : mask_ok (type_of t k).places (type_of t k).initial ≡ true
  pub some : initial_ok (type_of t k).initial ≡ true
  pub transitions : transitions_ok (type_of t k).transitions ≡ true
  pub behaviors : behaviors_ok (type_of t k).behaviors ≡ true
  pub ports : ports_ok (type_of t k).ports ≡ true
  pub transition : (x : ℕ) → x < (type_of t k).transitions → transition_lawful t k x ≡ true
  pub behavior : (x : ℕ) → x < (type_of t k).behaviors → behavior_lawful t k x ≡ true
  pub port : (x : ℕ) → x < (type_of t k).ports → port_lawful t k x ≡ true

pub kept : (t : Tables) (k : ℕ) → type_lawful t k ≡ true → Kept t k
unfolding type_lawful
kept t k e =
    let (places, e₁) = both (places_ok (type_of t k).places) e in
    let (mask, e₂) = both (mask_ok (type_of t k).places (type_of t k).initial) e₁ in
    let (some, e₃) = both (initial_ok (type_of t k).initial) e₂ in
    let (transitions, e₄) = both (transitions_ok (type_of t k).transitions) e₃ in
    let (ends, e₅) = both (all_below (type_of t k).transitions (transition_lawful t k)) e₄ in
    let (behaviors, e₆) = both (behaviors_ok (type_of t k).behaviors) e₅ in
    let (lists, e₇) = both (all_below (type_of t k).behaviors (behavior_lawful t k)) e₆ in
    let (ports, groups) = both (ports_ok (type_of t k).ports) e₇ in
    record {
      places = places;
      mask = mask;
      some = some;
      transitions = transitions;
      behaviors = behaviors;
      ports = ports;
      transition = all-at (type_of t k).transitions (transition_lawful t k) ends;
      behavior = all-at (type_of t k).behaviors (behavior_lawful t k) lists;
      port = all-at (type_of t k).ports (port_lawful t k) groups;
    }

type-facts : (t : Tables) (k : ℕ) → type_lawful t k ≡ true → TypeFacts t k
unfolding behavior_lawful
type-facts t k e =
    let l = kept t k e in
    record {
      places = leb-true _ 16 (both (leb 1 (type_of t k).places) l.places).1;
      transitions = leb-true _ 32 l.transitions;
      behaviors = leb-true _ 8 l.behaviors;
      ports = leb-true _ 16 l.ports;
      initial = λ x q. in-mask (type_of t k).places (type_of t k).initial x l.mask q;
      source_is = λ x h. (transition-ends t k x (l.transition x h)).0;
      destination-is = λ x h. (transition-ends t k x (l.transition x h)).1;
      behavior = λ b x h q. in-mask (type_of t k).transitions (behavior_of t k b) x (l.behavior b h) q;
      use-port = λ q h u. port-spared t k q (l.port q h) u;
    }

add-facts : (f n : ℕ) (x : Instruction) (l : List ℕ) (i k : ℕ) → instruction_lawful f n x ≡ true → instruction_action l x ≡ add i k → (i < 32) × (k < n)
unfolding instruction_lawful is_add
add-facts f n x l i k e =
    instruction-cases (λ a. a ≡ add i k → (i < 32) × (k < n)) x l known (other refl) (λ _. other refl) (other refl) (other refl) (λ _. other refl) (other refl) (other refl)
  where
    known : eqb x.verb add_verb ≡ true → add x.id x.number ≡ add i k → (i < 32) × (k < n)
    known v q =
        let (id, number) = both (id_ok x.id) e in
        let a : x.id ≡ i = cc in
        let b : x.number ≡ k = cc in
        let l = leb-true x.id 31 id in
        let m = ltb-true x.number n (rw v at number) in
        (omega arith, omega arith)

    other : {a : Action} → is_add a ≡ false → a ≡ add i k → (i < 32) × (k < n)
    other e q = absurd (not-add e q)

push-facts : (p : Program) (n : ℕ) (x : Instruction) (l : List ℕ) (i : ℕ) (b : Push) → instruction_lawful p.edition n x ≡ true → instruction_action l x ≡ pushb i b → b.slot < slot_limit p
unfolding instruction_lawful is_push slot_limit
push-facts p n x l i b e =
    instruction-cases (λ a. a ≡ pushb i b → b.slot < slot_limit p) x l (λ _. other refl) (other refl) plain (other refl) (other refl) paired (other refl) (other refl)
  where
    asks : verb_lawful p.edition n x ≡ true
    asks = (both (id_ok x.id) e).1

    plain : eqb x.verb pushb_verb ≡ true → pushb x.id (plainly x) ≡ pushb i b → b.slot < slot_limit p
    plain v q =
        let (none, small) = both (not (has_tickets p.edition)) (rw (eqb-true x.verb pushb_verb v) at asks) in
        let s : x.number ≡ b.slot = cc in
        let l = leb-true x.number 7 small in
        rw (not-true (has_tickets p.edition) none) (omega arith)

    paired : eqb x.verb push_ticket_verb ≡ true → pushb x.id (ticketed l x) ≡ pushb i b → b.slot < slot_limit p
    paired v q =
        let (some, rest) = both (has_tickets p.edition) (rw (eqb-true x.verb push_ticket_verb v) at asks) in
        let (small, few) = both (behavior_ok x.number) rest in
        let s : ticket_push x ≡ b.slot = cc in
        let l = leb-true x.number 7 small in
        let m = leb-true x.provider 255 few in
        rw some (omega arith)

    other : {a : Action} → is_push a ≡ false → a ≡ pushb i b → b.slot < slot_limit p
    other e q = absurd (not-push e q)

-- each instruction's verb asks what it asks
pub program-verbs : (t : Tables) (p : Program) → Lawful t p → (n : ℕ) → n < p.count → verb_lawful p.edition t.count (instruction_of p n) ≡ true
unfolding Lawful program_lawful instruction_lawful
program-verbs t p (_, program) n h =
    let (_, rest) = both (program_ok p.count) program in
    let (_, instructions) = both (edition_ok p.edition) rest in
    (both (id_ok (instruction_of p n).id) (all-at p.count (λ j. instruction_lawful p.edition t.count (instruction_of p j)) instructions n h)).1

depth-of : (b : Bool) (d n : ℕ) → d ≤ 8 → n ≤ 8 → cond b d n ≤ 8
depth-of true d n h g = h
depth-of false d n h g = g

pub facts : (default : ℕ) (t : Tables) (p : Program) → default ≤ 8 → Lawful t p → Facts default t p
unfolding Lawful tables_lawful program_lawful action_at
facts default t p small (tables, program) =
    let (depth, e₁) = both (depth_ok t.depth) tables in
    let (count, types) = both (types_ok t.count) e₁ in
    let (length, rest) = both (program_ok p.count) program in
    let (edition, instructions) = both (edition_ok p.edition) rest in
    let lawful = all-at p.count (λ j. instruction_lawful p.edition t.count (instruction_of p j)) instructions in
    record {
      depth = depth-of (eqb t.depth 0) default t.depth small (leb-true t.depth 8 depth);
      count = leb-true t.count 16 (both (leb 1 t.count) count).1;
      types = λ k h. type-facts t k (all-at t.count (type_lawful t) types k h);
      program = leb-true p.count 256 length;
      adds = λ n i k h q. add-facts p.edition t.count _ _ i k (lawful n h) q;
      pushes = λ n i b h q. push-facts p t.count _ _ i b (lawful n h) q;
    }
