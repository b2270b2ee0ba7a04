-- What follows the verb of a `do` line, a transition's row, a port's group and row.
-- Assumes nothing.
use Prim.Native.Nat.{ℕ, suc, ◌+◌, ◌-◌, ◌*◌, zero-le}
use native.Mathlib.Omega.{arith}
use mathlib.Core.List.{List, [], ◌∷◌}
use mathlib.Core.Bool.{Bool, true, false, ◌&&◌, true≢false}
use mathlib.Core.Path.{◌≡◌, refl, sym, ap, ◌∙◌}
use lib.Dec.{eqb, leb-suc-suc, lit<}
use borrow.Author.Tests.{eq-eqb, ne_eqb}
use lib.ListN.{drop}
use Rattle.sets.specs.Mask.{overlaps}
use Rattle.sets.proofs.Laws.{none-overlaps, member-past}
use Rattle.item_spec.specs.Refusal.{bad_clause}
use Rattle.item_spec.specs.Reader.{Reply, got, refused, Reader, read_on, byte, bytes, give, check, ◌>>=◌, ◌>>◌}
use Rattle.item_spec.specs.Read.{given, key, upon, digit, number_from, Set, one_form, two_form, lists_form}
use Rattle.item_spec.proofs.Tests.{by-test}
use Rattle.item_spec.proofs.Laws.{number-none, number-end, number-digit, number-other}
use Rattle.read_items.specs.Reads.{Outcome, past, fault, refusal, Reads}
use Rattle.read_items.specs.declared.numbers.Four.{Four as Numbers}
use Rattle.read_items.specs.declared.numbers.Limits.TheVariants.{One, Two, Three, Four}
use Rattle.read_items.specs.Within.{numbers_within}
use Rattle.read_items.proofs.Shapes.{bind-same, bind-bind}
use Rattle.read_items.proofs.Limits.{limit-kept}
use Rattle.read_items.proofs.Within.{in-turn, one-within, two-within, three-within, four-within}
use Rattle.model.specs.declared.Instruction.{Instruction}
use Rattle.model.specs.Verb.{wait_verb, push_ticket_verb, wait_ticket_verb}
use Rattle.read_spec.specs.Limits.{five_digits, list_ok, use_ok, end_ok, ends_ok, id_ok, port_ok, type_ok, behavior_ok, ticket_ok}
use Rattle.read_spec.specs.Kinds.{tran_line, group, an_instruction, do_id, do_number, do_ends, do_ticketed, do_wait, do_wait_in}
use Rattle.read_sheet_lines.specs.Says.{do_numbers}
use Rattle.read_sheet_lines.specs.declared.Known.{Known}
use Rattle.read_sheet_lines.specs.declared.Row.{Row}
use Rattle.read_sheet_lines.specs.declared.Rows.TheVariants.{Transitions}
use Rattle.read_sheet_lines.specs.Rows.{transition_row, port_row, row_line, port_after}

-- what follows a verb, by the limits of its numbers
module _ (v : ℕ) (t : List ℕ) where
  abbrev numbered : Numbers → Reader Instruction
  numbered n = give (an_instruction v n.first n.second n.third n.fourth)

  pub id-is : do_numbers v (One 32) t ≡ do_id v t
  unfolding do_numbers do_id
  id-is = sym (one-within five_digits numbered t 32 id_ok (λ a. leb-suc-suc a 31))

  pub number_is : (n : ℕ) → do_numbers v (Two 32 n) t ≡ do_number v (type_ok n) t
  unfolding do_numbers do_number
  number_is n = sym (two-within five_digits numbered t 32 n id_ok (type_ok n) (λ a. leb-suc-suc a 31) (λ b. refl))

  -- behaviors run to 7: they are below 8
  pub pushb-is : do_numbers v (Two 32 8) t ≡ do_number v behavior_ok t
  unfolding do_numbers do_number
  pushb-is = sym (two-within five_digits numbered t 32 8 id_ok behavior_ok (λ a. leb-suc-suc a 31) (λ b. leb-suc-suc b 7))

  pub ends_is : do_numbers v (Four 32 16 32 16) t ≡ do_ends v t
  unfolding do_numbers do_ends
  ends_is =
      sym (four-within five_digits numbered t 32 16 32 16 id_ok port_ok id_ok port_ok
      (λ a. leb-suc-suc a 31) (λ b. leb-suc-suc b 15) (λ c. leb-suc-suc c 31) (λ e. leb-suc-suc e 15))

  pub ticketed-is : do_numbers push_ticket_verb (Three 32 8 256) t ≡ do_ticketed t
  unfolding do_numbers do_ticketed
  ticketed-is =
      sym (three-within five_digits (λ n. give (an_instruction push_ticket_verb n.first n.second n.third n.fourth)) t 32 8 256 id_ok behavior_ok ticket_ok
      (λ a. leb-suc-suc a 31) (λ b. leb-suc-suc b 7) (λ c. leb-suc-suc c 255))

  pub ticket_is : do_numbers v (Two 32 256) t ≡ do_number v ticket_ok t
  unfolding do_numbers do_number
  ticket_is = sym (two-within five_digits numbered t 32 256 id_ok ticket_ok (λ a. leb-suc-suc a 31) (λ b. leb-suc-suc b 255))

-- a number is refused with 2 alone
got-refused : {A : Type 0} {a : A} {r : List ℕ} {n : ℕ} → got a r ≡ refused n → ⊥
got-refused {a = a} {r = r} {n = n} e = let z : ◌≡◌ {A = ℕ} 0 1 = cc in omega arith

refused-value : {A : Type 0} {n m : ℕ} → ◌≡◌ {A = Reply A} (refused n) (refused m) → n ≡ m
refused-value {n = n} {m = m} e = cc

number-fault : (d e : ℕ) (s : List ℕ) (k v n : ℕ) → number_from d e k v s ≡ refused n → 2 ≡ n
unfolding number_from
number-fault d e [] k v n q = refused-value q
number-fault d e (c ∷ s) k v n q =
    by-test (eqb c e)
    (λ a. by-test (eqb k 0) (λ b. refused-value (sym (number-none d e k v c s a b) ∙ q)) (λ b. absurd (got-refused (sym (number-end d e k v c s a b) ∙ q))))
    (λ a. by-test (digit d k v c) (λ b. number-fault d e s (suc k) (v * 10 + (c - byte "0")) n (sym (number-digit d e k v c s a b) ∙ q)) (λ b. refused-value (sym (number-other d e k v c s a b) ∙ q)))

-- `wait,id` or `wait,id,ticket`: the second where the first has not the form
alone : ℕ → Reader Instruction
alone a = λ s. read_on (check (id_ok a) 3 s) (λ _. give (an_instruction wait_verb a 0 0 0))

pub wait-other : (t : List ℕ) → do_id wait_verb t ≡ refused 2 → do_wait t ≡ do_number wait_ticket_verb ticket_ok t
unfolding do_wait do_id alone
wait-other t e = go (one_form five_digits t) e
  where
    held : (b : Bool) (a : ℕ) (r : List ℕ) → read_on (check b 3 r) (λ _. give (an_instruction wait_verb a 0 0 0)) ≡ refused 2 → ⊥
    held true a r q = got-refused q
    held false a r q = let z : ◌≡◌ {A = ℕ} 3 2 = refused-value q in omega arith

    go : (z : Reply ℕ) → read_on z alone ≡ refused 2 → elim z [ got a r ↦ alone a r | refused n ↦ do_number wait_ticket_verb ticket_ok t ] ≡ do_number wait_ticket_verb ticket_ok t
    go (got a r) q = absurd (held (id_ok a) a r q)
    go (refused n) q = refl

pub wait-alone : (t : List ℕ) → (do_id wait_verb t ≡ refused 2 → ⊥) → do_wait t ≡ do_id wait_verb t
unfolding do_wait do_id alone one_form
wait-alone t f = go (one_form five_digits t) (λ n e. number-fault five_digits (byte "\n") t 0 0 n e) f
  where
    go : (z : Reply ℕ) → ((n : ℕ) → z ≡ refused n → 2 ≡ n) → (read_on z alone ≡ refused 2 → ⊥) → elim z [ got a r ↦ alone a r | refused n ↦ do_number wait_ticket_verb ticket_ok t ] ≡ read_on z alone
    go (got a r) two f = refl
    go (refused n) two f = absurd (f (ap refused (sym (two n refl))))

-- what was read tells whether the form was not there
formed : {A : Type 0} {s : List ℕ} (o : Outcome A) {m : Reply A} → Reads s o m → (refusal o ≡ 2 → ⊥) → m ≡ refused 2 → ⊥
formed (past a n) h f q = got-refused (h.same ∙ q)
formed (fault k) h f q = f (refused-value (h.same ∙ q))

-- what was read of an id alone, in a sheet that opens with e
module _ (e : ℕ) (t : List ℕ) {s : List ℕ} where
  -- with a ticket
  pub wait-read : e ≡ 2 → Reads s (fault 2) (do_id wait_verb t) → {p : Outcome Instruction} → Reads s p (do_number wait_ticket_verb ticket_ok t)
      → Reads s p (do_wait_in e t)
  wait-read q h l = rw (eq-eqb e 2 q, do_wait_in) (rw (← wait-other t (sym h.same)) at l)

  -- without one, where none may stand or where the form is an id's
  pub wait-plain : (e ≡ 2 → ⊥) → {o : Outcome Instruction} → Reads s o (do_id wait_verb t) → Reads s o (do_wait_in e t)
  wait-plain q h = rw (ne_eqb e 2 q, do_wait_in) h

  pub wait-kept : e ≡ 2 → (o : Outcome Instruction) → Reads s o (do_id wait_verb t) → (refusal o ≡ 2 → ⊥) → Reads s o (do_wait_in e t)
  wait-kept q o h f = rw (eq-eqb e 2 q, do_wait_in) (rw (← wait-alone t (formed o h f)) at h)

-- a transition's row
abbrev pub transition_of : Numbers → Reader Row
transition_of n = do
  check (ends_ok n.first n.second) bad_clause
  give (transition_row n.first n.second)

pub tran-reads : (c : Known) {s : List ℕ} {o : Outcome Row}
    → Reads s o (read_on (key (bytes "tran=") s) (λ _ r. read_on (numbers_within five_digits (Two c.places c.places) r) transition_of)) → Reads s o (row_line Transitions c s)
unfolding row_line tran_line
tran-reads c {s} h =
    record {
      within = h.within;
      same = h.same ∙ in-turn (key (bytes "tran=") s) _ _ _ (λ _ r.
          sym (two-within five_digits transition_of r c.places c.places (end_ok c.places) (end_ok c.places) (λ a. refl) (λ b. refl))
          ∙ in-turn (two_form five_digits r) _ _ _ (λ (a, b) q.
          in-turn (check (end_ok c.places a && end_ok c.places b) 3 q) _ _ _ (λ _ o. in-turn (check (ends_ok a b) 4 o) _ _ _ (λ _ l. refl))));
    }

-- a port's group that keeps to its limits
pub group-kept : (n k : ℕ) {i : ℕ} {a b : Set} (s t : List ℕ) → Reads s (past (a, b) i) (lists_form five_digits t) → list_ok n a.top && list_ok k b.top ≡ true
    → Reads s (past (a.mask, b.mask) i) (group n k t)
unfolding group
group-kept n k s t h p = limit-kept (lists_form five_digits t) _ h (rw p)

-- no port's places overlap the empty set
none-initial : (a : ℕ) → overlaps 0 a ≡ false
none-initial a = none-overlaps 0 a (λ j l e. absurd (true≢false (sym e ∙ member-past 0 j 0 zero-le (lit< tt))))

-- a port's line by its kind, and the row of it
module _ {A B : Type 0} (k : List ℕ) (m : Reader A) (x : Reply A) (f : A → Reader B) {s : List ℕ} {o : Outcome B} where
  pub row_here : {i : ℕ} → Reads s (past tt i) (key k s) → Reads s o (read_on (m (drop i s)) f) → Reads s o (read_on (upon k m (λ _. x) s) f)
  row_here h l = rw (sym h.same, given) l

  pub row_other : {n : ℕ} → Reads s (fault n) (key k s) → Reads s o (read_on x f) → Reads s o (read_on (upon k m (λ _. x) s) f)
  row_other h l = rw (sym h.same, given) l

module _ (u n k : ℕ) (s : List ℕ) where
  pub use-row : (m : ℕ) → port_after u n k m s ≡ read_on ((do (a, b) ← group n k; check (use_ok m a) 4; give (u, a, b)) s) (λ (v, a, b). give (port_row v a b))
  unfolding port_after
  use-row m = sym (bind-bind (group n k s) _ _ ∙ bind-same (group n k s) _ _ (λ p r. bind-bind (check (use_ok m p.0) 4 r) _ _))

  pub provide-row : port_after u n k 0 s ≡ read_on ((do (a, b) ← group n k; give (u, a, b)) s) (λ (v, a, b). give (port_row v a b))
  unfolding port_after
  provide-row = sym (bind-bind (group n k s) _ _ ∙ bind-same (group n k s) _ _ (λ p r. sym (rw (none-initial p.0))))
