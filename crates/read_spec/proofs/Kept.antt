-- Every kind of line gives a value that keeps to its limits and a rest of the text, or refuses (`Reads`).
-- Assumes nothing.
use Prim.Native.Nat.{ℕ, ◌^◌, ◌≤◌}
use mathlib.Core.List.{List}
use mathlib.Core.Bool.{Bool, true, not, ◌&&◌, ◌||◌, and_assoc}
use mathlib.Core.Path.{◌≡◌, refl, sym, ap, ap₂, ◌∙◌}
use native.Mathlib.Nat.{lt_of_lt_of_le}
use native.Mathlib.Omega.{arith}
use lib.Dec.{eqb}
use lib.Pow.{pow_mono}
use borrow.Author.Tests.{leb-true, lt-ltb, ne_eqb, eqb-false, not-true}
use Rattle.item_spec.specs.Reader.{read_on, bytes, give, check}
use Rattle.item_spec.specs.Read.{Set, one_form, two_form}
use Rattle.item_spec.proofs.Tests.{and_left, and_right}
use Rattle.model.specs.declared.Instruction.{Instruction}
use Rattle.model.specs.declared.Step.{Step}
use Rattle.model.specs.Verb.{add_verb, del_verb, pushb_verb, con_verb, dcon_verb, wait_verb, wait_ticket_verb, fire_verb, end_verb, enter_verb, finish_verb}
use Rattle.read_spec.specs.Limits.{five_digits, list_ok, mask_ok, end_ok, id_ok, place_ok, port_ok, transition_ok, behavior_ok, ticket_ok, has_tickets, edition_ok, kind_ok, type_ok, initial_ok, ends_ok, use_ok}
use Rattle.read_spec.specs.Kinds.{edition_line, due_line, count_line_in, count_line, initial_line, tran_line, behavior_line, group, port_line, an_instruction, do_id, do_number, do_ends, do_ticketed, do_wait, do_push_in, do_wait_in, do_line, a_step, step_id, step_number, step_line}
use Rattle.read_spec.specs.Lawful.{instruction_lawful, step_lawful}
use Rattle.read_spec.proofs.Rests.{form-fault, limit-fault, clause-fault, Reads, Any, told-known, told-if, reads_then, reads-given, reads-give, reads-check, reads-key, reads_on, reads_none}
use Rattle.read_spec.proofs.Shapes.{Masked, reads-one, reads_two, reads_three, reads-four, reads-set, reads-sets}

pub reads-due : (k : List ℕ) (n : ℕ) → Reads Any (due_line k n)
unfolding due_line
reads-due k n = reads_then (reads-key k) (λ _ _. reads_then (reads-one five_digits) (λ a _. λ s. told-known (reads-check (eqb a n) form-fault s) (λ _ _ _. tt)))

pub reads-edition : Reads (λ e. edition_ok e ≡ true) edition_line
unfolding edition_line
reads-edition = reads_then (reads-key (bytes "sheet=")) (λ _ _. reads_then (reads-one five_digits) (λ a _. reads_then (reads-check (edition_ok a) form-fault) (λ _ e. reads-give e)))

pub reads-count-in : (d : ℕ) (k : List ℕ) (limit : ℕ → Bool) → Reads (λ a. limit a ≡ true) (count_line_in d k limit)
unfolding count_line_in
reads-count-in d k limit = reads_then (reads-key k) (λ _ _. reads_then (reads-one d) (λ a _. reads_then (reads-check (limit a) limit-fault) (λ _ e. reads-give e)))

pub reads-count : (k : List ℕ) (limit : ℕ → Bool) → Reads (λ a. limit a ≡ true) (count_line k limit)
reads-count = reads-count-in five_digits

-- ---- inside a type of n places and k transitions, where the initial places are m: what Lawful tests of each slot
abbrev pub SetLawful : ℕ → ℕ → Type 0
SetLawful n m = mask_ok n m ≡ true

abbrev pub InitialLawful : ℕ → ℕ → Type 0
InitialLawful n m = SetLawful n m × (initial_ok m ≡ true)

-- source and destination
abbrev pub EndsLawful : ℕ → ℕ × ℕ → Type 0
EndsLawful n y = end_ok n y.0 && (end_ok n y.1 && ends_ok y.0 y.1) ≡ true

-- kind, places and transitions of a port
abbrev pub PortLawful : ℕ → ℕ → ℕ → ℕ × ℕ × ℕ → Type 0
PortLawful n k m y =
    mask_ok n y.1 && (mask_ok k y.2 && (kind_ok y.0 && (not (eqb y.0 1) || use_ok m y.1))) ≡ true

-- the tests of a list, said of its mask
pub mask-lawful : (n : ℕ) (x : Set) → n ≤ 32 → Masked x → list_ok n x.top ≡ true → SetLawful n x.mask
mask-lawful n x h w e =
    let l = leb-true x.top n e in
    lt-ltb x.mask (2 ^ n) (lt_of_lt_of_le (w (omega arith)).within (pow_mono l))

some-lawful : (x : Set) → x.top ≤ 32 → Masked x → initial_ok x.top ≡ true → initial_ok x.mask ≡ true
some-lawful x h w e =
    let z = eqb-false x.top 0 (not-true (eqb x.top 0) e) in
    ap not (ne_eqb x.mask 0 (λ q. omega (arith, (w h).some (omega (arith, z)))))

pub reads-initial : (n : ℕ) → n ≤ 32 → Reads (InitialLawful n) (initial_line n)
unfolding initial_line
reads-initial n h =
    reads_then (reads-key (bytes "initial=")) (λ _ _. reads_then (reads-set five_digits (omega arith)) (λ l w.
    reads_then (reads-check (list_ok n l.top) limit-fault) (λ _ e. reads_then (reads-check (initial_ok l.top) clause-fault) (λ _ f.
    reads-give (mask-lawful n l h w e, some-lawful l (omega (arith, leb-true l.top n e)) w f)))))

pub reads-tran : (n : ℕ) → Reads (EndsLawful n) (tran_line n)
unfolding tran_line
reads-tran n =
    reads_then (reads-key (bytes "tran=")) (λ _ _. reads_then (reads_two five_digits) (λ y _.
    reads_then (reads-check (end_ok n y.0 && end_ok n y.1) limit-fault) (λ _ e. reads_then (reads-check (ends_ok y.0 y.1) clause-fault) (λ _ f.
    reads-give (sym (and_assoc (end_ok n y.0) (end_ok n y.1) (ends_ok y.0 y.1)) ∙ ap₂ ◌&&◌ e f)))))

pub reads-behavior : (k : ℕ) → k ≤ 32 → Reads (SetLawful k) (behavior_line k)
unfolding behavior_line
reads-behavior k h =
    reads_then (reads-key (bytes "behavior=")) (λ _ _. reads_then (reads-set five_digits (omega arith)) (λ l w.
    reads_then (reads-check (list_ok k l.top) limit-fault) (λ _ e. reads-give (mask-lawful k l h w e))))

reads-group : (n k : ℕ) → n ≤ 32 → k ≤ 32 → Reads (λ (y : ℕ × ℕ). SetLawful n y.0 × SetLawful k y.1) (group n k)
unfolding group
reads-group n k h g =
    reads_then (reads-sets five_digits (omega arith)) (λ y w.
    reads_then (reads-check (list_ok n y.0.top && list_ok k y.1.top) limit-fault) (λ _ e.
    reads-give (mask-lawful n y.0 h w.0 (and_left _ _ e), mask-lawful k y.1 g w.1 (and_right (list_ok n y.0.top) _ e))))

pub reads-port : (n k m : ℕ) → n ≤ 32 → k ≤ 32 → Reads (PortLawful n k m) (port_line n k m)
unfolding port_line
reads-port n k m h g =
    reads_on (bytes "port=use,") (reads_then (reads-group n k h g) (λ y w.
    reads_then (reads-check (use_ok m y.0) clause-fault) (λ _ e. reads-give (ap₂ ◌&&◌ w.0 (ap₂ ◌&&◌ w.1 e)))))
    (reads_on (bytes "port=provide,") (reads_then (reads-group n k h g) (λ y w. reads-give (ap₂ ◌&&◌ w.0 (ap₂ ◌&&◌ w.1 refl))))
    reads_none)

-- ---- what follows a verb: an id; an id and a number
reads-id : {A : Type 0} (P : A → Type 0) (f : ℕ → A) → ((a : ℕ) → id_ok a && true ≡ true → P (f a)) →
    Reads P (λ s. read_on (one_form five_digits s) (λ a. λ s. read_on (check (id_ok a) 3 s) (λ _. give (f a))))
reads-id P f h = reads_then (reads-one five_digits) (λ a _. reads_then (reads-check (id_ok a) limit-fault) (λ _ e. reads-give (h a (ap₂ ◌&&◌ e refl))))

reads-id-number : {A : Type 0} (P : A → Type 0) (f : ℕ → ℕ → A) (limit : ℕ → Bool) → ((a b : ℕ) → id_ok a && limit b ≡ true → P (f a b)) →
    Reads P (λ s. read_on (two_form five_digits s) (λ (y : ℕ × ℕ). λ s. read_on (check (id_ok y.0 && limit y.1) 3 s) (λ _. give (f y.0 y.1))))
reads-id-number P f limit h = reads_then (reads_two five_digits) (λ y _. reads_then (reads-check (id_ok y.0 && limit y.1) limit-fault) (λ _ e. reads-give (h y.0 y.1 e)))

reads-ends : (P : Instruction → Type 0) (v : ℕ) → ((a b c d : ℕ) → id_ok a && (port_ok b && (id_ok c && port_ok d)) ≡ true → P (an_instruction v a b c d)) → Reads P (do_ends v)
unfolding do_ends
reads-ends P v h =
    reads_then (reads-four five_digits) (λ y _.
    reads_then (reads-check (id_ok y.0 && (port_ok y.1 && (id_ok y.2 && port_ok y.3))) limit-fault) (λ _ e. reads-give (h y.0 y.1 y.2 y.3 e)))

reads-push : (e n : ℕ) → Reads (λ x. instruction_lawful e n x ≡ true) (do_push_in e)
unfolding do_number do_ticketed instruction_lawful
reads-push e n s =
    told-if (has_tickets e)
    (λ q. reads_then (reads_three five_digits) (λ y _.
    reads_then (reads-check (id_ok y.0 && (behavior_ok y.1 && ticket_ok y.2)) limit-fault) (λ _ h. reads-give (rw q h))) s)
    (λ q. reads-id-number (λ x. instruction_lawful e n x ≡ true) (λ a b. an_instruction pushb_verb a b 0 0) behavior_ok (λ a b h. rw q h) s)

reads-wait : (e n : ℕ) → Reads (λ x. instruction_lawful e n x ≡ true) (do_wait_in e)
unfolding do_number do_id do_wait instruction_lawful
reads-wait e n s =
    let P : Instruction → Type 0 = λ x. instruction_lawful e n x ≡ true in
    told-if (has_tickets e)
    (λ q. reads-given (reads-one five_digits) (λ a. reads_then (reads-check (id_ok a) limit-fault) (λ _ h. reads-give (ap₂ ◌&&◌ h refl)))
    (reads-id-number P (λ a b. an_instruction wait_ticket_verb a b 0 0) ticket_ok (λ a b h. rw q h)) s)
    (λ q. reads-id P (λ a. an_instruction wait_verb a 0 0 0) (λ a h. h) s)

pub reads-do : (e n : ℕ) → Reads (λ x. instruction_lawful e n x ≡ true) (do_line e n)
unfolding do_line do_number do_id instruction_lawful
reads-do e n =
    let P : Instruction → Type 0 = λ x. instruction_lawful e n x ≡ true in
    reads_on (bytes "do=add,") (reads-id-number P (λ a b. an_instruction add_verb a b 0 0) (type_ok n) (λ a b e. e))
    (reads_on (bytes "do=del,") (reads-id P (λ a. an_instruction del_verb a 0 0 0) (λ a e. e))
    (reads_on (bytes "do=pushb,") (reads-push e n)
    (reads_on (bytes "do=con,") (reads-ends P con_verb (λ a b c d e. e))
    (reads_on (bytes "do=dcon,") (reads-ends P dcon_verb (λ a b c d e. e))
    (reads_on (bytes "do=wait,") (reads-wait e n)
    reads_none)))))

pub reads-step : Reads (λ x. step_lawful x ≡ true) step_line
unfolding step_line step_number step_id step_lawful
reads-step =
    let P : Step → Type 0 = λ x. step_lawful x ≡ true in
    reads_on (bytes "step=next\n") (reads-give refl)
    (reads_on (bytes "step=fire,") (reads-id-number P (λ a b. a_step fire_verb a b) place_ok (λ a b e. e))
    (reads_on (bytes "step=end,") (reads-id-number P (λ a b. a_step end_verb a b) transition_ok (λ a b e. e))
    (reads_on (bytes "step=enter,") (reads-id-number P (λ a b. a_step enter_verb a b) place_ok (λ a b e. e))
    (reads_on (bytes "step=finish,") (reads-id P (λ a. a_step finish_verb a 0) (λ a e. e))
    reads_none))))
