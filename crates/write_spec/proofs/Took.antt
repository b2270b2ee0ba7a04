-- What was read is what is written: a line and a run of lines took the text of what they gave.
-- Assumes nothing.
use Prim.Native.Nat.{ℕ, zero, suc, ◌+◌, ◌≤◌, ◌<◌}
use mathlib.Core.Bool.{Bool, true, false, ◌&&◌}
use mathlib.Core.List.{List, [], ◌∷◌, ◌++◌, append_assoc}
use mathlib.Core.Path.{◌≡◌, refl, sym, ap, ap₂, ◌∙◌}
use native.Mathlib.Omega.{arith}
use native.Mathlib.Nat.{zero-add}
use lib.Dec.{eqb}
use borrow.Author.Tests.{leb-true, eqb-true}
use Rattle.item_spec.specs.Reader.{Reply, Reader, got, refused, read_on, bytes, give, check}
use Rattle.item_spec.specs.Read.{key, upon, one_form, two_form, three_form, four_form, list_form, lists_form}
use Rattle.item_spec.specs.Write.{in_turn, one_text, two_text, three_text, four_text}
use Rattle.item_spec.proofs.Tests.{and_left, and_right}
use Rattle.item_spec.proofs.Laws.{not-got, got-value, got-rest, bound-to}
use Rattle.item_spec.proofs.Back.{key_back, one-back, two_back, three_back, four-back, set_back, sets-back}
use Rattle.model.specs.declared.Instruction.{Instruction}
use Rattle.model.specs.declared.Step.{Step}
use Rattle.model.specs.Verb.{add_verb, del_verb, pushb_verb, con_verb, dcon_verb, wait_verb, push_ticket_verb, wait_ticket_verb, fire_verb, end_verb, enter_verb, finish_verb}
use Rattle.read_spec.specs.Limits.{five_digits, list_ok, end_ok, ends_ok, initial_ok, use_ok, id_ok, place_ok, port_ok, transition_ok, type_ok, behavior_ok, ticket_ok, has_tickets, edition_ok}
use Rattle.read_spec.specs.Lines.{Run, on, stop, Lines, run_on, line, line_of, each, at_end}
use Rattle.read_spec.specs.Lines.{hand_on}
use Rattle.read_spec.specs.Kinds.{edition_line, due_line, count_line_in, count_line, initial_line, tran_line, behavior_line, group, port_line, an_instruction, do_id, do_number, do_ends, do_ticketed, do_wait, do_push_in, do_wait_in, do_line, a_step, step_id, step_number, step_line}
use Rattle.read_spec.proofs.Slots.{Slots, Sound}
use Rattle.report_spec.specs.Report.{count_text}
use Rattle.write_spec.specs.Kinds.{initial_text, tran_text, behavior_text, port_line_text, do_text, step_text, sets_text}
use Rattle.write_spec.proofs.Turns.{in_turn_from, turn-from}

-- ---- lines
-- m takes the text of what it gives, where k was taken before
abbrev pub After : {A : Type 0} → (A → List ℕ) → List ℕ → Reader A → Type 0
After {A} text k m = (s : List ℕ) (a : A) (r : List ℕ) → m s ≡ got a r → k ++ s ≡ text a ++ r

-- a line's reader takes its text
abbrev pub Takes : {A : Type 0} → (A → List ℕ) → Reader A → Type 0
Takes text m = After text [] m

checked : (b : Bool) (n : ℕ) (s : List ℕ) {u : Unit {0}} {t : List ℕ} → check b n s ≡ got u t → (b ≡ true) × (s ≡ t)
checked true n s q = (refl, got-rest q)
checked false n s q = absurd (not-got q)

takes-on : {A : Type 0} (text : A → List ℕ) (k : List ℕ) {m other : Reader A} → After text k m → Takes text other → Takes text (upon k m other)
takes-on {A} text k {m} {other} f g s x r = go (key k s) refl
  where
    go : (z : Reply (Unit {0})) → key k s ≡ z → elim z [ got u r ↦ m r | refused n ↦ other s ] ≡ got x r → s ≡ text x ++ r
    go (got tt t) e q = key_back k s e ∙ f t x r q
    go (refused n) e q = g s x r q

pub takes-tran : (n : ℕ) → Takes tran_text (tran_line n)
unfolding tran_line tran_text
takes-tran n s y r q =
    bound-to (key (bytes "tran=") s) _ q λ _ t e q. bound-to (two_form five_digits t) _ q λ x v f q. bound-to (check (end_ok n x.0 && end_ok n x.1) 3 v) _ q λ _ w g q. bound-to (check (ends_ok x.0 x.1) 4 w) _ q λ _ z h q.
    rw (← got-value q, ← got-rest q, key_back (bytes "tran=") s e, (two_back five_digits (omega arith) t f).0, (checked (end_ok n x.0 && end_ok n x.1) 3 v g).1, (checked (ends_ok x.0 x.1) 4 w h).1) refl

pub takes-behavior : (k : ℕ) → k ≤ 32 → Takes behavior_text (behavior_line k)
unfolding behavior_line behavior_text
takes-behavior k few s y r q =
    bound-to (key (bytes "behavior=") s) _ q λ _ t e q. bound-to (list_form five_digits t) _ q λ x v f q. bound-to (check (list_ok k x.top) 3 v) _ q λ _ w g q.
    let (ok, rest) = checked (list_ok k x.top) 3 v g in
    rw (← got-value q, ← got-rest q, key_back (bytes "behavior=") s e, (set_back five_digits (omega arith) t f (omega (arith, leb-true x.top k ok))).0, rest) refl

takes-group : (n k : ℕ) → n ≤ 32 → k ≤ 32 → Takes (λ (y : ℕ × ℕ). sets_text y.0 y.1) (group n k)
unfolding group
takes-group n k hn hk s y r q =
    bound-to (lists_form five_digits s) _ q λ x v f q. bound-to (check (list_ok n x.0.top && list_ok k x.1.top) 3 v) _ q λ _ w g q.
    let (ok, rest) = checked (list_ok n x.0.top && list_ok k x.1.top) 3 v g in
    rw (← got-value q, ← got-rest q, (sets-back five_digits (omega arith) s f (omega (arith, leb-true x.0.top n (and_left (list_ok n x.0.top) (list_ok k x.1.top) ok))) (omega (arith, leb-true x.1.top k (and_right (list_ok n x.0.top) (list_ok k x.1.top) ok)))).0, rest) refl

port-text : (u a b : ℕ) (k : List ℕ) (y : ℕ × ℕ × ℕ) {s v r : List ℕ} → port_line_text (u, a, b) ≡ k ++ sets_text a b → s ≡ sets_text a b ++ v → (u, a, b) ≡ y → v ≡ r → k ++ s ≡ port_line_text y ++ r
port-text u a b k y {s} {v} {r} is t e f = rw (← e, ← f, is, t) (sym (append_assoc k (sets_text a b) v))

pub takes-port : (n k m : ℕ) → n ≤ 32 → k ≤ 32 → Takes port_line_text (port_line n k m)
unfolding port_line port_line_text
takes-port n k m hn hk =
    takes-on port_line_text (bytes "port=use,") (λ s y r q. bound-to (group n k s) _ q λ x v f q. bound-to (check (use_ok m x.0) 4 v) _ q λ _ w g q.
    port-text 1 x.0 x.1 (bytes "port=use,") y refl (takes-group n k hn hk s x v f) (got-value q) ((checked (use_ok m x.0) 4 v g).1 ∙ got-rest q))
    (takes-on port_line_text (bytes "port=provide,") (λ s y r q. bound-to (group n k s) _ q λ x v f q.
    port-text 0 x.0 x.1 (bytes "port=provide,") y refl (takes-group n k hn hk s x v f) (got-value q) (got-rest q))
    (λ s y r q. absurd (not-got q)))

pub takes-due : (k : List ℕ) (n : ℕ) (s : List ℕ) {u : Unit {0}} {r : List ℕ} → due_line k n s ≡ got u r → s ≡ count_text k n ++ r
unfolding due_line count_text
takes-due k n s q =
    bound-to (key k s) _ q λ _ t e q. bound-to (one_form five_digits t) _ q λ a v f q.
    let (same, rest) = checked (eqb a n) 2 v q in
    rw (key_back k s e, (one-back five_digits (omega arith) t f).0, eqb-true a n same, rest) (sym (append_assoc k (one_text n) _))

pub takes-edition : (s : List ℕ) {n : ℕ} {r : List ℕ} → edition_line s ≡ got n r → (s ≡ count_text (bytes "sheet=") n ++ r) × (edition_ok n ≡ true)
unfolding edition_line count_text
takes-edition s q =
    bound-to (key (bytes "sheet=") s) _ q λ _ t e q. bound-to (one_form five_digits t) _ q λ a v f q. bound-to (check (edition_ok a) 2 v) _ q λ _ w g q.
    let (ok, rest) = checked (edition_ok a) 2 v g in
    rw (← got-value q, ← got-rest q) (rw (key_back (bytes "sheet=") s e, (one-back five_digits (omega arith) t f).0, rest) (sym (append_assoc (bytes "sheet=") (one_text a) w)), ok)

pub takes_count : (k : List ℕ) (limit : ℕ → Bool) (s : List ℕ) {n : ℕ} {r : List ℕ} → count_line k limit s ≡ got n r → (s ≡ count_text k n ++ r) × (limit n ≡ true)
unfolding count_line_in count_text
takes_count k limit s q =
    bound-to (key k s) _ q λ _ t e q. bound-to (one_form five_digits t) _ q λ a v f q. bound-to (check (limit a) 3 v) _ q λ _ w g q.
    let (ok, rest) = checked (limit a) 3 v g in
    rw (← got-value q, ← got-rest q) (rw (key_back k s e, (one-back five_digits (omega arith) t f).0, rest) (sym (append_assoc k (one_text a) w)), ok)

pub takes-initial : (n : ℕ) → n ≤ 32 → Takes initial_text (initial_line n)
unfolding initial_line initial_text
takes-initial n few s y r q =
    bound-to (key (bytes "initial=") s) _ q λ _ t e q. bound-to (list_form five_digits t) _ q λ x v f q. bound-to (check (list_ok n x.top) 3 v) _ q λ _ w g q. bound-to (check (initial_ok x.top) 4 w) _ q λ _ z h q.
    let (ok, rest) = checked (list_ok n x.top) 3 v g in
    rw (← got-value q, ← got-rest q, key_back (bytes "initial=") s e, (set_back five_digits (omega arith) t f (omega (arith, leb-true x.top n ok))).0, rest, (checked (initial_ok x.top) 4 w h).1) refl

-- ---- what follows a verb: a shape with its limits, and what is made of its numbers
module _ {B A : Type 0} (shape : Reader B) (shape_text : B → List ℕ) (back : Takes shape_text shape) where
  takes-shape : (text : A → List ℕ) (k : List ℕ) (limit : B → Bool) (f : B → A) → ((b : B) → text (f b) ≡ k ++ shape_text b)
      → After text k (λ s. read_on (shape s) (λ b. λ s. read_on (check (limit b) 3 s) (λ _. give (f b))))
  takes-shape text k limit f is s x r q =
      bound-to (shape s) _ q λ b t e q. bound-to (check (limit b) 3 t) _ q λ _ w g q.
      rw (← got-value q, ← got-rest q, is b, back s b t e, (checked (limit b) 3 t g).1) (sym (append_assoc k (shape_text b) w))

one-taken : Takes one_text (one_form five_digits)
one-taken s a r e = (one-back five_digits (omega arith) s e).0

two-taken : Takes (λ (a : ℕ × ℕ). two_text a.0 a.1) (two_form five_digits)
two-taken s a r e = (two_back five_digits (omega arith) s e).0

three-taken : Takes (λ (a : ℕ × ℕ × ℕ). three_text a.0 a.1 a.2) (three_form five_digits)
three-taken s a r e = (three_back five_digits (omega arith) s e).0

four-taken : Takes (λ (a : ℕ × ℕ × ℕ × ℕ). four_text a.0 a.1 a.2 a.3) (four_form five_digits)
four-taken s a r e = (four-back five_digits (omega arith) s e).0

module _ (k : List ℕ) (v : ℕ) where
  do-id : ((a : ℕ) → do_text (an_instruction v a 0 0 0) ≡ k ++ one_text a) → After do_text k (do_id v)
  unfolding do_id
  do-id = takes-shape (one_form five_digits) one_text one-taken do_text k id_ok (λ a. an_instruction v a 0 0 0)

  do-two : (limit : ℕ → Bool) → ((a : ℕ × ℕ) → do_text (an_instruction v a.0 a.1 0 0) ≡ k ++ two_text a.0 a.1) → After do_text k (do_number v limit)
  unfolding do_number
  do-two limit = takes-shape (two_form five_digits) (λ a. two_text a.0 a.1) two-taken do_text k (λ a. id_ok a.0 && limit a.1) (λ a. an_instruction v a.0 a.1 0 0)

  do-four : ((a : ℕ × ℕ × ℕ × ℕ) → do_text (an_instruction v a.0 a.1 a.2 a.3) ≡ k ++ four_text a.0 a.1 a.2 a.3) → After do_text k (do_ends v)
  unfolding do_ends
  do-four =
      takes-shape (four_form five_digits) (λ a. four_text a.0 a.1 a.2 a.3) four-taken do_text k
      (λ a. id_ok a.0 && (port_ok a.1 && (id_ok a.2 && port_ok a.3))) (λ a. an_instruction v a.0 a.1 a.2 a.3)

  step-id : ((a : ℕ) → step_text (a_step v a 0) ≡ k ++ one_text a) → After step_text k (step_id v)
  unfolding step_id
  step-id = takes-shape (one_form five_digits) one_text one-taken step_text k id_ok (λ a. a_step v a 0)

  step-two : (limit : ℕ → Bool) → ((a : ℕ × ℕ) → step_text (a_step v a.0 a.1) ≡ k ++ two_text a.0 a.1) → After step_text k (step_number v limit)
  unfolding step_number
  step-two limit = takes-shape (two_form five_digits) (λ a. two_text a.0 a.1) two-taken step_text k (λ a. id_ok a.0 && limit a.1) (λ a. a_step v a.0 a.1)

-- one of two, by a test
takes-if : {A : Type 0} (text : A → List ℕ) (k : List ℕ) {m other : Reader A} (b : Bool) → After text k m → After text k other → After text k (λ s. elim b [ true ↦ m s | false ↦ other s ])
takes-if text k true f g = f
takes-if text k false f g = g

do-push : (e : ℕ) → After do_text (bytes "do=pushb,") (do_push_in e)
unfolding do_ticketed do_text
do-push e =
    takes-if do_text (bytes "do=pushb,") (has_tickets e)
    (takes-shape (three_form five_digits) (λ a. three_text a.0 a.1 a.2) three-taken do_text (bytes "do=pushb,") (λ a. id_ok a.0 && (behavior_ok a.1 && ticket_ok a.2))
    (λ a. an_instruction push_ticket_verb a.0 a.1 a.2 0) (λ a. refl))
    (do-two (bytes "do=pushb,") pushb_verb behavior_ok (λ a. refl))

do-wait : (e : ℕ) → After do_text (bytes "do=wait,") (do_wait_in e)
unfolding do_wait do_id do_text
do-wait e =
    takes-if do_text (bytes "do=wait,") (has_tickets e)
    (λ s x r. go s x r (one_form five_digits s) refl)
    (do-id (bytes "do=wait,") wait_verb (λ a. refl))
  where
    alone : ℕ → Reader Instruction
    alone a = λ s. read_on (check (id_ok a) 3 s) (λ _. give (an_instruction wait_verb a 0 0 0))

    go : (s : List ℕ) (x : Instruction) (r : List ℕ) (z : Reply ℕ) → one_form five_digits s ≡ z
        → elim z [ got a r ↦ alone a r | refused n ↦ do_number wait_ticket_verb ticket_ok s ] ≡ got x r → bytes "do=wait," ++ s ≡ do_text x ++ r
    go s x r (got a t) f q = do-id (bytes "do=wait,") wait_verb (λ a. refl) s x r (ap (λ z. read_on z alone) f ∙ q)
    go s x r (refused n) f q = do-two (bytes "do=wait,") wait_ticket_verb ticket_ok (λ a. refl) s x r q

pub takes-do : (e n : ℕ) → Takes do_text (do_line e n)
unfolding do_line do_text
takes-do e n =
    takes-on do_text (bytes "do=add,") (do-two (bytes "do=add,") add_verb (type_ok n) (λ a. refl))
    (takes-on do_text (bytes "do=del,") (do-id (bytes "do=del,") del_verb (λ a. refl))
    (takes-on do_text (bytes "do=pushb,") (do-push e)
    (takes-on do_text (bytes "do=con,") (do-four (bytes "do=con,") con_verb (λ a. refl))
    (takes-on do_text (bytes "do=dcon,") (do-four (bytes "do=dcon,") dcon_verb (λ a. refl))
    (takes-on do_text (bytes "do=wait,") (do-wait e)
    (λ s x r q. absurd (not-got q)))))))

pub takes_step : Takes step_text step_line
unfolding step_line step_text
takes_step =
    takes-on step_text (bytes "step=next\n") (λ s x r q. ap₂ (λ (y : Step) (t : List ℕ). step_text y ++ t) (got-value q) (got-rest q))
    (takes-on step_text (bytes "step=fire,") (step-two (bytes "step=fire,") fire_verb place_ok (λ a. refl))
    (takes-on step_text (bytes "step=end,") (step-two (bytes "step=end,") end_verb transition_ok (λ a. refl))
    (takes-on step_text (bytes "step=enter,") (step-two (bytes "step=enter,") enter_verb place_ok (λ a. refl))
    (takes-on step_text (bytes "step=finish,") (step-id (bytes "step=finish,") finish_verb (λ a. refl))
    (λ s x r q. absurd (not-got q))))))

-- ---- runs of lines
pub not_on : {A : Type 0} {n : ℕ} {a : A} {s r : List ℕ} → stop n s ≡ on a r → ⊥
not_on {n = n} {a = a} {s = s} {r = r} e = let z : ◌≡◌ {A = ℕ} 0 1 = cc in omega arith

pub on_value : {A : Type 0} {a b : A} {s r : List ℕ} → on a s ≡ on b r → a ≡ b
on_value {a = a} {b = b} {s = s} {r = r} e = cc

pub on-rest : {A : Type 0} {a b : A} {s r : List ℕ} → on a s ≡ on b r → s ≡ r
on-rest {a = a} {b = b} {s = s} {r = r} e = cc

pub run-then : {A B C : Type 0} (x : Run A) (f : A → Lines B) {b : B} {r : List ℕ} → run_on x f ≡ on b r →
    ((a : A) (t : List ℕ) → x ≡ on a t → f a t ≡ on b r → C) → C
run-then (on a t) f q k = k a t refl q
run-then (stop n t) f q k = absurd (not_on q)

line-back : {A : Type 0} (x : Reply A) (s : List ℕ) {a : A} {t : List ℕ} → line_of x s ≡ on a t → x ≡ got a t
line-back (got a t) s e = rw (on_value e, on-rest e) refl
line-back (refused n) s e = absurd (not_on e)

pub line-then : {A B C : Type 0} (m : Reader A) (f : A → Lines B) (s : List ℕ) {b : B} {r : List ℕ} → run_on (line m s) f ≡ on b r →
    ((a : A) (t : List ℕ) → m s ≡ got a t → f a t ≡ on b r → C) → C
line-then m f s q k = run-then (line m s) f q λ a t e. k a t (line-back (m s) s e)

-- the text's end
pub end_back : (s : List ℕ) {u : Unit {0}} {r : List ℕ} → at_end s ≡ on u r → s ≡ []
end_back [] q = refl
end_back (c ∷ s) q = absurd (not_on q)

-- ---- rows: slots from lo on are written, and the text taken is that of what stands there afterwards
module _ {G A : Type 0} (S : Slots G A) (ok : Sound S) (m : Reader A) (text : A → List ℕ) (takes : Takes text m) where
  record Rowed (n lo : ℕ) (g h : G) (s r : List ℕ) : Type 0 where
    is : s ≡ in_turn_from (λ j. text (S.at h j)) n lo ++ r
    below : (j : ℕ) → j < lo → S.at h j ≡ S.at g j
    sized : S.Sized h

  abbrev row_line : ℕ → G → Lines G
  row_line j h = λ s. run_on (line m s) (λ v. hand_on (S.put h j v))

  rowed : (n lo : ℕ) (g h : G) (s r : List ℕ) → lo + n ≤ S.size → S.Sized g → each row_line n lo g s ≡ on h r → Rowed n lo g h s r
  unfolding each in_turn_from
  rowed zero lo g h s r l z q = rw (← on_value q, ← on-rest q) record { is = refl; below = λ j e. refl; sized = z }
  rowed (suc n) lo g h s r l z q =
      run-then (row_line lo g s) _ q λ u v e q. line-then m (λ v. hand_on (S.put g lo v)) s e λ a w f e.
      let p : S.put g lo a ≡ u = on_value e in
      let x = rowed n (suc lo) u h v r (omega arith) (rw (← p) (ok.keeps g lo a z)) q in
      let same : S.at h lo ≡ a = x.below lo (omega arith) ∙ ap (λ (y : G). S.at y lo) (sym p) ∙ ok.same g lo a z (omega arith) in
      record {
        is = takes s a w f ∙ rw (on-rest e, x.is, same) (sym (append_assoc (text a) (in_turn_from (λ j. text (S.at h j)) n (suc lo)) r));
        below = λ j b. x.below j (omega arith) ∙ ap (λ (y : G). S.at y j) (sym p) ∙ ok.other g lo j a (λ e. omega arith);
        sized = x.sized;
      }

  pub record TookRows (n lo : ℕ) (g h : G) (s r : List ℕ) : Type 0 where
    pub is : s ≡ in_turn (λ x. text (S.at h (lo + x))) n ++ r
    pub below : (j : ℕ) → j < lo → S.at h j ≡ S.at g j
    pub sized : S.Sized h

  pub takes-rows : (n lo : ℕ) (g h : G) (s r : List ℕ) → lo + n ≤ S.size → S.Sized g
      → each (λ j h. λ s. run_on (line m s) (λ v. hand_on (S.put h j v))) n lo g s ≡ on h r → TookRows n lo g h s r
  takes-rows n lo g h s r l z q =
      let x = rowed n lo g h s r l z q in
      let f = turn-from lo (λ x. text (S.at h (lo + x))) (λ j. text (S.at h j)) (λ x. refl) n in
      record { is = x.is ∙ ap (λ (l : List ℕ). l ++ r) (sym f); below = x.below; sized = x.sized }

  -- from the first slot on
  pub record TookAll (n : ℕ) (h : G) (s r : List ℕ) : Type 0 where
    pub is : s ≡ in_turn (λ j. text (S.at h j)) n ++ r
    pub sized : S.Sized h

  pub takes_all : (n : ℕ) (g h : G) (s r : List ℕ) → n ≤ S.size → S.Sized g
      → each (λ j h. λ s. run_on (line m s) (λ v. hand_on (S.put h j v))) n 0 g s ≡ on h r → TookAll n h s r
  takes_all n g h s r l z q =
      let x = rowed n 0 g h s r (omega arith) z q in
      let f = turn-from 0 (λ j. text (S.at h j)) (λ j. text (S.at h j)) (λ x. ap (λ (j : ℕ). text (S.at h j)) (sym (zero-add x))) n in
      record { is = x.is ∙ ap (λ (l : List ℕ). l ++ r) (sym f); sized = x.sized }
