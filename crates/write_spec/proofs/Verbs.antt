-- The lines of verbs, `do=` and `step=`, are read as what they say, or refused with their number.
-- Assumes nothing.
use Prim.Native.Nat.{ℕ}
use mathlib.Core.List.{List, [], ◌++◌}
use mathlib.Core.Bool.{Bool, true, false, ◌&&◌, cond, false≢true}
use mathlib.Core.Path.{◌≡◌, refl, sym, ap, subst, ◌∙◌}
use mathlib.Core.Logic.{◌≢◌}
use native.Mathlib.Omega.{arith}
use lib.Dec.{eqb}
use borrow.Author.Tests.{eqb-true}
use Rattle.item_spec.specs.Reader.{got, refused, Reader, read_on, bytes}
use Rattle.item_spec.specs.Read.{key, given, one_form, two_form, three_form, four_form}
use Rattle.item_spec.specs.Write.{one_text, two_text, three_text, four_text}
use Rattle.item_spec.proofs.Tests.{by-test}
use Rattle.item_spec.proofs.Round.{one-round, two-round, three-round, four-round, one_of_two, two-of-three, three-of-two}
use Rattle.read_spec.specs.Limits.{five_digits, id_ok, place_ok, port_ok, transition_ok, type_ok, behavior_ok, ticket_ok, has_tickets}
use Rattle.model.specs.declared.Instruction.{Instruction}
use Rattle.model.specs.declared.Step.{Step}
use Rattle.model.specs.Verb.{add_verb, del_verb, pushb_verb, con_verb, dcon_verb, wait_verb, push_ticket_verb, wait_ticket_verb, next_verb, fire_verb, end_verb, enter_verb, finish_verb}
use Rattle.read_spec.specs.Kinds.{an_instruction, do_id, do_number as do_two, do_ends, do_ticketed, do_wait, do_push_in, do_wait_in, do_line, a_step, step_id, step_number, step_line}
use Rattle.write_spec.specs.Kinds.{limit_fault, do_text, do_fault, step_text, step_fault}
use Rattle.write_spec.specs.Cleared.{spoken, spoken_step}
use Rattle.write_spec.specs.Round.{Digits, DigitsOf, DigitsOfStep}
use Rattle.write_spec.proofs.Says.{SaysLine}
use Rattle.write_spec.proofs.Written.{five, seven, says-limit, says_on, says_other, says_none, says-give}

-- what follows a verb
module _ {B A : Type 0} (shape : Reader B) (y : List ℕ) (v : B) (f : B → Reader A) (n : ℕ) (a : A) where
  says-shape : ((s : List ℕ) → shape (y ++ s) ≡ got v s) → SaysLine (f v) [] n a → SaysLine (λ s. read_on (shape s) f) y n a
  says-shape h g = record { reads = λ e s. ap (λ r. read_on r f) (h s) ∙ g.reads e s; refuses = λ e s. ap (λ r. read_on r f) (h s) ∙ g.refuses e s }

says-id : (v a : ℕ) → Digits a → SaysLine (do_id v) (one_text a) (limit_fault (id_ok a)) (an_instruction v a 0 0 0)
unfolding do_id
says-id v a h = says-shape (one_form five_digits) (one_text a) a _ _ _ (one-round five_digits five seven a h) (says-limit (id_ok a) _)

says-id-number : (v : ℕ) (limit : ℕ → Bool) (a b : ℕ) → Digits a → Digits b → SaysLine (do_two v limit) (two_text a b) (limit_fault (id_ok a && limit b)) (an_instruction v a b 0 0)
unfolding do_two
says-id-number v limit a b h g = says-shape (two_form five_digits) (two_text a b) (a, b) _ _ _ (two-round five_digits five seven a b h g) (says-limit (id_ok a && limit b) _)

says-ends : (v a b c d : ℕ) → Digits a → Digits b → Digits c → Digits d
    → SaysLine (do_ends v) (four_text a b c d) (limit_fault (id_ok a && (port_ok b && (id_ok c && port_ok d)))) (an_instruction v a b c d)
unfolding do_ends
says-ends v a b c d h g i j =
    says-shape (four_form five_digits) (four_text a b c d) (a, b, c, d) _ _ _ (four-round five_digits five seven a b c d h g i j) (says-limit (id_ok a && (port_ok b && (id_ok c && port_ok d))) _)

abbrev pub SaysDo : ℕ → ℕ → Instruction → Type 0
SaysDo ed n x = DigitsOf (spoken x) → SaysLine (do_line ed n) (do_text x) (do_fault ed n x) (spoken x)

-- one of two, by a test
says-true : {A : Type 0} (m other : Reader A) {y : List ℕ} {n : ℕ} {a : A} (b : Bool) → b ≡ true → SaysLine m y n a → SaysLine (λ s. elim b [ true ↦ m s | false ↦ other s ]) y n a
says-true m other true e h = h
says-true m other false e h = absurd (false≢true e)

says-false : {A : Type 0} (m other : Reader A) {y : List ℕ} {n : ℕ} {a : A} (b : Bool) → b ≡ false → SaysLine other y n a → SaysLine (λ s. elim b [ true ↦ m s | false ↦ other s ]) y n a
says-false m other true e h = absurd (false≢true (sym e))
says-false m other false e h = h

-- a text of another form; one of two readers, by what is read there
module _ {B A : Type 0} (shape : Reader B) (f : B → Reader A) (y : List ℕ) (a : A) where
  says-bad : ((s : List ℕ) → shape (y ++ s) ≡ refused 2) → SaysLine (λ s. read_on (shape s) f) y 2 a
  says-bad h = record { reads = λ e s. absurd (omega arith); refuses = λ e s. ap (λ z. read_on z f) (h s) }

  says-given : (other : Reader A) (n : ℕ) (v : B) → ((s : List ℕ) → shape (y ++ s) ≡ got v s) → SaysLine (f v) [] n a → SaysLine (given shape f other) y n a
  says-given other n v h g = record { reads = λ e s. rw (h s, given) (g.reads e s); refuses = λ e s. rw (h s, given) (g.refuses e s) }

  says-else : (other : Reader A) (n : ℕ) → ((s : List ℕ) → shape (y ++ s) ≡ refused 2) → SaysLine other y n a → SaysLine (given shape f other) y n a
  says-else other n h g = record { reads = λ e s. rw (h s, given) (g.reads e s); refuses = λ e s. rw (h s, given) (g.refuses e s) }

-- what follows `pushb,` and `wait,`, with a ticket and without
module _ (e : ℕ) (a : ℕ) (ha : Digits a) where
  says-push : (b : ℕ) → Digits b → SaysLine (do_push_in e) (two_text a b) (cond (has_tickets e) 2 (limit_fault (id_ok a && behavior_ok b))) (an_instruction pushb_verb a b 0 0)
  unfolding do_ticketed
  says-push b hb =
      by-test (has_tickets e)
      (λ q. rw q (says-true do_ticketed (do_two pushb_verb behavior_ok) (has_tickets e) q (says-bad (three_form five_digits) _ (two_text a b) _ (three-of-two five_digits five seven a b ha hb))))
      (λ q. rw q (says-false do_ticketed (do_two pushb_verb behavior_ok) (has_tickets e) q (says-id-number pushb_verb behavior_ok a b ha hb)))

  says-ticketed : (b c : ℕ) → Digits b → Digits c
      → SaysLine (do_push_in e) (three_text a b c) (cond (has_tickets e) (limit_fault (id_ok a && (behavior_ok b && ticket_ok c))) 2) (an_instruction push_ticket_verb a b c 0)
  unfolding do_ticketed do_two
  says-ticketed b c hb hc =
      by-test (has_tickets e)
      (λ q. rw q (says-true do_ticketed (do_two pushb_verb behavior_ok) (has_tickets e) q (says-shape (three_form five_digits) (three_text a b c) (a, b, c) _ _ _ (three-round five_digits five seven a b c ha hb hc) (says-limit (id_ok a && (behavior_ok b && ticket_ok c)) _))))
      (λ q. rw q (says-false do_ticketed (do_two pushb_verb behavior_ok) (has_tickets e) q (says-bad (two_form five_digits) _ (three_text a b c) _ (two-of-three five_digits five seven a b c ha hb))))

  says-whole : SaysLine (do_wait_in e) (one_text a) (limit_fault (id_ok a)) (an_instruction wait_verb a 0 0 0)
  unfolding do_wait
  says-whole =
      by-test (has_tickets e)
      (λ q. says-true do_wait (do_id wait_verb) (has_tickets e) q
      (says-given (one_form five_digits) _ (one_text a) _ _ _ a (one-round five_digits five seven a ha) (says-limit (id_ok a) _)))
      (λ q. says-false do_wait (do_id wait_verb) (has_tickets e) q (says-id wait_verb a ha))

  says-one : (b : ℕ) → Digits b → SaysLine (do_wait_in e) (two_text a b) (cond (has_tickets e) (limit_fault (id_ok a && ticket_ok b)) 2) (an_instruction wait_ticket_verb a b 0 0)
  unfolding do_wait do_id
  says-one b hb =
      by-test (has_tickets e)
      (λ q. rw q (says-true do_wait (do_id wait_verb) (has_tickets e) q
      (says-else (one_form five_digits) _ (two_text a b) _ _ _ (one_of_two five_digits five seven a b ha) (says-id-number wait_ticket_verb ticket_ok a b ha hb))))
      (λ q. rw q (says-false do_wait (do_id wait_verb) (has_tickets e) q (says-bad (one_form five_digits) _ (two_text a b) _ (one_of_two five_digits five seven a b ha))))

module _ (ed n : ℕ) (x : Instruction) where
  -- the verb written out
  as-verb : (v : ℕ) → eqb x.verb v ≡ true → SaysDo ed n (an_instruction v x.id x.number x.provider x.provideport) → SaysDo ed n x
  as-verb v e h = subst (λ (u : ℕ). SaysDo ed n (an_instruction u x.id x.number x.provider x.provideport)) (sym (eqb-true x.verb v e)) h

  says-add : SaysDo ed n (an_instruction add_verb x.id x.number x.provider x.provideport)
  unfolding do_line do_text do_fault spoken key
  says-add (hi, hn, hp, hq) = says_on (bytes "do=add,") _ _ (two_text x.id x.number) _ _ (says-id-number add_verb (type_ok n) x.id x.number hi hn)

  says-del : SaysDo ed n (an_instruction del_verb x.id x.number x.provider x.provideport)
  unfolding do_line do_text do_fault spoken key
  says-del (hi, hn, hp, hq) = says_other (bytes "do=add,") _ _ (bytes "do=del," ++ one_text x.id) _ _ (λ s. refl)
      (says_on (bytes "do=del,") _ _ (one_text x.id) _ _ (says-id del_verb x.id hi))

  says-pushb : SaysDo ed n (an_instruction pushb_verb x.id x.number x.provider x.provideport)
  unfolding do_line do_text do_fault spoken key
  says-pushb (hi, hn, hp, hq) = says_other (bytes "do=add,") _ _ (bytes "do=pushb," ++ two_text x.id x.number) _ _ (λ s. refl)
      (says_other (bytes "do=del,") _ _ (bytes "do=pushb," ++ two_text x.id x.number) _ _ (λ s. refl)
      (says_on (bytes "do=pushb,") _ _ (two_text x.id x.number) _ _ (says-push ed x.id hi x.number hn)))

  says-con : SaysDo ed n (an_instruction con_verb x.id x.number x.provider x.provideport)
  unfolding do_line do_text do_fault spoken key
  says-con (hi, hn, hp, hq) = says_other (bytes "do=add,") _ _ (bytes "do=con," ++ four_text x.id x.number x.provider x.provideport) _ _ (λ s. refl)
      (says_other (bytes "do=del,") _ _ (bytes "do=con," ++ four_text x.id x.number x.provider x.provideport) _ _ (λ s. refl)
      (says_other (bytes "do=pushb,") _ _ (bytes "do=con," ++ four_text x.id x.number x.provider x.provideport) _ _ (λ s. refl)
      (says_on (bytes "do=con,") _ _ (four_text x.id x.number x.provider x.provideport) _ _ (says-ends con_verb x.id x.number x.provider x.provideport hi hn hp hq))))

  says-dcon : SaysDo ed n (an_instruction dcon_verb x.id x.number x.provider x.provideport)
  unfolding do_line do_text do_fault spoken key
  says-dcon (hi, hn, hp, hq) = says_other (bytes "do=add,") _ _ (bytes "do=dcon," ++ four_text x.id x.number x.provider x.provideport) _ _ (λ s. refl)
      (says_other (bytes "do=del,") _ _ (bytes "do=dcon," ++ four_text x.id x.number x.provider x.provideport) _ _ (λ s. refl)
      (says_other (bytes "do=pushb,") _ _ (bytes "do=dcon," ++ four_text x.id x.number x.provider x.provideport) _ _ (λ s. refl)
      (says_other (bytes "do=con,") _ _ (bytes "do=dcon," ++ four_text x.id x.number x.provider x.provideport) _ _ (λ s. refl)
      (says_on (bytes "do=dcon,") _ _ (four_text x.id x.number x.provider x.provideport) _ _ (says-ends dcon_verb x.id x.number x.provider x.provideport hi hn hp hq)))))

  says-wait : SaysDo ed n (an_instruction wait_verb x.id x.number x.provider x.provideport)
  unfolding do_line do_text do_fault spoken key
  says-wait (hi, hn, hp, hq) = says_other (bytes "do=add,") _ _ (bytes "do=wait," ++ one_text x.id) _ _ (λ s. refl)
      (says_other (bytes "do=del,") _ _ (bytes "do=wait," ++ one_text x.id) _ _ (λ s. refl)
      (says_other (bytes "do=pushb,") _ _ (bytes "do=wait," ++ one_text x.id) _ _ (λ s. refl)
      (says_other (bytes "do=con,") _ _ (bytes "do=wait," ++ one_text x.id) _ _ (λ s. refl)
      (says_other (bytes "do=dcon,") _ _ (bytes "do=wait," ++ one_text x.id) _ _ (λ s. refl)
      (says_on (bytes "do=wait,") _ _ (one_text x.id) _ _ (says-whole ed x.id hi))))))

  says-push-ticket : SaysDo ed n (an_instruction push_ticket_verb x.id x.number x.provider x.provideport)
  unfolding do_line do_text do_fault spoken key
  says-push-ticket (hi, hn, hp, hq) = says_other (bytes "do=add,") _ _ (bytes "do=pushb," ++ three_text x.id x.number x.provider) _ _ (λ s. refl)
      (says_other (bytes "do=del,") _ _ (bytes "do=pushb," ++ three_text x.id x.number x.provider) _ _ (λ s. refl)
      (says_on (bytes "do=pushb,") _ _ (three_text x.id x.number x.provider) _ _ (says-ticketed ed x.id hi x.number x.provider hn hp)))

  says-wait-ticket : SaysDo ed n (an_instruction wait_ticket_verb x.id x.number x.provider x.provideport)
  unfolding do_line do_text do_fault spoken key
  says-wait-ticket (hi, hn, hp, hq) = says_other (bytes "do=add,") _ _ (bytes "do=wait," ++ two_text x.id x.number) _ _ (λ s. refl)
      (says_other (bytes "do=del,") _ _ (bytes "do=wait," ++ two_text x.id x.number) _ _ (λ s. refl)
      (says_other (bytes "do=pushb,") _ _ (bytes "do=wait," ++ two_text x.id x.number) _ _ (λ s. refl)
      (says_other (bytes "do=con,") _ _ (bytes "do=wait," ++ two_text x.id x.number) _ _ (λ s. refl)
      (says_other (bytes "do=dcon,") _ _ (bytes "do=wait," ++ two_text x.id x.number) _ _ (λ s. refl)
      (says_on (bytes "do=wait,") _ _ (two_text x.id x.number) _ _ (says-one ed x.id hi x.number hn))))))

  says-unknown : eqb x.verb add_verb ≡ false → eqb x.verb del_verb ≡ false → eqb x.verb pushb_verb ≡ false → eqb x.verb con_verb ≡ false
      → eqb x.verb dcon_verb ≡ false → eqb x.verb wait_verb ≡ false → eqb x.verb push_ticket_verb ≡ false → eqb x.verb wait_ticket_verb ≡ false → SaysDo ed n x
  unfolding do_line do_text do_fault spoken key
  says-unknown a b c d e f g h _ = rw (a, b, c, d, e, f, g, h) (says_other (bytes "do=add,") _ _ (bytes "do=\n") _ _ (λ s. refl) (says_other (bytes "do=del,") _ _ (bytes "do=\n") _ _ (λ s. refl) (says_other (bytes "do=pushb,") _ _ (bytes "do=\n") _ _ (λ s. refl) (says_other (bytes "do=con,") _ _ (bytes "do=\n") _ _ (λ s. refl) (says_other (bytes "do=dcon,") _ _ (bytes "do=\n") _ _ (λ s. refl) (says_other (bytes "do=wait,") _ _ (bytes "do=\n") _ _ (λ s. refl) (says_none (bytes "do=\n") _)))))))

  pub says-do : SaysDo ed n x
  says-do =
      by-test (eqb x.verb add_verb) (λ e. as-verb add_verb e says-add) (λ a.
      by-test (eqb x.verb del_verb) (λ e. as-verb del_verb e says-del) (λ b.
      by-test (eqb x.verb pushb_verb) (λ e. as-verb pushb_verb e says-pushb) (λ c.
      by-test (eqb x.verb con_verb) (λ e. as-verb con_verb e says-con) (λ d.
      by-test (eqb x.verb dcon_verb) (λ e. as-verb dcon_verb e says-dcon) (λ e.
      by-test (eqb x.verb wait_verb) (λ e. as-verb wait_verb e says-wait) (λ f.
      by-test (eqb x.verb push_ticket_verb) (λ e. as-verb push_ticket_verb e says-push-ticket) (λ g.
      by-test (eqb x.verb wait_ticket_verb) (λ e. as-verb wait_ticket_verb e says-wait-ticket) (says-unknown a b c d e f g))))))))

-- ---- a step
says-step-id : (v a : ℕ) → Digits a → SaysLine (step_id v) (one_text a) (limit_fault (id_ok a)) (a_step v a 0)
unfolding step_id
says-step-id v a h = says-shape (one_form five_digits) (one_text a) a _ _ _ (one-round five_digits five seven a h) (says-limit (id_ok a) _)

says-step-number : (v : ℕ) (limit : ℕ → Bool) (a b : ℕ) → Digits a → Digits b → SaysLine (step_number v limit) (two_text a b) (limit_fault (id_ok a && limit b)) (a_step v a b)
unfolding step_number
says-step-number v limit a b h g = says-shape (two_form five_digits) (two_text a b) (a, b) _ _ _ (two-round five_digits five seven a b h g) (says-limit (id_ok a && limit b) _)

abbrev SaysStep : Step → Type 0
SaysStep x = DigitsOfStep (spoken_step x) → SaysLine step_line (step_text x) (step_fault x) (spoken_step x)

module _ (x : Step) where
  as_step : (v : ℕ) → eqb x.verb v ≡ true → SaysStep (a_step v x.id x.number) → SaysStep x
  as_step v e h = subst (λ (u : ℕ). SaysStep (a_step u x.id x.number)) (sym (eqb-true x.verb v e)) h

  says-next : SaysStep (a_step next_verb x.id x.number)
  unfolding step_line step_text step_fault spoken_step key
  says-next h = says_on (bytes "step=next\n") _ _ [] _ _ (says-give _)

  says-fire : SaysStep (a_step fire_verb x.id x.number)
  unfolding step_line step_text step_fault spoken_step key
  says-fire (hi, hn) = says_other (bytes "step=next\n") _ _ (bytes "step=fire," ++ two_text x.id x.number) _ _ (λ s. refl)
      (says_on (bytes "step=fire,") _ _ (two_text x.id x.number) _ _ (says-step-number fire_verb place_ok x.id x.number hi hn))

  says-end : SaysStep (a_step end_verb x.id x.number)
  unfolding step_line step_text step_fault spoken_step key
  says-end (hi, hn) = says_other (bytes "step=next\n") _ _ (bytes "step=end," ++ two_text x.id x.number) _ _ (λ s. refl)
      (says_other (bytes "step=fire,") _ _ (bytes "step=end," ++ two_text x.id x.number) _ _ (λ s. refl)
      (says_on (bytes "step=end,") _ _ (two_text x.id x.number) _ _ (says-step-number end_verb transition_ok x.id x.number hi hn)))

  says-enter : SaysStep (a_step enter_verb x.id x.number)
  unfolding step_line step_text step_fault spoken_step key
  says-enter (hi, hn) = says_other (bytes "step=next\n") _ _ (bytes "step=enter," ++ two_text x.id x.number) _ _ (λ s. refl)
      (says_other (bytes "step=fire,") _ _ (bytes "step=enter," ++ two_text x.id x.number) _ _ (λ s. refl)
      (says_other (bytes "step=end,") _ _ (bytes "step=enter," ++ two_text x.id x.number) _ _ (λ s. refl)
      (says_on (bytes "step=enter,") _ _ (two_text x.id x.number) _ _ (says-step-number enter_verb place_ok x.id x.number hi hn))))

  says-finish : SaysStep (a_step finish_verb x.id x.number)
  unfolding step_line step_text step_fault spoken_step key
  says-finish (hi, hn) = says_other (bytes "step=next\n") _ _ (bytes "step=finish," ++ one_text x.id) _ _ (λ s. refl)
      (says_other (bytes "step=fire,") _ _ (bytes "step=finish," ++ one_text x.id) _ _ (λ s. refl)
      (says_other (bytes "step=end,") _ _ (bytes "step=finish," ++ one_text x.id) _ _ (λ s. refl)
      (says_other (bytes "step=enter,") _ _ (bytes "step=finish," ++ one_text x.id) _ _ (λ s. refl)
      (says_on (bytes "step=finish,") _ _ (one_text x.id) _ _ (says-step-id finish_verb x.id hi)))))

  says-no-step : eqb x.verb next_verb ≡ false → eqb x.verb fire_verb ≡ false → eqb x.verb end_verb ≡ false → eqb x.verb enter_verb ≡ false
      → eqb x.verb finish_verb ≡ false → SaysStep x
  unfolding step_line step_text step_fault spoken_step key
  says-no-step a b c d e h =
      rw (a, b, c, d, e)
      (says_other (bytes "step=next\n") _ _ (bytes "step=\n") _ _ (λ s. refl)
      (says_other (bytes "step=fire,") _ _ (bytes "step=\n") _ _ (λ s. refl)
      (says_other (bytes "step=end,") _ _ (bytes "step=\n") _ _ (λ s. refl)
      (says_other (bytes "step=enter,") _ _ (bytes "step=\n") _ _ (λ s. refl)
      (says_other (bytes "step=finish,") _ _ (bytes "step=\n") _ _ (λ s. refl) (says_none (bytes "step=\n") _))))))

  pub says-step : SaysStep x
  says-step =
      by-test (eqb x.verb next_verb) (λ e. as_step next_verb e says-next) λ a. by-test (eqb x.verb fire_verb) (λ e. as_step fire_verb e says-fire) λ b.
      by-test (eqb x.verb end_verb) (λ e. as_step end_verb e says-end) λ c. by-test (eqb x.verb enter_verb) (λ e. as_step enter_verb e says-enter) λ d.
      by-test (eqb x.verb finish_verb) (λ e. as_step finish_verb e says-finish) (says-no-step a b c d)
