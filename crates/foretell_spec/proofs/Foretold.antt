-- What the names foretell of every walk: each instruction done leaves the names that its number says, and none is done that they forbid.
-- Assumes nothing.
use mathlib.Core.Path.{◌≡◌, refl, sym, ap, ◌∙◌}
use mathlib.Core.Logic.{◌⊎◌, inl, inr, ⊎_elim, ◌≢◌, by_cases}
use mathlib.Core.Bool.{true, false}
use mathlib.Core.List.{List}
use Prim.Native.Nat.{ℕ, zero, suc, ◌+◌, ◌≤◌, ◌<◌}
use native.Mathlib.Omega.{arith}
use native.Mathlib.Decide.{ℕ_discrete, dec_lt}
use lib.Dec.{eqb}
use borrow.Author.Tests.{eqb-true, eq-eqb, ne_eqb, lt-leb, le-leb}
use Rattle.item_spec.proofs.Tests.{and_left}
use Rattle.model.specs.declared.Tables.{Tables}
use Rattle.model.specs.declared.Program.{Program}
use Rattle.model.specs.declared.Step.{Step}
use Rattle.model.specs.declared.Configuration.{Configuration}
use Rattle.model.specs.declared.Stepped.{Stepped}
use Rattle.model.specs.declared.Instruction.{Instruction}
use Rattle.model.specs.Verb.{push_ticket_verb, wait_ticket_verb}
use Rattle.model.specs.View.{with_done}
use Rattle.read_spec.specs.Limits.{has_tickets}
use Rattle.read_spec.specs.Lawful.{verb_lawful, Lawful}
use Rattle.rules_spec.specs.Refusal.{no_instruction_left}
use Rattle.rules_spec.specs.Tickets.{instruction_of, pushed_to, has_stamp}
use Rattle.rules_spec.specs.Wait.{is_queued}
use Rattle.rules_spec.specs.Action.{move_action, effect}
use Rattle.rules_spec.specs.Step.{is_next, action_at, action, step_check_with, check_at, step_check, step_to, step}
use Rattle.rules_spec.specs.Walk.{walk}
use Rattle.rules_spec.proofs.Local.{rest-after}
use Rattle.rules_spec.proofs.Tables.{program-verbs}
use Rattle.rules_spec.proofs.Walks.{step-on, step-stop, walk-keeps, number-facts, after-cases}
use Rattle.foretell_spec.specs.Names.{names_of, next_step, room_for_one, foretold_from, foretold}
use Rattle.foretell_spec.specs.declared.Foretelling.{Foretelling}
use Rattle.demands.proofs.Tickets.{queued-was-pushed}
use Rattle.foretell_spec.specs.Foretold.{Tickets, ByName, Later, reached_by, Foretells, NoneForetold, OneForetold, NextsAreForetold, NumbersForetold, NeverPast}
use Rattle.foretell_spec.proofs.Names.{Tells, HasTicket, tells, move-names, names-after, names-idem}

-- ---- which instructions have tickets
abbrev Has : Type 0 → Program → Type 0
Has T p = (n : ℕ) → n < p.count → HasTicket T (instruction_of p n)

verb-has : (e k : ℕ) (x : Instruction) → verb_lawful e k x ≡ true → HasTicket (has_tickets e ≡ true) x
verb-has e k x law = record {
  pushes = λ v. and_left (has_tickets e) _ (rw (eqb-true x.verb push_ticket_verb v) at law);
  waits = λ v. and_left (has_tickets e) _ (rw (eqb-true x.verb wait_ticket_verb v) at law);
}

-- in a lawful program those of `sheet=2` alone
lawful-has : (t : Tables) (p : Program) → Lawful t p → Has (Tickets p) p
lawful-has t p law n l = verb-has p.edition t.count (instruction_of p n) (program-verbs t p law n l)

-- ---- the names after each instruction
module _ (t : Tables) (p : Program) (c₀ : Configuration) where
  -- the names after the first n instructions
  unfoldable after-names : ℕ → Configuration
  after-names zero = names_of c₀
  after-names (suc n) = names_of (with_done (effect t (after-names n) (action_at p n)) (suc n))

  -- and what they tell of the one after them
  abbrev told : ℕ → ℕ
  told n = check_at room_for_one t (after-names n) (action_at p n)

  -- what f tells of the n instructions from number i on
  record Goes (n i : ℕ) (f : Foretelling) : Type 0 where
    before : (j : ℕ) → i ≤ j → j < f.next → told j ≡ 0
    stops : f.refused ≢ 0 → told f.next ≡ f.refused
    in-range : f.refused ≢ 0 → f.next < i + n
    ends : f.refused ≡ 0 → f.next ≡ i + n
    up : i ≤ f.next

  module _ (z : c₀.done ≡ 0) where
    after-done-is : (n : ℕ) → (after-names n).done ≡ n
    unfolding after-names names_of with_done
    after-done-is zero = z
    after-done-is (suc n) = refl

    names-again : (n : ℕ) → names_of (after-names n) ≡ after-names n
    unfolding after-names
    names-again zero = names-idem c₀
    names-again (suc n) = names-idem _

    -- a `next` on the names
    told_is : (i : ℕ) → i < p.count → step_check room_for_one t p (after-names i) next_step ≡ told i
    unfolding step_check_with action
    told_is i l = rw (after-done-is i, lt-leb p.count i l)

    next-names : (i : ℕ) → step_to t p (after-names i) next_step ≡ with_done (effect t (after-names i) (action_at p i)) (suc i)
    unfolding step_to action
    next-names i = rw (after-done-is i)

    -- the program by itself, after one instruction more
    onward : ℕ → ℕ → Stepped → Foretelling
    onward n i m = elim (eqb m.refused 0) [ true ↦ foretold_from t p n (names_of m.configuration) | false ↦ record { next = i; refused = m.refused } ]

    from_is : (n i : ℕ) → foretold_from t p (suc n) (after-names i) ≡ onward n i (step room_for_one t p (after-names i) next_step)
    unfolding foretold_from onward
    from_is n i = ap (λ (k : ℕ). elim (eqb (step room_for_one t p (after-names i) next_step).refused 0) [ true ↦ foretold_from t p n (names_of (step room_for_one t p (after-names i) next_step).configuration) | false ↦ record { next = k; refused = (step room_for_one t p (after-names i) next_step).refused } ]) (after-done-is i)

    from_on : (n i : ℕ) → i < p.count → told i ≡ 0 → foretold_from t p (suc n) (after-names i) ≡ foretold_from t p n (after-names (suc i))
    unfolding onward after-names
    from_on n i l e =
        from_is n i ∙ ap (onward n i) (step-on room_for_one t p (after-names i) next_step (told_is i l ∙ e))
        ∙ ap (λ (c : Configuration). foretold_from t p n (names_of c)) (next-names i)

    from-stop : (n i : ℕ) → i < p.count → told i ≢ 0 → foretold_from t p (suc n) (after-names i) ≡ record { next = i; refused = told i }
    unfolding onward
    from-stop n i l e =
        let z : step_check room_for_one t p (after-names i) next_step ≢ 0 = λ q. e (sym (told_is i l) ∙ q) in
        from_is n i ∙ ap (onward n i) (step-stop room_for_one t p (after-names i) next_step z)
        ∙ rw (ne_eqb (step_check room_for_one t p (after-names i) next_step) 0 z, onward) (ap (λ (k : ℕ). record { next = i; refused = k }) (told_is i l))

    goes : (n i : ℕ) → i + n ≤ p.count → Goes n i (foretold_from t p n (after-names i))
    unfolding foretold_from
    goes zero i l =
        rw (after-done-is i) record {
          before = λ j a b. absurd (omega arith);
          stops = λ e. absurd (e refl);
          in-range = λ e. absurd (e refl);
          ends = λ e. omega arith;
          up = omega arith;
        }
    goes (suc n) i l =
        by_cases (ℕ_discrete (told i) 0)
        (λ e. rw (from_on n i (omega arith) e) (let g = goes n (suc i) (omega arith) in record {
          before = λ j a b. by_cases (ℕ_discrete j i) (λ q. rw q e) (λ q. g.before j (omega arith) b);
          stops = g.stops;
          in-range = λ z. omega (arith, g.in-range z);
          ends = λ z. omega (arith, g.ends z);
          up = omega (arith, g.up);
        }))
        (λ e. rw (from-stop n i (omega arith) e) record {
          before = λ j a b. absurd (omega arith);
          stops = λ z. refl;
          in-range = λ z. omega arith;
          ends = λ z. absurd (e z);
          up = omega arith;
        })

    f : Foretelling
    f = foretold t p c₀

    all-goes : Goes p.count 0 f
    unfolding foretold f after-names
    all-goes = goes p.count 0 (omega arith)

    -- the names of c are those after the instructions done, and none is done that the names forbid
    record Named (c : Configuration) : Type 0 where
      names : names_of c ≡ after-names c.done
      few : c.done ≤ f.next

    -- T says that there are tickets
    module _ (T : Type 0) (has : Has T p) where
      -- of a wait for one push: what is queued was pushed
      abbrev Past : Configuration → ℕ → Type 0
      Past c n =
          eqb (instruction_of p n).verb wait_ticket_verb ≡ true → is_queued c (instruction_of p n).id (suc (instruction_of p n).number) ≡ true
          → has_stamp (suc (instruction_of p n).number) (pushed_to p (instruction_of p n).id n) ≡ true

      -- what the names of c tell of instruction n
      told_of : (default : ℕ) (c : Configuration) (n : ℕ) → n < p.count
          → Tells T (Past c n) (check_at room_for_one t (names_of c) (action_at p n)) (check_at default t c (action_at p n))
      unfolding action_at
      told_of default c n l = tells T (Past c n) default t c (pushed_to p (instruction_of p n).id n) (instruction_of p n) (has n l) (λ q. q)

      -- the names after n instructions are names, so what they tell is what names tell
      told-by-name : (n : ℕ) → n < p.count → told n ≢ 0 → ByName T (told n)
      told-by-name n l e = rw (names-again n) at ((told_of room_for_one (after-names n) n l).by_name (rw (names-again n) e))

      module _ (default : ℕ) where
        -- of the instruction that is due
        due : (c : Configuration) → names_of c ≡ after-names c.done → c.done < p.count → Tells T (Past c c.done) (told c.done) (check_at default t c (action_at p c.done))
        due c e l = rw (← e) (told_of default c c.done l)

        -- an instruction that passes is one that the names allow
        passes : (c : Configuration) → Named c → c.done < p.count → check_at default t c (action_at p c.done) ≡ 0 → c.done < f.next
        passes c h l e =
            by_cases (dec_lt c.done f.next) (λ x. x)
            (λ x. let at : c.done ≡ f.next = omega (arith, h.few) in
            by_cases (ℕ_discrete f.refused 0)
            (λ z. omega (arith, all-goes.ends z))
            (λ z. let q : told c.done ≡ f.refused = rw at (all-goes.stops z) in
            absurd ((due c h.names l).refuses (λ v. z (sym q ∙ v)) e)))

        keeps : (c : Configuration) (s : Step) → Named c → step_check default t p c s ≡ 0 → Named (step_to t p c s)
        unfolding action with_done after-names
        keeps c s h e =
            let (ok, left) = number-facts default t p c s e in
            after-cases t p Named c s
            (λ n. rw n (goes_on (passes c h (left n) (rw n at ok))))
            (λ n. rw n (stays (rest-after t c (move_action s)).done))
          where
            goes_on : c.done < f.next → Named (with_done (effect t c (action_at p c.done)) (suc c.done))
            goes_on l = record {
              names = names-after t c (action_at p c.done) (suc c.done) ∙ ap (λ (d : Configuration). names_of (with_done (effect t d (action_at p c.done)) (suc c.done))) h.names;
              few = l;
            }

            stays : (effect t c (move_action s)).done ≡ c.done → Named (effect t c (move_action s))
            stays q = record { names = move-names t c s ∙ h.names ∙ ap after-names (sym q); few = omega (arith, h.few) }

        -- every sequence of allowed steps
        named : (ss : List Step) → Named (walk default t p c₀ ss).configuration
        unfolding after-names
        named ss = walk-keeps default t p Named keeps ss c₀ (record { names = rw z refl; few = omega (arith, all-goes.up) })

        -- a `next` where an instruction is left is the instruction
        next-number : (c : Configuration) (s : Step) → is_next s ≡ true → c.done < p.count → step_check default t p c s ≡ check_at default t c (action_at p c.done)
        unfolding step_check_with action
        next-number c s n l = rw (n, lt-leb p.count c.done l)

        next-none : (c : Configuration) (s : Step) → is_next s ≡ true → p.count ≤ c.done → step_check default t p c s ≡ no_instruction_left
        unfolding step_check_with
        next-none c s n l = rw (n, le-leb p.count c.done l)

        none-foretold : (ss : List Step) (s : Step) → f.refused ≡ 0 → is_next s ≡ true
            → ((p.count ≤ (reached_by default t p c₀ ss).done) × (step_check default t p (reached_by default t p c₀ ss) s ≡ no_instruction_left))
            ⊎ (((reached_by default t p c₀ ss).done < p.count) × Later T (step_check default t p (reached_by default t p c₀ ss) s))
        none-foretold ss s e n =
            let c = reached_by default t p c₀ ss in
            let h = named ss in
            by_cases (dec_lt c.done p.count)
            (λ l. inr (l, rw (next-number c s n l) ((due c h.names l).later (all-goes.before c.done (omega arith) (omega (arith, all-goes.ends e))))))
            (λ l. inl (omega arith, next-none c s n (omega arith)))

        one-foretold : (ss : List Step) (s : Step) → (let c = reached_by default t p c₀ ss in c.done < p.count → Past c c.done) → f.refused ≢ 0 → is_next s ≡ true
            → (((reached_by default t p c₀ ss).done ≡ f.next) × (step_check default t p (reached_by default t p c₀ ss) s ≡ f.refused))
            ⊎ (((reached_by default t p c₀ ss).done < f.next) × Later T (step_check default t p (reached_by default t p c₀ ss) s))
        one-foretold ss s past e n =
            let c = reached_by default t p c₀ ss in
            let h = named ss in
            let l : c.done < p.count = omega (arith, h.few, all-goes.in-range e) in
            by_cases (dec_lt c.done f.next)
            (λ k. inr (k, rw (next-number c s n l) ((due c h.names l).later (all-goes.before c.done (omega arith) k))))
            (λ k.
            let q : c.done ≡ f.next = omega (arith, h.few) in
            let w : told c.done ≡ f.refused = rw q (all-goes.stops e) in
            inl (q, next-number c s n l ∙ (due c h.names l).same (past l) (λ v. e (sym w ∙ v)) ∙ w))

    numbers-foretold : Foretells t p f
    numbers-foretold = record {
      none = λ e. omega (arith, all-goes.ends e);
      one = λ e.
          let w = all-goes.stops e in
          let l : f.next < p.count = omega (arith, all-goes.in-range e) in
          (l, λ law. rw w at (told-by-name (Tickets p) (lawful-has t p law) f.next l (λ z. e (sym w ∙ z))));
    }

pub none-foretold-holds : NoneForetold
unfolding NoneForetold f
none-foretold-holds default t p c ss s law z e n = none-foretold t p c z (Tickets p) (lawful-has t p law) default ss s e n

pub one-foretold-holds : OneForetold
unfolding OneForetold f
one-foretold-holds default t p c ss s b e n = one-foretold t p c b.may.permitted.first (Tickets p) has default ss s past e n
  where
    has : Has (Tickets p) p
    has = lawful-has t p b.lawful

    -- what is queued was pushed, so 24 is never told of a push that gets 23
    past : (let d = reached_by default t p c ss in d.done < p.count → Past t p c b.may.permitted.first (Tickets p) has d d.done)
    past l v =
        let x = instruction_of p (reached_by default t p c ss).done in
        queued-was-pushed default t p c ss x.id (suc x.number) b.room b.lawful b.may (b.fits ((has (reached_by default t p c ss).done l).waits v))

pub numbers-foretold-holds : NumbersForetold
unfolding NumbersForetold f
numbers-foretold-holds t p c z = numbers-foretold t p c z

-- here nothing is asked of the program
pub never-past : (default : ℕ) (t : Tables) (p : Program) (c : Configuration) (ss : List Step) → c.done ≡ 0 → (walk default t p c ss).configuration.done ≤ (foretold t p c).next
unfolding f
never-past default t p c ss z = (named t p c z (Unit {0}) (λ n l. record { pushes = λ _. tt; waits = λ _. tt }) default ss).few

pub never-past-holds : NeverPast
unfolding NeverPast
never-past-holds = never-past

pub nexts-are-foretold : NextsAreForetold
unfolding NextsAreForetold NoneForetold OneForetold NumbersForetold
nexts-are-foretold default t p c ss s b n =
    let z = b.may.permitted.first in
    by_cases (ℕ_discrete (foretold t p c).refused 0)
    (λ e.
    let end = (numbers-foretold-holds t p c z).none e in
    let few = never-past default t p c ss z in
    rw (eq-eqb _ 0 e)
    (⊎_elim (λ (l, q). inl (omega (arith, l, end, few), q)) (λ (l, q). inr (omega (arith, l, end), q)) (none-foretold-holds default t p c ss s b.lawful z e n)))
    (λ e. rw (ne_eqb _ 0 e) (one-foretold-holds default t p c ss s b e n))
