-- A refusal names a port just at 34 and 38, the lowest that fails, and at 34 every port is connected.
-- Assumes nothing.
use mathlib.Core.Path.{◌≡◌, refl, sym, ap, ◌∙◌, subst}
use mathlib.Core.Logic.{◌⊎◌, inl, inr, ⊎_elim, by_cases}
use mathlib.Core.Bool.{Bool, true, false, not, ◌&&◌, cond, true≢false, ◌||◌}
use mathlib.Core.List.{List, [], ◌∷◌}
use Prim.Native.Nat.{ℕ, ◌<◌}
use native.Mathlib.Omega.{arith}
use native.Mathlib.Decide.{ℕ_discrete}
use lib.Dec.{T, eqb, leb}
use borrow.Author.Tests.{eqb-true, not-false}
use Rattle.sets.specs.Test.{any_below, lowest}
use Rattle.sets.proofs.Laws.{any_none}
use Rattle.sets.proofs.Lowest.{lowest-holds}
use Rattle.item_spec.proofs.Tests.{by-test, or-not}
use Rattle.model.specs.declared.Tables.{Tables}
use Rattle.model.specs.declared.Program.{Program}
use Rattle.model.specs.declared.Step.{Step}
use Rattle.model.specs.declared.Instance.{Instance}
use Rattle.model.specs.declared.Configuration.{Configuration}
use Rattle.model.specs.declared.Concerned.{Concerned}
use Rattle.model.specs.declared.Stepped.{Stepped}
use Rattle.model.specs.declared.Concerned.TheVariants.{NoPort, UsePort}
use Rattle.model.specs.View.{instance}
use Rattle.rules_spec.specs.Refusal.{◌⇒◌∣◌, allowed, no_instruction_left, unserved, provider_refusing, service_in_use, unconnected, or_number}
use Rattle.rules_spec.specs.Standing.{Standing, standing, some_connection}
use Rattle.rules_spec.specs.Instance.{ports_of}
use Rattle.rules_spec.specs.Ports.{is_of, fails_unconnected, fails_unserved, fails_refusing, fails_in_use, port_check, concerned}
use Rattle.rules_spec.specs.Add.{add_check}
use Rattle.rules_spec.specs.Del.{del_check}
use Rattle.rules_spec.specs.PushB.{pushb_check}
use Rattle.rules_spec.specs.Con.{con_check}
use Rattle.rules_spec.specs.DCon.{dcon_check}
use Rattle.rules_spec.specs.Wait.{wait_check}
use Rattle.rules_spec.specs.Fire.{fire_row, leavers, fire_check, after_fire}
use Rattle.rules_spec.specs.End.{end_check}
use Rattle.rules_spec.specs.Enter.{enter_row, enterers, enter_check, after_enter}
use Rattle.rules_spec.specs.Finish.{finish_row, finish_check}
use Rattle.rules_spec.specs.Action.{Action, add, del, pushb, con, dcon, wait, fire, end, enter, finish, action_check, concern}
use Rattle.rules_spec.specs.Step.{is_next, action, step_check_with, step_check, step_to, step}
use Rattle.rules_spec.specs.Walk.{one_more, walk}
use Rattle.rules_spec.specs.Proper.{Proper}
use Rattle.rules_spec.specs.Named.{Moves, Names, NamesTheLowest, PortThenAlone, ConnectedAt34}
use Rattle.rules_spec.proofs.Tables.{Facts}
use Rattle.rules_spec.proofs.Allowed.{meets}
use Rattle.rules_spec.proofs.Proper.{step-proper}
use Rattle.rules_spec.proofs.Walks.{step-on, step-stop, walk-cases}

-- ---- 34 and 38 come from the ports alone

abbrev ported : ℕ → Bool
ported n = eqb n unserved || eqb n unconnected

-- a number that is neither
record Other (n : ℕ) : Type 0 where
  is : ported n ≡ false

none : Other 0
none = record { is = refl }

row : (b : Bool) (n m : ℕ) → T (not (ported n)) → Other m → Other (b ⇒ n ∣ m)
row true n m h f = record { is = not_so (ported n) h }
  where
    not_so : (b : Bool) → T (not b) → b ≡ false
    not_so true h = absurd h
    not_so false h = refl
row false n m h f = f

ruleset others = (row, none)

both : {n : ℕ} {W : Type 0} → Other n → ported n ≡ true → W
both o e = absurd (true≢false (sym e ∙ o.is))

-- after a row that gives neither
or-ported : (a b n : ℕ) → Other a → or_number a b ≡ n → ported n ≡ true → (a ≡ 0) × (b ≡ n)
or-ported a b n o e h = go (eqb a 0) refl e
  where
    go : (z : Bool) → eqb a 0 ≡ z → cond z b a ≡ n → (a ≡ 0) × (b ≡ n)
    go true q f = (eqb-true a 0 q, f)
    go false q f = both (subst Other f o) h

next-ported : (b : Bool) (m n : ℕ) → cond b no_instruction_left m ≡ n → ported n ≡ true → m ≡ n
next-ported true m n e h = both (subst Other e (record { is = refl })) h
next-ported false m n e h = e

-- who moves, and that its ports gave the number
pub record Asked (t : Tables) (x : Standing) (c : Configuration) (a : Action) (n : ℕ) : Type 0 where
  pub id : ℕ
  pub after : Instance
  pub moves : Moves t c a id after
  pub present : (instance c id).present ≡ true
  pub checked : port_check t x c id (instance c id) after ≡ n
  pub about : concern t x c a n ≡ concerned t x c id (instance c id) after n

-- a move whose row gives neither: its ports gave the number
at-ports : (t : Tables) (x : Standing) (c : Configuration) (a : Action) (n i : ℕ) (w : Instance) (row : ℕ) → Moves t c a i w → Other row
    → (row ≡ 0 → (instance c i).present ≡ true) → concern t x c a n ≡ concerned t x c i (instance c i) w n
    → or_number row (port_check t x c i (instance c i) w) ≡ n → ported n ≡ true → Asked t x c a n
at-ports t x c a n i w row moves o here about e h =
    let (passed, checked) = or-ported row _ n o e h in
    record { id = i; after = w; moves = moves; present = here passed; checked = checked; about = about }

asked : (default : ℕ) (t : Tables) (x : Standing) (c : Configuration) (a : Action) (n : ℕ) → action_check default t x c a ≡ n → ported n ≡ true → Asked t x c a n
unfolding action_check add_check del_check pushb_check con_check dcon_check wait_check fire_check fire_row end_check enter_check enter_row finish_check finish_row concern
asked default t x c (fire i p) n e h =
    at-ports t x c (fire i p) n i (after_fire t c i p) (fire_row (instance c i) p (leavers t c i p)) (p, inl (refl, refl))
    (search others depth 8) (λ o. (meets (instance c i).present _ o).0) refl e h
asked default t x c (enter i p) n e h =
    at-ports t x c (enter i p) n i (after_enter t c i p) (enter_row (instance c i) p (enterers t c i p)) (p, inr (refl, refl))
    (search others depth 8) (λ o. (meets (instance c i).present _ o).0) refl e h
asked default t x c (add i k) n e h = both (subst Other e (search others)) h
asked default t x c (del i) n e h = both (subst Other e (search others)) h
asked default t x c (pushb i b) n e h = both (subst Other e (search others)) h
asked default t x c (con k) n e h = both (subst Other e (search others depth 8)) h
asked default t x c (dcon k) n e h = both (subst Other e (search others)) h
asked default t x c (wait i) n e h = both (subst Other e (search others)) h
asked default t x c (end i y) n e h = both (subst Other e (search others)) h
asked default t x c (finish i) n e h = both (subst Other e (search others)) h

-- of a step
pub step-asked : (default : ℕ) (t : Tables) (p : Program) (c : Configuration) (s : Step) (n : ℕ) → (step default t p c s).refused ≡ n → ported n ≡ true
    → Asked t (standing c) c (action p c s) n × ((step default t p c s).port ≡ concern t (standing c) c (action p c s) n)
unfolding step_check_with
step-asked default t p c s n e h =
    by_cases (ℕ_discrete (step_check default t p c s) 0)
    (λ z. both (subst Other (sym (ap (λ (m : Stepped). m.refused) (step-on default t p c s z)) ∙ e) none) h)
    (λ z.
    let is : step_check default t p c s ≡ n = sym (ap (λ (m : Stepped). m.refused) (step-stop default t p c s z)) ∙ e in (
      asked default t (standing c) c (action p c s) n (next-ported (is_next s && leb p.count c.done) _ n is h) h,
      ap (λ (m : Stepped). m.port) (step-stop default t p c s z) ∙ ap (concern t (standing c) c (action p c s)) is,
    ))

-- ---- by the rows of the port check

at-unconnected : (a b d e : Bool) → (a ⇒ unconnected ∣ b ⇒ unserved ∣ d ⇒ provider_refusing ∣ e ⇒ service_in_use ∣ allowed) ≡ unconnected → a ≡ true
at-unconnected true b d e q = refl
at-unconnected false true d e q = absurd (omega arith)
at-unconnected false false true e q = absurd (omega arith)
at-unconnected false false false true q = absurd (omega arith)
at-unconnected false false false false q = absurd (omega arith)

at-unserved : (a b d e : Bool) → (a ⇒ unconnected ∣ b ⇒ unserved ∣ d ⇒ provider_refusing ∣ e ⇒ service_in_use ∣ allowed) ≡ unserved → (a ≡ false) × (b ≡ true)
at-unserved true b d e q = absurd (omega arith)
at-unserved false true d e q = (refl, refl)
at-unserved false false true e q = absurd (omega arith)
at-unserved false false false true q = absurd (omega arith)
at-unserved false false false false q = absurd (omega arith)

module _ (t : Tables) (x : Standing) (c : Configuration) (i : ℕ) (v w : Instance) where
  unconnected-row : port_check t x c i v w ≡ unconnected → any_below (ports_of t v) (fails_unconnected t x c i w) ≡ true
  unfolding port_check
  unconnected-row = at-unconnected (any_below (ports_of t v) (fails_unconnected t x c i w)) (any_below (ports_of t v) (fails_unserved t x c i w)) (any_below (ports_of t v) (fails_refusing t x c i v w)) (any_below (ports_of t v) (fails_in_use t x c i v w))

  unserved-row : port_check t x c i v w ≡ unserved
      → (any_below (ports_of t v) (fails_unconnected t x c i w) ≡ false) × (any_below (ports_of t v) (fails_unserved t x c i w) ≡ true)
  unfolding port_check
  unserved-row = at-unserved (any_below (ports_of t v) (fails_unconnected t x c i w)) (any_below (ports_of t v) (fails_unserved t x c i w)) (any_below (ports_of t v) (fails_refusing t x c i v w)) (any_below (ports_of t v) (fails_in_use t x c i v w))

-- the lowest port that fails, by the number that its ports gave
lowest-named : (t : Tables) (c : Configuration) (a : Action) (n : ℕ) (fails : ℕ → Instance → ℕ → Bool) (port : Concerned) (k : Asked t (standing c) c a n)
    → port ≡ UsePort (lowest (ports_of t (instance c k.id)) (fails k.id k.after))
    → any_below (ports_of t (instance c k.id)) (fails k.id k.after) ≡ true → Names t c a fails port
lowest-named t c a n fails port k is some =
    record { id = k.id; after = k.after; moves = k.moves; present = k.present; port = _; named = is; lowest = lowest-holds _ _ some }

pub names-the-lowest : NamesTheLowest
unfolding NamesTheLowest concerned
names-the-lowest default t p c s = (
  λ e. let (k, port) = step-asked default t p c s unconnected e refl in
      lowest-named t c (action p c s) unconnected (fails_unconnected t (standing c) c) _ k (port ∙ k.about)
      (unconnected-row t (standing c) c k.id (instance c k.id) k.after k.checked),
  λ e. let (k, port) = step-asked default t p c s unserved e refl in
      lowest-named t c (action p c s) unserved (fails_unserved t (standing c) c) _ k (port ∙ k.about)
      (unserved-row t (standing c) c k.id (instance c k.id) k.after k.checked).1,
)

-- no other number names a port
unnamed : (t : Tables) (x : Standing) (c : Configuration) (a : Action) (n : ℕ) → ported n ≡ false → concern t x c a n ≡ NoPort
unfolding concern concerned
unnamed t x c a n o = go a (neither (eqb n unserved) (eqb n unconnected) o)
  where
    neither : (a b : Bool) → a || b ≡ false → (a ≡ false) × (b ≡ false)
    neither true b e = absurd (true≢false e)
    neither false b e = (refl, e)

    go : (a : Action) → (eqb n unserved ≡ false) × (eqb n unconnected ≡ false) → concern t x c a n ≡ NoPort
    go (fire i p) (e, f) = rw (e, f)
    go (enter i p) (e, f) = rw (e, f)
    go (add i k) _ = refl
    go (del i) _ = refl
    go (pushb i b) _ = refl
    go (con k) _ = refl
    go (dcon k) _ = refl
    go (wait i) _ = refl
    go (end i y) _ = refl
    go (finish i) _ = refl

is_named : Concerned → Bool
is_named NoPort = false
is_named (UsePort q) = true

pub port-then-alone : PortThenAlone
unfolding PortThenAlone concerned is_named
port-then-alone default t p c s = (
  λ (q, e). by_cases (ℕ_discrete n 0)
      (λ z. absurd (true≢false (sym (ap is_named e) ∙ ap (λ (m : Stepped). is_named m.port) (step-on default t p c s z))))
      (λ z.
      let about = ap (λ (m : Stepped). m.port) (step-stop default t p c s z) in
      let is = ap (λ (m : Stepped). m.refused) (step-stop default t p c s z) in
      by-test (ported n)
      (λ h. either n is h)
      (λ h. absurd (true≢false (sym (ap is_named e) ∙ ap is_named (about ∙ unnamed t (standing c) c (action p c s) n h))))),
  ⊎_elim
      (λ e. let (k, port) = step-asked default t p c s unserved e refl in (lowest _ _, port ∙ k.about))
      (λ e. let (k, port) = step-asked default t p c s unconnected e refl in (lowest _ _, port ∙ k.about)),
)
  where
    n : ℕ
    n = step_check default t p c s

    either : (m : ℕ) → (step default t p c s).refused ≡ m → ported m ≡ true → ((step default t p c s).refused ≡ unserved) ⊎ ((step default t p c s).refused ≡ unconnected)
    either m is h = by-test (eqb m unserved) (λ e. inl (is ∙ eqb-true m unserved e)) (λ e. inr (is ∙ eqb-true m unconnected (or-not (eqb m unserved) (eqb m unconnected) h e)))

pub connected-at-34 : ConnectedAt34
unfolding ConnectedAt34 fails_unconnected
connected-at-34 default t p c s e =
    let (k, _) = step-asked default t p c s unserved e refl in
    let (off, _) = unserved-row t (standing c) c k.id (instance c k.id) k.after k.checked in
    (k.id, k.after, k.moves, λ q h u on. not-false (some_connection c (is_of k.id q)) (rw (u, on) at (any_none _ _ off q h)))

-- ---- a named port is one of at most 16

used : Concerned → ℕ
used NoPort = 0
used (UsePort q) = q

module _ (default : ℕ) (t : Tables) (p : Program) (law : Facts default t p) where
  small-named : {fails : ℕ → Instance → ℕ → Bool} (c : Configuration) (a : Action) (q : ℕ) (k : Concerned) → Proper default t p c → Names t c a fails k → k ≡ UsePort q → q < 16
  unfolding used
  small-named c a q k now n e =
      let kind = (now.each n.id n.present).kind in
      omega (arith, ap used (sym e ∙ n.named), n.lowest.below, (law.types (instance c n.id).kind kind).ports)

  step-port-small : (c : Configuration) (s : Step) (q : ℕ) → Proper default t p c → (step default t p c s).port ≡ UsePort q → q < 16
  unfolding NamesTheLowest PortThenAlone
  step-port-small c s q now e =
      ⊎_elim (λ r. small-named c (action p c s) q _ now ((names-the-lowest default t p c s).1 r) e) (λ r. small-named c (action p c s) q _ now ((names-the-lowest default t p c s).0 r) e)
      ((port-then-alone default t p c s).0 (q, e))

  pub walk-port-small : (ss : List Step) (c : Configuration) → Proper default t p c → (q : ℕ) → (walk default t p c ss).port ≡ UsePort q → q < 16
  unfolding walk one_more is_named
  walk-port-small [] c now q = λ e. absurd (true≢false (sym (ap is_named e)))
  walk-port-small (s ∷ ss) c now q =
      walk-cases default t p (λ w. w.port ≡ UsePort q → q < 16) c s ss
      (λ e. walk-port-small ss (step_to t p c s) (step-proper default t p law c s now e) q)
      (λ n e. step-port-small c s q now (ap (λ (m : Stepped). m.port) (step-stop default t p c s n) ∙ e))
