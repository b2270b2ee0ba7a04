-- What an allowed step tells: each rule's row of checks taken apart.
-- Assumes nothing.
use mathlib.Core.Path.{◌≡◌, refl, sym, ap, ◌∙◌}
use mathlib.Core.Logic.{◌⊎◌, inl, inr, ◌≢◌, by_cases}
use mathlib.Core.Bool.{Bool, true, false, not, false≢true}
use Prim.Native.Nat.{ℕ, suc, ◌<◌}
use native.Mathlib.Omega.{arith}
use native.Mathlib.Decide.{ℕ_discrete, dec_lt}
use lib.Dec.{eqb, ltb}
use lib.ListN.{length, get_or-eq_default}
use borrow.Author.Tests.{eqb-true, eqb-false, eq-eqb, ne_eqb, not-false, ltb-true}
use Rattle.sets.specs.Test.{any_below}
use Rattle.sets.specs.Mask.{member, overlaps, within}
use Rattle.sets.proofs.Laws.{any_none}
use Rattle.model.specs.declared.Tables.{Tables}
use Rattle.model.specs.declared.Instance.{Instance}
use Rattle.model.specs.declared.Connection.{Connection}
use Rattle.model.specs.declared.Configuration.{Configuration}
use Rattle.model.specs.Empty.{absent}
use Rattle.model.specs.View.{type_of, is_use, instance, behavior_in}
use Rattle.rules_spec.specs.Refusal.{◌⇒◌∣◌, allowed, id_absent, queue_empty, no_transition, not_ready, held_or_marked, or_number}
use Rattle.rules_spec.specs.Instance.{held, active, ports_of}
use Rattle.rules_spec.specs.Standing.{standing, some_connection}
use Rattle.rules_spec.specs.Ports.{is_of, serves, blocks, employs, fails_unconnected, fails_unserved, fails_refusing, fails_in_use, port_check}
use Rattle.rules_spec.specs.Add.{add_check}
use Rattle.rules_spec.specs.Del.{named_by, del_check}
use Rattle.rules_spec.specs.PushB.{Push, depth_of, pushb_check}
use Rattle.rules_spec.specs.Con.{is_use_port, is_provide_port, con_check}
use Rattle.rules_spec.specs.DCon.{same_connection, dcon_check}
use Rattle.rules_spec.specs.Fire.{fire_row, fire_check, leavers, after_fire}
use Rattle.rules_spec.specs.End.{end_check}
use Rattle.rules_spec.specs.Enter.{enter_row, enter_check, enterers, after_enter}
use Rattle.rules_spec.specs.Finish.{finish_row, finish_check}
use Rattle.rules_spec.specs.Action.{Action, add, del, pushb, con, dcon, wait, fire, end, enter, finish, action_check}
use Rattle.rules_spec.specs.Step.{check_at}
use Rattle.rules_spec.proofs.Local.{change, touches, changes, owner, owner_of}

-- ---- a row

-- the test fails, and the rest of the row tells
pub passes : (b : Bool) (n : ℕ) {m : ℕ} → (b ⇒ suc n ∣ m) ≡ 0 → (b ≡ false) × (m ≡ 0)
passes true n e = absurd (omega arith)
passes false n e = (refl, e)

-- a negated test
pub meets : (b : Bool) (n : ℕ) {m : ℕ} → (not b ⇒ suc n ∣ m) ≡ 0 → (b ≡ true) × (m ≡ 0)
meets true n e = (refl, e)
meets false n e = absurd (omega arith)

or_else : (a b : ℕ) → or_number a b ≡ 0 → (a ≡ 0) × (b ≡ 0)
or_else a b = by_cases (ℕ_discrete a 0) (λ e. rw (eq-eqb a 0 e) (λ q. (e, q))) (λ n. rw (ne_eqb a 0 n) (λ q. absurd (n q)))

positive : (n : ℕ) → eqb n 0 ≡ false → 0 < n
positive n e = omega (arith, eqb-false n 0 e)

-- ---- the rules

pub add-facts : (c : Configuration) (i : ℕ) → add_check c i ≡ 0 → (instance c i).present ≡ false
unfolding add_check
add-facts c i e = (passes (instance c i).present _ e).0

pub record DelFacts (c : Configuration) (i : ℕ) : Type 0 where
  pub present : (instance c i).present ≡ true
  pub unnamed : some_connection c (named_by i) ≡ false
  pub empty : (instance c i).queued ≡ 0

pub del-facts : (c : Configuration) (i : ℕ) → del_check (standing c) c i ≡ 0 → DelFacts c i
unfolding del_check
del-facts c i e =
    let (present, e₁) = meets (instance c i).present _ e in
    let (unnamed, e₂) = passes (some_connection c (named_by i)) _ e₁ in
    let (empty, _) = meets (eqb (instance c i).queued 0) _ e₂ in
    record { present = present; unnamed = unnamed; empty = eqb-true _ 0 empty }

pub record PushbFacts (default : ℕ) (t : Tables) (c : Configuration) (i : ℕ) (b : Push) : Type 0 where
  pub present : (instance c i).present ≡ true
  pub above : b.late ≡ false
  pub behavior-is : behavior_in b.slot < (type_of t (instance c i).kind).behaviors
  pub short : (instance c i).queued < depth_of default t

pub pushb-facts : (default : ℕ) (t : Tables) (c : Configuration) (i : ℕ) (b : Push) → pushb_check default t c i b ≡ 0 → PushbFacts default t c i b
unfolding pushb_check
pushb-facts default t c i b e =
    let (present, e₁) = meets (instance c i).present _ e in
    let (behavior-is, e₂) = meets (ltb (behavior_in b.slot) (type_of t (instance c i).kind).behaviors) _ e₁ in
    let (above, e₃) = passes b.late _ e₂ in
    let (short, _) = meets (ltb (instance c i).queued (depth_of default t)) _ e₃ in
    record { present = present; above = above; behavior-is = ltb-true (behavior_in b.slot) _ behavior-is; short = ltb-true _ (depth_of default t) short }

pub record ConFacts (t : Tables) (c : Configuration) (k : Connection) : Type 0 where
  pub user : (instance c k.user).present ≡ true
  pub provider : (instance c k.provider).present ≡ true
  pub uses : is_use_port t c k.user k.useport ≡ true
  pub provides : is_provide_port t c k.provider k.provideport ≡ true
  pub apart : k.user ≢ k.provider
  pub free : some_connection c (is_of k.user k.useport) ≡ false
  pub few : (standing c).count < 64

pub con-facts : (t : Tables) (c : Configuration) (k : Connection) → con_check t (standing c) c k ≡ 0 → ConFacts t c k
unfolding con_check
con-facts t c k e =
    let (user, e₁) = meets (instance c k.user).present _ e in
    let (provider, e₂) = meets (instance c k.provider).present _ e₁ in
    let (uses, e₃) = meets (is_use_port t c k.user k.useport) _ e₂ in
    let (provides, e₄) = meets (is_provide_port t c k.provider k.provideport) _ e₃ in
    let (apart, e₅) = passes (eqb k.user k.provider) _ e₄ in
    let (free, e₆) = passes (some_connection c (is_of k.user k.useport)) _ e₅ in
    let (few, _) = meets (ltb (standing c).count 64) _ e₆ in
    record {
      user = user;
      provider = provider;
      uses = uses;
      provides = provides;
      apart = eqb-false _ _ apart;
      free = free;
      few = ltb-true _ 64 few;
    }

pub record DconFacts (t : Tables) (c : Configuration) (k : Connection) : Type 0 where
  pub stands : some_connection c (same_connection k) ≡ true
  pub idle : active t (instance c k.user) k.useport ≡ false

pub dcon-facts : (t : Tables) (c : Configuration) (k : Connection) → dcon_check t (standing c) c k ≡ 0 → DconFacts t c k
unfolding dcon_check
dcon-facts t c k e =
    let (stands, e₁) = meets (some_connection c (same_connection k)) _ e in
    record { stands = stands; idle = (passes (active t (instance c k.user) k.useport) _ e₁).0 }

-- `fire` and `enter` by the transitions xs: what they ask of the instance v, `ready`, and what is in their way, `busy`
abbrev pub move_row : Instance → ℕ → Bool → Bool → ℕ
move_row v xs ready busy =
    not v.present ⇒ id_absent
    ∣ eqb v.queued 0 ⇒ queue_empty
    ∣ eqb xs 0 ⇒ no_transition
    ∣ not ready ⇒ not_ready
    ∣ busy ⇒ held_or_marked
    ∣ allowed

pub record RowFacts (v : Instance) (xs : ℕ) (ready busy : Bool) : Type 0 where
  pub present : v.present ≡ true
  pub queued : 0 < v.queued
  pub some : eqb xs 0 ≡ false
  pub ready-is : ready ≡ true
  pub free : busy ≡ false

pub row-facts : (v : Instance) (xs : ℕ) (ready busy : Bool) → move_row v xs ready busy ≡ 0 → RowFacts v xs ready busy
row-facts v xs ready busy e =
    let (present, e₁) = meets v.present _ e in
    let (queued, e₂) = passes (eqb v.queued 0) _ e₁ in
    let (some, e₃) = passes (eqb xs 0) _ e₂ in
    let (ready-is, e₄) = meets ready _ e₃ in
    let (free, _) = passes busy _ e₄ in
    record { present = present; queued = positive v.queued queued; some = some; ready-is = ready-is; free = free }

-- and instance i goes to w
pub record MoveFacts (t : Tables) (c : Configuration) (i xs : ℕ) (ready busy : Bool) (w : Instance) : Type 0 where
  pub row : RowFacts (instance c i) xs ready busy
  pub ports : port_check t (standing c) c i (instance c i) w ≡ 0

move-facts : (t : Tables) (c : Configuration) (i xs : ℕ) (ready busy : Bool) (w : Instance)
    → or_number (move_row (instance c i) xs ready busy) (port_check t (standing c) c i (instance c i) w) ≡ 0 → MoveFacts t c i xs ready busy w
move-facts t c i xs ready busy w e =
    let (row, ports) = or_else (move_row (instance c i) xs ready busy) (port_check t (standing c) c i (instance c i) w) e in
    record { row = row-facts (instance c i) xs ready busy row; ports = ports }

abbrev pub FireFacts : Tables → Configuration → ℕ → ℕ → Type 0
FireFacts t c i p =
    MoveFacts t c i (leavers t c i p) (member p (instance c i).marked) (overlaps (leavers t c i p) (held (instance c i))) (after_fire t c i p)

pub fire-facts : (t : Tables) (c : Configuration) (i p : ℕ) → fire_check t (standing c) c i p ≡ 0 → FireFacts t c i p
unfolding fire_check fire_row
fire-facts t c i p = move-facts t c i (leavers t c i p) _ _ (after_fire t c i p)

abbrev pub EnterFacts : Tables → Configuration → ℕ → ℕ → Type 0
EnterFacts t c i p =
    MoveFacts t c i (enterers t c i p) (within (enterers t c i p) (instance c i).ended) (member p (instance c i).marked) (after_enter t c i p)

pub enter-facts : (t : Tables) (c : Configuration) (i p : ℕ) → enter_check t (standing c) c i p ≡ 0 → EnterFacts t c i p
unfolding enter_check enter_row
enter-facts t c i p = move-facts t c i (enterers t c i p) _ _ (after_enter t c i p)

pub record EndFacts (c : Configuration) (i x : ℕ) : Type 0 where
  pub present : (instance c i).present ≡ true
  pub running : member x (instance c i).running ≡ true

pub end-facts : (c : Configuration) (i x : ℕ) → end_check c i x ≡ 0 → EndFacts c i x
unfolding end_check
end-facts c i x e =
    let (present, e₁) = meets (instance c i).present _ e in
    let (_, e₂) = passes (eqb (instance c i).queued 0) _ e₁ in
    record { present = present; running = (meets (member x (instance c i).running) _ e₂).0 }

pub record FinishFacts (c : Configuration) (i : ℕ) : Type 0 where
  pub present : (instance c i).present ≡ true
  pub queued : 0 < (instance c i).queued

pub finish-facts : (t : Tables) (c : Configuration) (i : ℕ) → finish_check t c i ≡ 0 → FinishFacts c i
unfolding finish_check finish_row
finish-facts t c i e =
    let (present, e₁) = meets (instance c i).present _ e in
    let (queued, _) = passes (eqb (instance c i).queued 0) _ e₁ in
    record { present = present; queued = positive (instance c i).queued queued }

-- ---- the port checks

pub record PortsPass (t : Tables) (c : Configuration) (i : ℕ) (v w : Instance) : Type 0 where
  pub connected : any_below (ports_of t v) (fails_unconnected t (standing c) c i w) ≡ false
  pub served : any_below (ports_of t v) (fails_unserved t (standing c) c i w) ≡ false
  pub welcome : any_below (ports_of t v) (fails_refusing t (standing c) c i v w) ≡ false
  pub unused : any_below (ports_of t v) (fails_in_use t (standing c) c i v w) ≡ false

ports-pass : (t : Tables) (c : Configuration) (i : ℕ) (v w : Instance) → port_check t (standing c) c i v w ≡ 0 → PortsPass t c i v w
unfolding port_check
ports-pass t c i v w ok =
    let (connected, e₁) = passes (any_below (ports_of t v) (fails_unconnected t (standing c) c i w)) _ ok in
    let (served, e₂) = passes (any_below (ports_of t v) (fails_unserved t (standing c) c i w)) _ e₁ in
    let (welcome, e₃) = passes (any_below (ports_of t v) (fails_refusing t (standing c) c i v w)) _ e₂ in
    let (unused, _) = passes (any_below (ports_of t v) (fails_in_use t (standing c) c i v w)) _ e₃ in
    record { connected = connected; served = served; welcome = welcome; unused = unused }

module _ (t : Tables) (c : Configuration) (i : ℕ) (v w : Instance) (ok : port_check t (standing c) c i v w ≡ 0) (q : ℕ) (h : q < ports_of t v) where
  -- 34: a use port active after is served
  pub served : is_use t w.kind q ≡ true → active t w q ≡ true → some_connection c (serves t c i q) ≡ true
  unfolding fails_unserved
  served u a = not-false (some_connection c (serves t c i q)) (rw (u, a) at (any_none _ _ (ports-pass t c i v w ok).served q h))

  -- 35: a use port that falls active is not connected to a refusing provide port
  pub welcome : is_use t w.kind q ≡ true → active t v q ≡ false → active t w q ≡ true → some_connection c (blocks t c i q) ≡ false
  unfolding fails_refusing
  welcome u off on = rw (u, on, off) at (any_none _ _ (ports-pass t c i v w ok).welcome q h)

  -- 36: no active use port is connected to a provide port that falls inactive
  pub unused : is_use t w.kind q ≡ false → active t v q ≡ true → active t w q ≡ false → some_connection c (employs t c i q) ≡ false
  unfolding fails_in_use
  unused u a b = rw (u, a, b) at (any_none _ _ (ports-pass t c i v w ok).unused q h)

-- ---- who is present

-- an allowed action that changes an instance's part adds the instance, or the instance is present
pub owner-known : (default : ℕ) (t : Tables) (c : Configuration) (a : Action) → check_at default t c a ≡ 0 → changes a (owner_of a) ≡ true
    → ((i : ℕ) × (k : ℕ) × (a ≡ add i k)) ⊎ ((instance c (owner_of a)).present ≡ true)
unfolding action_check change touches owner
owner-known default t c (add i k) e q = inl (i, k, refl)
owner-known default t c (del i) e q = inr (del-facts c i e).present
owner-known default t c (pushb i b) e q = inr (pushb-facts default t c i b e).present
owner-known default t c (con k) e q = absurd (false≢true q)
owner-known default t c (dcon k) e q = absurd (false≢true q)
owner-known default t c (wait i) e q = absurd (false≢true q)
owner-known default t c (fire i p) e q = inr (fire-facts t c i p e).row.present
owner-known default t c (end i x) e q = inr (end-facts c i x e).present
owner-known default t c (enter i p) e q = inr (enter-facts t c i p e).row.present
owner-known default t c (finish i) e q = inr (finish-facts t c i e).present

-- a present instance is one of the array
pub present-in : (c : Configuration) (i : ℕ) → (instance c i).present ≡ true → i < length c.instances
present-in c i e =
    by_cases (dec_lt i (length c.instances)) (λ l. l)
    (λ l. absurd (false≢true (sym (ap (λ (v : Instance). v.present) (get_or-eq_default c.instances absent (omega arith))) ∙ e)))
