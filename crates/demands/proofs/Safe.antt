-- Each allowed action keeps each active use port served.
-- Assumes nothing.
use mathlib.Core.Path.{◌≡◌, refl, sym, ap, ◌∙◌, subst, subst⁻¹}
use mathlib.Core.Logic.{◌≢◌}
use mathlib.Core.Bool.{true, false, and-eq-true_iff, false≢true}
use mathlib.Core.List.{List}
use Prim.Native.Nat.{ℕ, ◌<◌}
use lib.Dec.{eqb}
use borrow.Author.Tests.{eqb-true, eqb-false, eq-eqb}
use Rattle.sets.specs.Test.{any_below}
use Rattle.sets.specs.Mask.{member, collect}
use Rattle.item_spec.proofs.Tests.{by-test}
use Rattle.model.specs.declared.Tables.{Tables}
use Rattle.model.specs.declared.Program.{Program}
use Rattle.model.specs.declared.Step.{Step}
use Rattle.model.specs.declared.Instance.{Instance}
use Rattle.model.specs.declared.Connection.{Connection}
use Rattle.model.specs.declared.Configuration.{Configuration}
use Rattle.model.specs.View.{is_use, instance, queue_head, with_servers, with_done}
use Rattle.rules_spec.specs.Instance.{active, ports_of, fired, ended_by, entered, with_queued}
use Rattle.rules_spec.specs.Standing.{standing, some_connection}
use Rattle.rules_spec.specs.Ports.{serves, employs, port_check}
use Rattle.rules_spec.specs.Add.{fresh}
use Rattle.rules_spec.specs.Del.{named_by}
use Rattle.rules_spec.specs.Con.{connected}
use Rattle.rules_spec.specs.DCon.{disconnected}
use Rattle.rules_spec.specs.Action.{Action, add, del, pushb, con, dcon, wait, fire, end, enter, finish, action_check, effect}
use Rattle.rules_spec.specs.Step.{action, step_check, step_to, check_at}
use Rattle.rules_spec.specs.Walk.{walk}
use Rattle.rules_spec.specs.Proper.{Joins, Proper}
use Rattle.rules_spec.proofs.Masks.{neither, end-active}
use Rattle.rules_spec.proofs.Tables.{Facts, facts}
use Rattle.rules_spec.proofs.Local.{Wiring, kept, made, cut, Wires, wires, rewired, wiring_of, change, touches, changes, owner, owner_of, at-owner, self, own_instance, part-wires, changes-one, instance-own, instance-other, rest-after}
use Rattle.rules_spec.proofs.Allowed.{add-facts, del-facts, pushb-facts, fire-facts, enter-facts, end-facts, finish-facts, served, unused, present-in}
use Rattle.rules_spec.proofs.Walks.{walk-keeps, number-facts, after-cases}
use Rattle.rules_spec.proofs.Connections.{Stands, Joined, some-joined, joined-some, joined-none, con-keeps, same-stands, dcon-keeps, Passed, passed, joined-joins, new-joins}
use Rattle.rules_spec.proofs.Proper.{Lawfully, joins-small, step-lawfully, step-proper}
use Rattle.start_spec.specs.Served.{AllServed}
use Rattle.start_spec.specs.Permitted.{MayBegin}
use Rattle.demands.specs.Safe.{Served, Safe, WalksAreSafe}

-- the connection k joins the use port q of i to an active provide port
pub record Serving (t : Tables) (c : Configuration) (i q : ℕ) (k : Connection) : Type 0 where
  pub stands : Joined c k
  pub user : k.user ≡ i
  pub useport : k.useport ≡ q
  pub provider : active t (instance c k.provider) k.provideport ≡ true

-- each active use port of a present instance has such a connection
abbrev pub Safely : Tables → Configuration → Type 0
Safely t c =
    (i q : ℕ) → (instance c i).present ≡ true → q < ports_of t (instance c i) → is_use t (instance c i).kind q ≡ true → active t (instance c i) q ≡ true
    → (k : Connection) × Serving t c i q k

-- instance i can go to w
record Steady (t : Tables) (c : Configuration) (i : ℕ) (w : Instance) : Type 0 where
  -- its provide ports stay active where they are used
  stays : (k : Connection) → Joined c k → k.provider ≡ i → active t (instance c k.user) k.useport ≡ true
      → active t (instance c i) k.provideport ≡ true → active t w k.provideport ≡ true
  -- its own use ports are served
  own : (q : ℕ) → w.present ≡ true → q < ports_of t w → is_use t w.kind q ≡ true → active t w q ≡ true → (k : Connection) × Serving t c i q k

module _ (default : ℕ) (t : Tables) (p : Program) (law : Facts default t p) (c : Configuration) (now : Proper default t p c) (safe : Safely t c) where
  joins : (k : Connection) → Joined c k → Joins t c k
  joins = joined-joins t c now.connections

  -- ---- the instance that an action changes

  -- `fire` and `enter`: the port checks say it
  checked-steady : (i : ℕ) (w : Instance) → w.kind ≡ (instance c i).kind → port_check t (standing c) c i (instance c i) w ≡ 0 → Steady t c i w
  unfolding serves employs
  checked-steady i w kind ok = record { stays = stays; own = own }
    where
      stays : (k : Connection) → Joined c k → k.provider ≡ i → active t (instance c k.user) k.useport ≡ true
          → active t (instance c i) k.provideport ≡ true → active t w k.provideport ≡ true
      stays k j e used on = by-test (active t w k.provideport) (λ x. x) (λ x. absurd (false≢true (sym (unused t c i (instance c i) w ok k.provideport room provides on x) ∙ busy)))
        where
          room : k.provideport < ports_of t (instance c i)
          room = rw e at (joins k j).provideport

          provides : is_use t w.kind k.provideport ≡ false
          provides = rw (kind, ← e) (joins k j).provides

          busy : some_connection c (employs t c i k.provideport) ≡ true
          busy = joined-some c (employs t c i k.provideport) k j (rw (eq-eqb k.provider i e, eq-eqb k.provideport k.provideport refl) used)

      own : (q : ℕ) → w.present ≡ true → q < ports_of t w → is_use t w.kind q ≡ true → active t w q ≡ true → (k : Connection) × Serving t c i q k
      own q _ hq hu ha =
          let (k, j, e) = some-joined c (serves t c i q) (served t c i (instance c i) w ok q (rw (kind, ports_of) at hq) hu ha) in
          let (a, rest) = (and-eq-true_iff (eqb k.user i) _).0 e in
          let (b, on) = (and-eq-true_iff (eqb k.useport q) _).0 rest in
          (k, record { stands = j; user = eqb-true _ _ a; useport = eqb-true _ _ b; provider = on })

  -- `pushb`, `end` and `finish`: each port is as active as before
  calm-steady : (i : ℕ) (w : Instance) → (instance c i).present ≡ true → w.kind ≡ (instance c i).kind → ((q : ℕ) → active t w q ≡ active t (instance c i) q) → Steady t c i w
  calm-steady i w here kind same =
      record {
        stays = λ k j e used on. same k.provideport ∙ on;
        own = λ q _ hq hu ha. safe i q here (rw (kind, ports_of) at hq) (rw kind at hu) (sym (same q) ∙ ha);
      }

  -- `add` and `del`: no connection names the instance, and no use port is active afterwards
  aside-steady : (i : ℕ) (w : Instance) → ((k : Connection) → Joined c k → k.provider ≢ i)
      → ((q : ℕ) → w.present ≡ true → q < ports_of t w → is_use t w.kind q ≡ true → active t w q ≡ false) → Steady t c i w
  aside-steady i w free idle =
      record {
        stays = λ k j e used on. absurd (free k j e);
        own = λ q here hq hu ha. absurd (false≢true (sym (idle q here hq hu) ∙ ha));
      }

  own-steady : (a : Action) → Lawfully t p a → check_at default t c a ≡ 0 → changes a (owner_of a) ≡ true
      → Steady t c (owner_of a) (own_instance t (instance c (owner_of a)) (queue_head c (owner_of a)) a)
  unfolding action_check change touches owner self fired ended_by entered with_queued active named_by member any_below collect
  own-steady (add i k) new e q =
      aside-steady i (fresh t k)
      (λ l j f. false≢true (sym (add-facts c i e) ∙ (rw f at (joins l j).provider)))
      (λ q _ hq hu. rw ((law.types k (new.added i k refl).1).use-port q hq hu) refl)
  own-steady (del i) new e q =
      aside-steady i _ (λ l j. eqb-false l.provider i (neither (eqb l.user i) (eqb l.provider i) (joined-none c (named_by i) l (del-facts c i e).unnamed j)).1)
      (λ q here. absurd (false≢true here))
  own-steady (pushb i b) new e q = calm-steady i _ (pushb-facts default t c i b e).present refl (λ q. refl)
  own-steady (con k) new e q = absurd (false≢true q)
  own-steady (dcon k) new e q = absurd (false≢true q)
  own-steady (wait i) new e q = absurd (false≢true q)
  own-steady (fire i x) new e q = checked-steady i _ refl (fire-facts t c i x e).ports
  own-steady (end i x) new e q = let f = end-facts c i x e in calm-steady i _ f.present refl (λ q. end-active t (instance c i) x q f.running)
  own-steady (enter i x) new e q = checked-steady i _ refl (enter-facts t c i x e).ports
  own-steady (finish i) new e q = calm-steady i _ (finish-facts t c i e).present refl (λ q. refl)

  -- ---- every instance after an action
  module _ (a : Action) (new : Lawfully t p a) (ok : check_at default t c a ≡ 0) where
    -- a connection stays where its use port is active
    joined-after : (k : Connection) → Joined c k → active t (instance c k.user) k.useport ≡ true → Joined (effect t c a) k
    unfolding Passed rewired connected disconnected with_servers
    joined-after k j used =
        subst⁻¹ (λ (x : Wires). Stands x k) (rest-after t c a).connections (go (wiring_of (change a)) (passed default t c a ok))
      where
        go : (w : Wiring) → Passed t c w → Stands (rewired w (wires c)) k
        go kept f = j
        go (made l) f = con-keeps (wires c) now.servers-length l (joins-small default t p law c now l (new-joins t c l f)) f.free k j
        go (cut l) f =
            dcon-keeps (wires c) now.servers-length l (same-stands (wires c) l f.stands) k j
            (λ e. false≢true (sym f.idle ∙ subst (λ (m : Connection). active t (instance c m.user) m.useport ≡ true) e used))

    provider-after : (k : Connection) → Joined c k → active t (instance c k.user) k.useport ≡ true → active t (instance c k.provider) k.provideport ≡ true
        → active t (instance (effect t c a) k.provider) k.provideport ≡ true
    provider-after k j used on =
        by-test (changes a k.provider)
        (λ q. rw (instance-own t c a k.provider q (present-in c k.provider (joins k j).provider))
        (at-owner (λ (n : ℕ). k.provider ≡ n → active t (instance c n) k.provideport ≡ true → active t (own_instance t (instance c n) (queue_head c n) a) k.provideport ≡ true) a k.provider q
        (λ r e on. (own-steady a new ok r).stays k j e used on) refl on))
        (λ q. rw (instance-other t c a k.provider q) on)

    safe-after : Safely t (effect t c a)
    safe-after i q here hq hu ha = by-test (changes a i) own other
      where
        other : changes a i ≡ false → (k : Connection) × Serving t (effect t c a) i q k
        other e =
            let same = instance-other t c a i e in
            let (k, s) = safe i q (rw same at here) (rw same at hq) (rw same at hu) (rw same at ha) in
            let used : active t (instance c k.user) k.useport ≡ true = rw (s.user, s.useport) (rw same at ha) in
            (k, record { stands = joined-after k s.stands used; user = s.user; useport = s.useport; provider = provider-after k s.stands used s.provider })

        own : changes a i ≡ true → (k : Connection) × Serving t (effect t c a) i q k
        own e =
            let mine = instance-own t c a i e (rw (← (rest-after t c a).instances) (present-in (effect t c a) i here)) in
            let (k, s) =
            at-owner (λ (n : ℕ). (own_instance t (instance c n) (queue_head c n) a).present ≡ true → q < ports_of t (own_instance t (instance c n) (queue_head c n) a) → is_use t (own_instance t (instance c n) (queue_head c n) a).kind q ≡ true → active t (own_instance t (instance c n) (queue_head c n) a) q ≡ true → (k : Connection) × Serving t c n q k) a i e
            (λ r. (own-steady a new ok r).own q) (rw mine at here) (rw mine at hq) (rw mine at hu) (rw mine at ha)
            in
            let apart : changes a k.provider ≡ false = changes-one a i k.provider e (λ f. (joins k s.stands).apart (s.user ∙ sym f)) in (
              k,
              record {
                stands = subst⁻¹ (λ (x : Wires). Stands x k) (part-wires t c a i e) s.stands;
                user = s.user;
                useport = s.useport;
                provider = rw (instance-other t c a k.provider apart) s.provider;
              },
            )

-- ---- walks

module _ (default : ℕ) (t : Tables) (p : Program) (law : Facts default t p) where
  step-safe : (c : Configuration) (s : Step) → Proper default t p c × Safely t c → step_check default t p c s ≡ 0 → Proper default t p (step_to t p c s) × Safely t (step_to t p c s)
  unfolding with_done
  step-safe c s (now, safe) e =
      let there = safe-after default t p law c now safe (action p c s) (step-lawfully default t p law c s e) (number-facts default t p c s e).0 in (
        step-proper default t p law c s now e,
        after-cases t p (Safely t) c s
            (λ _ i q here hq hu ha.
            let (k, s) = there i q here hq hu ha in (k, record { stands = s.stands; user = s.user; useport = s.useport; provider = s.provider }))
            (λ _. there),
      )

  -- from any proper and safe configuration
  pub safe-from : (ss : List Step) (c : Configuration) → Proper default t p c × Safely t c
      → Proper default t p (walk default t p c ss).configuration × Safely t (walk default t p c ss).configuration
  safe-from = walk-keeps default t p (λ c. Proper default t p c × Safely t c) step-safe

-- what a paper may begin with is safe
begin-safe : (default : ℕ) (t : Tables) (p : Program) (c : Configuration) → MayBegin default t p c → Safely t c
unfolding AllServed serves
begin-safe default t p c b i q here hq hu ha =
    let wide = b.permitted.proper.instances-length in
    let (k, j, e) = some-joined c (serves t c i q) (b.served i q (rw (← wide) (present-in c i here)) here hq hu ha) in
    let (x, rest) = (and-eq-true_iff (eqb k.user i) _).0 e in
    let (y, on) = (and-eq-true_iff (eqb k.useport q) _).0 rest in
    (k, record { stands = j; user = eqb-true _ _ x; useport = eqb-true _ _ y; provider = on })

pub walks-are-safe : WalksAreSafe
unfolding WalksAreSafe Safe
walks-are-safe default t p c ss small law b i q here hq hu ha =
    let (proper, safe) = safe-from default t p (facts default t p small law) ss c (b.permitted.proper, begin-safe default t p c b) in
    let (k, s) = safe i q here hq hu ha in
    of (walk default t p c ss).configuration proper k s
  where
    of : (c : Configuration) → Proper default t p c → (k : Connection) → Serving t c i q k → Served t c i q
    of c now k s =
        let (at, within, stands, e) = s.stands in
        record {
          at = at;
          within = within;
          stands = stands;
          joins = now.connections at within stands;
          user = ap (λ (k : Connection). k.user) e ∙ s.user;
          useport = ap (λ (k : Connection). k.useport) e ∙ s.useport;
          provider = subst⁻¹ (λ (k : Connection). active t (instance c k.provider) k.provideport ≡ true) e s.provider;
        }
