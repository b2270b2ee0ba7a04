-- A port that is ready to be cut refuses, so no new user comes to hold it.
-- Assumes nothing.
use mathlib.Core.Path.{◌≡◌, refl, sym, ◌∙◌}
use mathlib.Core.Logic.{◌⊎◌, inl, inr, ⊎_elim, by_cases}
use mathlib.Core.Bool.{Bool, true, false, not, or-true, and-eq-true_iff, true≢false, ◌||◌}
use Prim.Native.Nat.{ℕ}
use native.Mathlib.Omega.{arith}
use native.Mathlib.Decide.{ℕ_discrete, dec_lt}
use lib.Dec.{eqb}
use lib.ListN.{length}
use borrow.Author.Tests.{eqb-true, eq-eqb, not-true}
use Rattle.sets.specs.Test.{any_below}
use Rattle.sets.specs.Mask.{member, collect, overlaps, within}
use Rattle.sets.proofs.Laws.{any-hit, any_some, collect-same, member-past}
use Rattle.item_spec.proofs.Tests.{by-test}
use Rattle.model.specs.declared.Tables.{Tables}
use Rattle.model.specs.declared.Instance.{Instance}
use Rattle.model.specs.declared.Connection.{Connection}
use Rattle.model.specs.declared.Configuration.{Configuration}
use Rattle.model.specs.View.{source, destination, instance, queue_head, put}
use Rattle.model.proofs.View.{put_same, put_other, put-past}
use Rattle.rules_spec.specs.Standing.{standing, some_connection}
use Rattle.rules_spec.specs.Instance.{held, active, current, ends_at, leaving, entering}
use Rattle.rules_spec.specs.Ports.{behavior, would_leave, would_enter, refusing, blocks, employs, port_check}
use Rattle.rules_spec.specs.Fire.{fire_row, leavers, after_fire}
use Rattle.rules_spec.specs.Enter.{enter_row, enterers, after_enter}
use Rattle.rules_spec.specs.Proper.{WellFormed}
use Rattle.rules_spec.specs.Holding.{Ready, ReadyToCut, ReadyIsRefusing, RefusingIsReady, NewUsersHoldNobody}
use Rattle.rules_spec.proofs.Allowed.{welcome, row-facts}
use Rattle.rules_spec.proofs.Connections.{Joined, some-joined, joined-none, joined-joins}

module _ (t : Tables) (c : Configuration) (j p q : ℕ) where
  abbrev v : Instance
  v = instance c j

  fire-cuts : fire_row v p (leavers t c j p) ≡ 0 → active t (after_fire t c j p) q ≡ false → would_leave t v (behavior t c j) q p ≡ true
  unfolding fire_row would_leave
  fire-cuts e off = let f = row-facts v (leavers t c j p) (member p v.marked) (overlaps (leavers t c j p) (held v)) e in rw (f.ready-is, f.some, f.free, off)

  enter-cuts : enter_row v p (enterers t c j p) ≡ 0 → active t (after_enter t c j p) q ≡ false → would_enter t v (behavior t c j) q p ≡ true
  unfolding enter_row would_enter
  enter-cuts e off = let f = row-facts v (enterers t c j p) (within (enterers t c j p) v.ended) (member p v.marked) e in rw (f.some, f.ready-is, f.free, off)

pub ready-is-refusing : ReadyIsRefusing
unfolding ReadyIsRefusing Ready refusing
ready-is-refusing t c j q r =
    let m = behavior t c j in
    rw r.before
    (⊎_elim
    (λ (e, is). rw (any-hit 16 (would_leave t (instance c j) m q) r.place r.small (fire-cuts t c j r.place q e (rw is at r.after))))
    (λ (e, is). rw (any-hit 16 (would_enter t (instance c j) m q) r.place r.small (enter-cuts t c j r.place q e (rw is at r.after))) (or-true (any_below 16 (would_leave t (instance c j) m q))))
    r.ready)

-- without a current behavior nothing leaves and nothing leads to a place
nothing_ends : (end : ℕ → ℕ) (p : ℕ) → collect 32 (ends_at end 0 p) ≡ 0
unfolding ends_at collect
nothing_ends end p = collect-same 32 (ends_at end 0 p) (λ _. false) (λ j _. rw (member-past 0 j 0 (omega arith) (omega arith)))

queued-some : (t : Tables) (v : Instance) (head p : ℕ) (end : ℕ → ℕ) → eqb (collect 32 (ends_at end (current t v head) p)) 0 ≡ false → eqb v.queued 0 ≡ false
unfolding current
queued-some t v head p end e =
    by-test (eqb v.queued 0)
    (λ z. absurd (true≢false (sym (eq-eqb _ 0 (nothing_ends end p)) ∙ (rw z at e))))
    (λ z. z)

module _ (t : Tables) (c : Configuration) (j q p : ℕ) (here : (instance c j).present ≡ true) where
  leave-ready : would_leave t (instance c j) (behavior t c j) q p ≡ true → (fire_row (instance c j) p (leavers t c j p) ≡ 0) × (active t (after_fire t c j p) q ≡ false)
  unfolding would_leave fire_row leaving
  leave-ready e =
      let v = instance c j in
      let xs = leavers t c j p in
      let (marked, e₁) = (and-eq-true_iff (member p v.marked) _).0 e in
      let (some, e₂) = (and-eq-true_iff (not (eqb xs 0)) _).0 e₁ in
      let (free, off) = (and-eq-true_iff (not (overlaps xs (held v))) _).0 e₂ in
      let none = not-true (eqb xs 0) some in
      (rw (here, queued-some t v (queue_head c j) p (source t v.kind) none, none, marked, not-true (overlaps xs (held v)) free), not-true (active t (after_fire t c j p) q) off)

  enter-ready : would_enter t (instance c j) (behavior t c j) q p ≡ true → (enter_row (instance c j) p (enterers t c j p) ≡ 0) × (active t (after_enter t c j p) q ≡ false)
  unfolding would_enter enter_row entering
  enter-ready e =
      let v = instance c j in
      let xs = enterers t c j p in
      let (some, e₁) = (and-eq-true_iff (not (eqb xs 0)) _).0 e in
      let (ended, e₂) = (and-eq-true_iff (within xs v.ended) _).0 e₁ in
      let (free, off) = (and-eq-true_iff (not (member p v.marked)) _).0 e₂ in
      let none = not-true (eqb xs 0) some in
      (rw (here, queued-some t v (queue_head c j) p (destination t v.kind) none, none, ended, not-true (member p v.marked) free), not-true (active t (after_enter t c j p) q) off)

either : (a b : Bool) → (a || b) ≡ true → (a ≡ true) ⊎ (b ≡ true)
either true b e = inl refl
either false b e = inr e

pub refusing-is-ready : RefusingIsReady
unfolding RefusingIsReady Ready refusing
refusing-is-ready t c j q here e =
    let m = behavior t c j in
    let (on, some) = (and-eq-true_iff (active t (instance c j) q) _).0 e in
    ⊎_elim
    (λ a. let (p, (h, is)) = any_some 16 (would_leave t (instance c j) m q) a in
    let (row, off) = leave-ready t c j q p here is in
    record { place = p; small = h; next = after_fire t c j p; ready = inl (row, refl); before = on; after = off })
    (λ a. let (p, (h, is)) = any_some 16 (would_enter t (instance c j) m q) a in
    let (row, off) = enter-ready t c j q p here is in
    record { place = p; small = h; next = after_enter t c j p; ready = inr (row, refl); before = on; after = off })
    (either (any_below 16 (would_leave t (instance c j) m q)) _ some)

module _ (t : Tables) (c : Configuration) (i j q : ℕ) (w : Instance) (formed : WellFormed t c) (kind : w.kind ≡ (instance c i).kind)
    (ok : port_check t (standing c) c i (instance c i) w ≡ 0) (ready : ReadyToCut t c j q) (unused : some_connection c (employs t c j q) ≡ false) where
  -- a connection to that port, whose use port is not in use before
  module _ (k : Connection) (stands : Joined c k) (to : k.provider ≡ j) (at : k.provideport ≡ q) where
    idle : active t (instance c k.user) k.useport ≡ false
    unfolding employs
    idle = rw (eq-eqb k.provider j to, eq-eqb k.provideport q at) at (joined-none c (employs t c j q) k unused stands)

    -- the moving instance's own
    own : k.user ≡ i → active t w k.useport ≡ false
    unfolding blocks ReadyIsRefusing
    own e = by-test (active t w k.useport) (λ on. absurd (true≢false (sym (ready-is-refusing t c j q ready) ∙ refused on))) (λ off. off)
      where
        refused : active t w k.useport ≡ true → refusing t (instance c j) (behavior t c j) q ≡ false
        refused on =
            let joins = joined-joins t c formed k stands in
            let none = welcome t c i (instance c i) w ok k.useport (rw e at joins.useport) (rw (kind, ← e) joins.uses) (rw e at idle) on in
            rw (eq-eqb k.user i e, eq-eqb k.useport k.useport refl, to, at) at (joined-none c (blocks t c i k.useport) k none stands)

    still : active t (instance (put c i w) k.user) k.useport ≡ false
    still =
        by_cases (ℕ_discrete k.user i)
        (λ e. by_cases (dec_lt i (length c.instances))
        (λ x. rw (e, put_same c i w x) (own e))
        (λ x. rw (put-past c i w (omega arith)) idle))
        (λ n. rw (put_other c i k.user w n) idle)

pub new-users-hold-nobody : NewUsersHoldNobody
unfolding NewUsersHoldNobody employs put
new-users-hold-nobody t c i j q w formed kind ok ready unused =
    by-test (some_connection c (employs t (put c i w) j q))
    (λ on.
    let (k, stands, f) = some-joined c (employs t (put c i w) j q) on in
    let (to, f₁) = (and-eq-true_iff (eqb k.provider j) _).0 f in
    let (at, uses) = (and-eq-true_iff (eqb k.provideport q) _).0 f₁ in
    absurd (true≢false (sym uses ∙ still t c i j q w formed kind ok ready unused k stands (eqb-true _ _ to) (eqb-true _ _ at))))
    (λ off. off)
