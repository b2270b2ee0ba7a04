-- The port check where nothing moves asks for served use ports and no more.
-- Assumes nothing.
use Prim.Native.Nat.{ℕ, ◌<◌}
use mathlib.Core.Path.{◌≡◌, refl}
use mathlib.Core.Bool.{Bool, true, false, not, ◌&&◌, and-eq-true_iff}
use lib.Dec.{eqb}
use borrow.Author.Tests.{eq-eqb, eqb-true, not-false}
use Rattle.sets.proofs.Laws.{any_some, any-hit, any_none, none_any}
use Rattle.item_spec.proofs.Tests.{by-test}
use Rattle.model.specs.declared.Tables.{Tables}
use Rattle.model.specs.declared.Configuration.{Configuration}
use Rattle.model.specs.View.{is_use, instance, is_served, connection_at}
use Rattle.rules_spec.specs.Standing.{in_table, standing, some_connection}
use Rattle.rules_spec.specs.Instance.{active, ports_of}
use Rattle.rules_spec.specs.Ports.{is_of, serves, fails_unconnected, fails_unserved, fails_refusing, fails_in_use, port_check}
use Rattle.rules_spec.proofs.Allowed.{served}
use Rattle.start_spec.specs.Served.{fails_still, some_unserved, AllServed, FiftyExactly}

self-fails : (a b c : Bool) → (a && (b && (not b && c))) ≡ false
self-fails false b c = refl
self-fails true false c = refl
self-fails true true c = refl

-- a use port that is served is connected
served-connected : (t : Tables) (c : Configuration) (i q : ℕ) → some_connection c (serves t c i q) ≡ true → some_connection c (is_of i q) ≡ true
unfolding in_table serves is_of
served-connected t c i q e =
    let (s, found) = any_some 512 _ e in
    let (h, both) = found in
    let (is, on) = (and-eq-true_iff (serves t c i q (connection_at c.servers s)) (is_served c.servers s)).0 both in
    let (a, rest) = (and-eq-true_iff (eqb (connection_at c.servers s).user i) _).0 is in
    let (b, _) = (and-eq-true_iff (eqb (connection_at c.servers s).useport q) _).0 rest in
    any-hit 512 _ s h (rw (a, b, on))

still : (t : Tables) (c : Configuration) (i : ℕ)
    → ((q : ℕ) → q < ports_of t (instance c i) → is_use t (instance c i).kind q ≡ true → active t (instance c i) q ≡ true → some_connection c (serves t c i q) ≡ true)
    → port_check t (standing c) c i (instance c i) (instance c i) ≡ 0
unfolding port_check fails_unconnected fails_unserved fails_refusing fails_in_use
still t c i f =
    let v = instance c i in
    let x = standing c in
    rw (
      none_any (ports_of t v) (fails_unconnected t x c i v) (λ q h. by-test (is_use t v.kind q) (λ a. by-test (active t v q) (λ b. rw (a, b, served-connected t c i q (f q h a b))) (λ b. rw (a, b))) (λ a. rw a)),
      none_any (ports_of t v) (fails_unserved t x c i v) (λ q h. by-test (is_use t v.kind q) (λ a. by-test (active t v q) (λ b. rw (a, b, f q h a b)) (λ b. rw (a, b))) (λ a. rw a)),
      none_any (ports_of t v) (fails_refusing t x c i v v) (λ q h. self-fails (is_use t v.kind q) (active t v q) _),
      none_any (ports_of t v) (fails_in_use t x c i v v) (λ q h. self-fails (not (is_use t v.kind q)) (active t v q) _),
    )

pub fifty-exactly : FiftyExactly
unfolding FiftyExactly AllServed some_unserved fails_still
fifty-exactly t c = (
  (λ e i q h here hq hu ha.
      let e₁ = any_none 32 _ e i h in
      served t c i (instance c i) (instance c i) (eqb-true _ 0 (not-false _ (rw here at e₁))) q hq hu ha),
  (λ f. none_any 32 _ (λ i h. by-test (instance c i).present
      (λ here. rw (here, eq-eqb _ 0 (still t c i (λ q hq hu ha. f i q h here hq hu ha))))
      (λ gone. rw gone))),
)
