-- What is asked of the connection of use port q of instance i is told by its server alone, for every i and q.
-- Assumes nothing.
use mathlib.Core.Path.{◌≡◌, ap, ◌∙◌}
use mathlib.Core.Logic.{by_cases}
use mathlib.Core.Bool.{Bool, true, false, not, ◌&&◌, and-eq-true_iff}
use Prim.Native.Nat.{ℕ, ◌/◌, ◌%◌, ◌≤◌, ◌<◌}
use native.Mathlib.Omega.{arith}
use native.Mathlib.Decide.{dec_lt}
use lib.Dec.{eqb}
use lib.ListN.{length}
use borrow.Author.Tests.{eqb-true, lt-ltb, le-ltb}
use Rattle.item_spec.proofs.Tests.{by-test}
use Rattle.model.specs.declared.Connection.{Connection}
use Rattle.model.specs.declared.Configuration.{Configuration}
use Rattle.model.specs.Empty.{no_server}
use Rattle.model.specs.View.{port_number, is_served, connection_of}
use Rattle.model.proofs.View.{past_end}
use Rattle.rules_spec.specs.Standing.{some_connection}
use Rattle.rules_spec.proofs.Connections.{Stands, some-stands, one-look}
use Rattle.words.specs.Parts.{server_of}

module _ (c : Configuration) (full : length c.servers ≡ 512) (i q : ℕ) where
  -- use port q of i is connected
  abbrev pub has_server : Bool
  has_server = not (eqb (server_of c i q) no_server)

  module _ (test : Connection → Bool) where
    abbrev asked : Connection → Bool
    asked k = eqb k.user i && (eqb k.useport q && test k)

    -- a connection of port q of i stands in a place that is i's
    none-past : (i < 32 → 16 ≤ q) → some_connection c asked ≡ false
    none-past far =
        by-test (some_connection c asked) (λ on. absurd (no (some-stands c.servers asked on))) (λ off. off)
      where
        no : (k : Connection) × Stands c.servers k × (asked k ≡ true) → ⊥
        no (k, z, f) =
            let (a, rest) = (and-eq-true_iff (eqb k.user i) _).0 f in
            let (b, _) = (and-eq-true_iff (eqb k.useport q) _).0 rest in
            let (s, h, on, is) = z in
            let user : s / 16 ≡ i = ap (λ (k : Connection). k.user) is ∙ eqb-true _ _ a in
            let useport : s % 16 ≡ q = ap (λ (k : Connection). k.useport) is ∙ eqb-true _ _ b in
            let past = far (omega arith) in
            omega arith

    pub looked : some_connection c asked ≡ (has_server && test (connection_of (port_number i q) (server_of c i q)))
    unfolding is_served
    looked =
        by_cases (dec_lt q 16)
        (λ l. rw (lt-ltb q 16 l)
        (by_cases (dec_lt i 32) (λ h. one-look c.servers i q test h l)
        (λ n. rw (past_end c.servers no_server {i = port_number i q} full (omega arith)) (none-past (λ h. absurd (n h))))))
        (λ n. let m : 16 ≤ q = omega arith in rw (le-ltb q 16 m) (none-past (λ h. m)))
