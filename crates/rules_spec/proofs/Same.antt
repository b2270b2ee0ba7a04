-- The table and the list hold the same connections: at the start, after a `con` and after a `dcon`; and then they answer alike whatever the
-- rules ask.
-- Assumes nothing.
use mathlib.Core.Path.{◌≡◌, sym, ap, ◌∙◌}
use mathlib.Core.Logic.{⊎_elim}
use mathlib.Core.Bool.{Bool, true, false, false≢true}
use Prim.Native.Nat.{suc, ◌≤◌, ◌<◌}
use native.Mathlib.Omega.{arith}
use lib.ListN.{length, length-set, length-replicate}
use Rattle.sets.proofs.Tally.{tally-none}
use Rattle.item_spec.proofs.Tests.{by-test}
use Rattle.model.specs.declared.Connection.{Connection}
use Rattle.model.specs.Empty.{no_connection, no_server, start}
use Rattle.model.specs.View.{is_served}
use Rattle.model.proofs.View.{start-lengths, start-unserved}
use Rattle.rules_spec.specs.Standing.{Standing, in_table}
use Rattle.rules_spec.specs.Ports.{is_of}
use Rattle.rules_spec.specs.DCon.{same_connection}
use Rattle.rules_spec.specs.Listed.{Chain, place_of, in_list, appended, removed, InList, listed_start}
use Rattle.rules_spec.proofs.Closing.{length-closed}
use Rattle.rules_spec.proofs.Local.{Wires}
use Rattle.rules_spec.proofs.Connections.{count-is, Stands, Small, slot_of, serving, freed, some-stands, stands-some, con-new, con-only, con-keeps, con-count, dcon-only, dcon-keeps, dcon-elsewhere, dcon-count}
use Rattle.rules_spec.proofs.Chains.{Once, some-linked, linked-none, append-keeps, append-stands, append-only, append-once, place-stands, remove-only, remove-keeps, remove-once, remove-gone}

pub record Same (x : Wires) (y : Chain) : Type 0 where
  pub full : length x ≡ 512
  pub there : (k : Connection) → Stands x k → InList y k
  pub back : (k : Connection) → InList y k → Stands x k
  pub count : (in_table x).count ≡ y.count
  pub once : Once y
  pub fits : y.count ≤ length y.list
  pub long : length y.list ≡ 64

-- ---- whatever the rules ask
module _ (x : Wires) (y : Chain) (same : Same x y) where
  some_same : (test : Connection → Bool) → (in_table x).some test ≡ (in_list y).some test
  some_same test = by-test ((in_list y).some test) (λ e. yes e ∙ sym e) (λ e. no e ∙ sym e)
    where
      yes : (in_list y).some test ≡ true → (in_table x).some test ≡ true
      yes e = let (k, j, f) = some-linked y test e in stands-some x test k (same.back k j) f

      no : (in_list y).some test ≡ false → (in_table x).some test ≡ false
      no e =
          by-test ((in_table x).some test)
          (λ on. let (k, j, f) = some-stands x test on in absurd (false≢true (sym (linked-none y test k e (same.there k j)) ∙ f)))
          (λ off. off)

  pub asked-same : in_table x ≡ in_list y
  unfolding in_table in_list
  asked-same = λ i. record { some = λ test. some_same test i; count = same.count i }

-- ---- at the start
pub start-same : Same start.servers listed_start.connections
unfolding listed_start
start-same =
    record {
      full = start-lengths.2;
      there = λ k (s, h, on, is). absurd (false≢true (sym (start-unserved s) ∙ on));
      back = λ k (l, h, is). absurd (omega arith);
      count = count-is start.servers start-lengths.2 ∙ tally-none 512 (is_served start.servers) start-unserved;
      once = λ l m h g e f. absurd (omega arith);
      fits = omega arith;
      long = length-replicate 64 no_connection;
    }

-- ---- con
pub con-same : (x : Wires) (y : Chain) → Same x y → (k : Connection) → Small k → (in_table x).some (is_of k.user k.useport) ≡ false → (in_table x).count < 64
    → Same (serving x k) (appended y k)
unfolding appended
con-same x y same k small free few =
    record {
      full = length-set x (slot_of k) _ ∙ same.full;
      there = λ j z.
          ⊎_elim (λ s. append-keeps y k j (same.there j s)) (λ e. rw e (append-stands y k room)) (con-only x same.full k small j z);
      back = λ j z.
          ⊎_elim (λ s. con-keeps x same.full k small free j (same.back j s)) (λ e. rw e (con-new x same.full k small)) (append-only y k room j z);
      count = con-count x same.full k small free ∙ ap suc same.count;
      once = append-once y k room (ap (λ (s : Standing). s.some (is_of k.user k.useport)) (sym (asked-same x y same)) ∙ free) same.once;
      fits = rw (length-set y.list y.count k) room;
      long = length-set y.list y.count k ∙ same.long;
    }
  where
    room : y.count < length y.list
    room = omega (arith, same.count, same.long, few)

-- ---- dcon
pub dcon-same : (x : Wires) (y : Chain) → Same x y → (k : Connection) → (in_table x).some (same_connection k) ≡ true → Same (freed x k) (removed y k)
unfolding removed
dcon-same x y same k found =
    record {
      full = length-set x (slot_of k) no_server ∙ same.full;
      there = λ j z.
          remove-keeps y k listed same.fits j (same.there j (dcon-only x same.full k stands j z))
          (λ e. dcon-elsewhere x same.full k stands j z (ap slot_of e));
      back = λ j z.
          dcon-keeps x same.full k stands j (same.back j (remove-only y k listed same.fits j z)) (remove-gone y k listed same.fits same.once j z);
      count = omega (arith, dcon-count x same.full k stands, same.count);
      once = remove-once y k listed same.fits same.once;
      fits = rw (length-closed no_connection y.list (place_of y k) y.count) (omega (arith, same.fits));
      long = length-closed no_connection y.list (place_of y k) y.count ∙ same.long;
    }
  where
    listed : (in_list y).some (same_connection k) ≡ true
    listed = ap (λ (s : Standing). s.some (same_connection k)) (sym (asked-same x y same)) ∙ found

    stands : Stands x k
    stands = same.back k (place-stands y k listed same.fits)
