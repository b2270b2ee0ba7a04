-- What every point of a walk keeps (rules_spec/specs/Proper) is lawful to the screen, and no table has a use port twice.
-- Assumes nothing.
use mathlib.Core.Path.{◌≡◌, sym, ap, ap₂, ◌∙◌}
use mathlib.Core.Bool.{true, false, not, ◌&&◌}
use Prim.Native.Nat.{ℕ, zero, suc, ◌+◌, ◌^◌, ◌≤◌, ◌<◌}
use native.Mathlib.Nat.{pow-suc, lt_of_lt_of_le}
use native.Mathlib.Omega.{arith}
use lib.Dec.{eqb, leb}
use lib.Pow.{pow_mono}
use borrow.Author.Tests.{lt-ltb, le-leb, leb-true, leb-false, ne_eqb}
use Rattle.item_spec.proofs.Tests.{by-test}
use Rattle.sets.specs.Mask.{member, collect}
use Rattle.sets.proofs.Laws.{all_of, member-collect, member-past, collect-lt, same-members}
use Rattle.model.specs.declared.Tables.{Tables}
use Rattle.model.specs.declared.Program.{Program}
use Rattle.model.specs.declared.Connection.{Connection}
use Rattle.model.specs.declared.Configuration.{Configuration}
use Rattle.model.specs.Empty.{no_server}
use Rattle.model.specs.View.{type_of, instance, slot, port_number, server, is_served, connection}
use Rattle.read_spec.specs.Limits.{mask_ok}
use Rattle.rules_spec.specs.Con.{is_use_port, is_provide_port}
use Rattle.rules_spec.specs.Proper.{slot_limit, ProperInstance, Joins, Proper, SlotIsItsPort}
use Rattle.rules_spec.proofs.Connections.{slot-is-its-port}
use Rattle.judge_spec.specs.Course.{default_depth}
use Rattle.hall_configuration.specs.Lawful.{queued_lawful, numbers_lawful, instance_lawful, ends_lawful, connection_lawful, connections_lawful, configuration_lawful}
use Rattle.hall_configuration.proofs.Servers.{lawful-all}
use Rattle.hall.specs.Agree.{ProperIsLawful, NoUsePortTwice}

-- a set whose members lie below n, as a mask
below_power : (m : ℕ) → m < 2 ^ m
below_power zero = omega arith
below_power (suc m) = omega (arith, below_power m, pow-suc 2 m)

masked : (n m : ℕ) → ((x : ℕ) → member x m ≡ true → x < n) → mask_ok n m ≡ true
masked n m f = lt-ltb m (2 ^ n) (rw same (collect-lt n (λ x. member x m)))
  where
    past : (x : ℕ) → n ≤ x → member x m ≡ false
    past x l = by-test (member x m) (λ e. absurd (omega (arith, f x e))) (λ e. e)

    each : (x : ℕ) → x < m + n → member x m ≡ member x (collect n (λ y. member y m))
    each x l =
        by-test (leb n x)
        (λ e. let h = leb-true n x e in past x h ∙ sym (member-past n x _ h (collect-lt n (λ y. member y m))))
        (λ e. sym (member-collect n (λ y. member y m) x (leb-false n x e)))

    same : m ≡ collect n (λ x. member x m)
    same =
        same-members (m + n) m (collect n (λ x. member x m)) (lt_of_lt_of_le (below_power m) (pow_mono {j = m + n} (omega arith)))
        (lt_of_lt_of_le (collect-lt n (λ x. member x m)) (pow_mono {j = m + n} (omega arith))) each

-- a slot without a ticket is its behavior
plain-limit : (p : Program) → p.edition ≡ 1 → slot_limit p ≡ 8
unfolding slot_limit
plain-limit p one = rw one

module _ (t : Tables) (p : Program) (c : Configuration) (one : p.edition ≡ 1) (h : Proper default_depth t p c) where
  instance-lawful : (i : ℕ) → instance_lawful default_depth t c i ≡ true
  unfolding instance_lawful numbers_lawful queued_lawful
  instance-lawful i = by-test (instance c i).present (λ e. rw e (numbers (h.each i e))) (λ e. rw e)
    where
      numbers : ProperInstance default_depth t p (instance c i) (slot c i) → numbers_lawful default_depth t c i ≡ true
      numbers v =
          ap₂ ◌&&◌ (lt-ltb _ _ v.kind) (ap₂ ◌&&◌ (masked _ _ v.marked) (ap₂ ◌&&◌ (masked _ _ v.running) (ap₂ ◌&&◌ (masked _ _ v.ended)
          (ap₂ ◌&&◌ (le-leb _ _ v.short) (all_of _ _ (λ r l. lt-ltb (slot c i r) (type_of t (instance c i).kind).behaviors (omega (arith, v.queue r l, rw (plain-limit p one) at (v.tickets r l)))))))))

  ends-lawful : (k : Connection) → Joins t c k → ends_lawful t c k ≡ true
  unfolding ends_lawful is_use_port is_provide_port
  ends-lawful k j =
      ap₂ ◌&&◌ j.user (ap₂ ◌&&◌ j.provider (ap₂ ◌&&◌ (ap₂ ◌&&◌ (lt-ltb _ _ j.useport) j.uses)
      (ap₂ ◌&&◌ (ap₂ ◌&&◌ (lt-ltb _ _ j.provideport) (ap not j.provides)) (ap not (ne_eqb _ _ j.apart)))))

  connection-lawful : (s : ℕ) → s < 512 → connection_lawful t c s (server c.servers s) ≡ true
  unfolding connection_lawful is_served
  connection-lawful s l =
      by-test (eqb (server c.servers s) no_server) (λ e. rw e) (λ e. rw e (ends-lawful (connection c s) (h.connections s l (rw e))))

  lawful : configuration_lawful default_depth t p c ≡ true
  unfolding configuration_lawful connections_lawful
  lawful =
      ap₂ ◌&&◌ (all_of 32 _ (λ i _. instance-lawful i)) (ap₂ ◌&&◌ (le-leb _ _ h.done) (ap₂ ◌&&◌ (le-leb _ _ h.few)
      (lawful-all t c c.servers h.servers-length ∙ all_of 512 _ connection-lawful)))

pub proper-is-lawful : ProperIsLawful
unfolding ProperIsLawful
proper-is-lawful = lawful

pub no-use-port-twice : NoUsePortTwice
unfolding NoUsePortTwice SlotIsItsPort
no-use-port-twice c s r u q = slot-is-its-port c.servers s ∙ ap₂ port_number u q ∙ sym (slot-is-its-port c.servers r)
