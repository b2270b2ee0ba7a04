-- The report of a proper configuration, on lawful tables and program, has at most 8,192 bytes.
-- Assumes nothing.
use Prim.Native.Nat.{ℕ, zero, suc, ◌+◌, ◌*◌, ◌^◌, ◌<◌, ◌≤◌}
use mathlib.Core.List.{List}
use mathlib.Core.Bool.{true}
use mathlib.Core.Path.{◌≡◌, ap, refl}
use native.Mathlib.Omega.{arith}
use lib.Dec.{lit≤}
use lib.ListN.{length, length-append}
use Rattle.sets.specs.Test.{tally}
use Rattle.sets.proofs.Tally.{tally-le}
use Rattle.item_spec.specs.Reader.{bytes}
use Rattle.item_spec.specs.Write.{number_text, in_turn, one_text, two_text, three_text, four_text}
use Rattle.item_spec.proofs.Tests.{by-test}
use Rattle.model.specs.declared.Tables.{Tables}
use Rattle.model.specs.declared.Program.{Program}
use Rattle.model.specs.declared.Connection.{Connection}
use Rattle.model.specs.declared.Configuration.{Configuration}
use Rattle.model.specs.declared.Concerned.{Concerned}
use Rattle.model.specs.declared.Concerned.TheVariants.{NoPort, UsePort}
use Rattle.model.specs.declared.Walked.{Walked}
use Rattle.model.specs.View.{type_of, instance, is_served, connection, slot, queue_of}
use Rattle.read_spec.specs.Limits.{has_tickets}
use Rattle.read_spec.specs.Lawful.{Lawful}
use Rattle.rules_spec.specs.Standing.{standing}
use Rattle.rules_spec.specs.Proper.{slot_limit, Joins, Proper}
use Rattle.rules_spec.proofs.Allowed.{present-in}
use Rattle.rules_spec.proofs.Connections.{count-is}
use Rattle.rules_spec.proofs.Tables.{Facts, facts}
use Rattle.report_spec.specs.Report.{count_text, port_text, instance_text, connection_text, instance_at, connection_line, instances_text, report_with, report}
use Rattle.report_spec.proofs.Sums.{turns-le}
use Rattle.report_spec.proofs.Lines.{line_at, lines-in-turn}
use Rattle.report_spec.proofs.Widths.{number-le, places-le, apart-le, queue-le}

-- a line `key=number`, of at most n + 1 digits
pub count-le : (k : List ℕ) (n v : ℕ) → v < 10 ^ suc n → length (count_text k v) ≤ length k + suc n + 1
unfolding count_text one_text
count-le k n v h = simp length-append (omega (arith, number-le n v h))

-- the line of a port of two digits
port-le : (k : Concerned) → ((q : ℕ) → k ≡ UsePort q → q < 16) → length (port_text k) ≤ 8
unfolding port_text
port-le NoPort h = lit≤ tt
port-le (UsePort q) h = count-le (bytes "port=") 1 q (omega (arith, h q refl))

limit-le : (p : Program) → slot_limit p ≤ 2056
unfolding slot_limit
limit-le p = by-test (has_tickets p.edition) (λ e. rw e (omega arith)) (λ e. rw e (omega arith))

module _ (default : ℕ) (t : Tables) (p : Program) (c : Configuration) (f : Facts default t p) (w : Proper default t p c) where
  -- ---- instances
  instance-le : (i : ℕ) → i < 32 → (instance c i).present ≡ true → length (instance_text i (instance c i) (queue_of c i)) ≤ 195
  unfolding instance_text queue_of
  instance-le i h e =
      let v = w.each i e in
      simp length-append (omega (
        arith,
        number-le 1 i (omega arith),
        number-le 1 (instance c i).kind (omega (arith, v.kind, f.count)),
        places-le (instance c i).marked (λ x l. omega (arith, v.marked x l, (f.types (instance c i).kind v.kind).places)),
        apart-le (instance c i).running (instance c i).ended v.disjoint,
        queue-le (instance c i).queued (slot c i) (λ r l. omega (arith, v.tickets r l, limit-le p)),
        v.short,
        f.depth,
      ))

  instances-le : length (instances_text c) ≤ 6240
  unfolding instances_text instance_at
  instances-le = turns-le (instance_at c) 195 32 (λ i h. by-test (instance c i).present (λ e. rw e (instance-le i h e)) (λ e. rw e (omega arith)))

  -- ---- connections
  -- the two numbers that name one end
  end-le : (i q : ℕ) → (instance c i).present ≡ true → q < (type_of t (instance c i).kind).ports → length (number_text i) + length (number_text q) ≤ 4
  end-le i q e h =
      omega (
        arith,
        number-le 1 i (omega (arith, present-in c i e, w.instances-length)),
        number-le 1 q (omega (arith, (f.types (instance c i).kind (w.each i e).kind).ports)),
      )

  connection-le : (k : Connection) → Joins t c k → length (connection_text k) ≤ 23
  unfolding connection_text four_text three_text two_text one_text
  connection-le k j = simp length-append (omega (arith, end-le k.user k.useport j.user j.useport, end-le k.provider k.provideport j.provider j.provideport))

  -- counted by use ports
  connections-le : (n : ℕ) → n ≤ 512 → length (in_turn (line_at c.servers) n) ≤ 23 * tally n (is_served c.servers)
  unfolding in_turn tally connection_line is_served
  connections-le zero h = omega arith
  connections-le (suc n) h =
      by-test (is_served c.servers n)
      (λ e. rw e (simp length-append (omega (arith, connections-le n (omega arith), connection-le (connection c n) (w.connections n (omega arith) e)))))
      (λ e. rw e (simp length-append (omega (arith, connections-le n (omega arith)))))

-- ---- the whole
pub report-tight : (default : ℕ) (t : Tables) (p : Program) (w : Walked)
    → default ≤ 8 → Lawful t p → Proper default t p w.configuration → w.accepted ≤ 1024 → w.refused < 100 → ((q : ℕ) → w.port ≡ UsePort q → q < 16) → length (report w) ≤ 7800
unfolding report report_with
report-tight default t p w small law proper accepted refused port =
    let c = w.configuration in
    let f = facts default t p small law in
    simp length-append (omega (
      arith,
      count-le (bytes "accepted=") 3 w.accepted (omega arith),
      count-le (bytes "refused=") 1 w.refused refused,
      port-le w.port port,
      count-le (bytes "next=") 2 c.done (omega (arith, proper.done, f.program)),
      count-le (bytes "instances=") 1 (tally 32 (λ i. (instance c i).present)) (omega (arith, tally-le 32 (λ i. (instance c i).present))),
      instances-le default t p c f proper,
      count-le (bytes "connections=") 1 (standing c).count (omega (arith, proper.few)),
      count-is c.servers proper.servers-length,
      ap length (lines-in-turn c proper.servers-length),
      connections-le default t p c f proper 512 (omega arith),
      proper.few,
    ))

pub report-le : (default : ℕ) (t : Tables) (p : Program) (w : Walked)
    → default ≤ 8 → Lawful t p → Proper default t p w.configuration → w.accepted ≤ 1024 → w.refused < 100 → ((q : ℕ) → w.port ≡ UsePort q → q < 16) → length (report w) ≤ 8182
report-le default t p w small law proper accepted refused port = let h = report-tight default t p w small law proper accepted refused port in omega arith
