-- What the rules take as pushed before the first instruction: what is queued at a start, or its last tickets, and they rise.
-- Assumes nothing.
use mathlib.Core.Path.{◌≡◌, refl, ap, ◌∙◌, subst⁻¹}
use mathlib.Core.Logic.{◌≢◌}
use mathlib.Core.List.{List, [], ◌∷◌}
use mathlib.Core.Bool.{true, false}
use Prim.Native.Nat.{ℕ, zero, suc, ◌+◌, ◌*◌, ◌≤◌, ◌<◌}
use native.Mathlib.Omega.{arith}
use lib.Dec.{eqb}
use lib.ListN.{get_or}
use borrow.Author.Tests.{ne_eqb, eqb-false}
use Rattle.item_spec.proofs.Tests.{by-test}
use Rattle.model.specs.declared.Tables.{Tables}
use Rattle.model.specs.declared.Begun.{Begun}
use Rattle.model.specs.declared.Program.{Program}
use Rattle.model.specs.declared.Instance.{Instance}
use Rattle.model.specs.declared.Configuration.{Configuration}
use Rattle.model.specs.Empty.{start, none_begun}
use Rattle.model.specs.View.{stamp_in, list_of, queue_of, begun_with, instance, slot}
use Rattle.model.proofs.View.{all_alike, start-instance}
use Rattle.read_spec.specs.Limits.{has_tickets}
use Rattle.read_spec.proofs.Rests.{run-gives}
use Rattle.rules_spec.specs.Tickets.{stamped, last_alone, begun_to, Rises, Ticketed}
use Rattle.rules_spec.specs.Proper.{slot_limit}
use Rattle.rules_spec.proofs.Tables.{Facts, facts}
use Rattle.start_spec.specs.Permitted.{Permitted, TicketsFit, StartsFit, StartsShowTheTail, NothingUpFits}
use Rattle.start_spec.proofs.Proper.{TailAt, Small, StampsAt, Stamps, runs-start}

stamped-is : (n q : ℕ) (f : ℕ → ℕ) → q ≤ n → ((r : ℕ) → r < q → stamp_in (f r) ≢ 0) → ((r : ℕ) → r < n → q ≤ r → f r ≡ 0) → stamped n f ≡ list_of q f
unfolding stamped list_of
stamped-is zero zero f h some none = refl
stamped-is zero (suc q) f h some none = absurd (omega arith)
stamped-is (suc n) zero f h some none = rw (none 0 (omega arith) (omega arith))
stamped-is (suc n) (suc q) f h some none =
    rw (ne_eqb (stamp_in (f 0)) 0 (some 0 (omega arith)), stamped-is n q (λ r. f (suc r)) (omega arith) (λ r l. some (suc r) (omega arith)) (λ r l m. none (suc r) (omega arith) (omega arith)))

alone-ticketed : (n : ℕ) → n ≤ 256 → Ticketed (last_alone n)
unfolding Ticketed
alone-ticketed n h = by-test (eqb n 0) (λ e. rw e tt) (λ e. let z = eqb-false n 0 e in rw e (λ q. z (omega arith), omega arith, tt))

list-ticketed : (n : ℕ) (f : ℕ → ℕ) → ((r : ℕ) → r < n → (stamp_in (f r) ≢ 0) × (f r < 2056)) → Ticketed (list_of n f)
unfolding Ticketed list_of
list-ticketed zero f h = tt
list-ticketed (suc n) f h = let (a, b) = h 0 (omega arith) in (a, b, list-ticketed n (λ r. f (suc r)) (λ r l. h (suc r) (omega arith)))

alone-rises : (n : ℕ) → Rises (last_alone n)
unfolding Rises
alone-rises n = by-test (eqb n 0) (λ e. rw e tt) (λ e. rw e tt)

pub fits-of : (default : ℕ) (t : Tables) (p : Program) → Facts default t p → (c : Configuration) (l : List ℕ) → Permitted default t p c → Stamps p c → Small l → has_tickets p.edition ≡ true → TicketsFit (begun_with p c.queue l) c
unfolding begun_to queue_of StampsAt Rises Ticketed list_of slot_limit
fits-of default t p law c l ok stamps small has =
    record {
      queued = λ i some. begun-is i ∙ same (queue_of c i) (get_or l i 0) some;
      rises = λ i. subst⁻¹ Rises (begun-is i) (both (queue_of c i) (get_or l i 0) (rising i));
      tickets = λ i. subst⁻¹ Ticketed (begun-is i) (either (queue_of c i) (get_or l i 0) (small i) (having i));
    }
  where
    same : (q : List ℕ) (n : ℕ) → q ≢ [] → (elim q [ [] ↦ last_alone n | s ∷ k ↦ s ∷ k ]) ≡ q
    same [] n some = absurd (some refl)
    same (s ∷ q) n some = refl

    both : (q : List ℕ) (n : ℕ) → Rises q → Rises (elim q [ [] ↦ last_alone n | s ∷ k ↦ s ∷ k ])
    both [] n r = alone-rises n
    both (s ∷ q) n r = r

    either : (q : List ℕ) (n : ℕ) → n ≤ 256 → Ticketed q → Ticketed (elim q [ [] ↦ last_alone n | s ∷ k ↦ s ∷ k ])
    either [] n h r = alone-ticketed n h
    either (s ∷ q) n h r = r

    none-queued : (i : ℕ) → (instance c i).present ≡ false → (instance c i).queued ≡ 0
    none-queued i off = ap (λ (v : Instance). v.queued) (ok.tidy.gone i off)

    few : (i : ℕ) → (instance c i).queued ≤ 8
    few i = by-test (instance c i).present
        (λ here. let a = (ok.proper.each i here).short in let b = law.depth in omega arith)
        (λ off. omega (arith, none-queued i off))

    are : (i : ℕ) → stamped 8 (slot c i) ≡ list_of (instance c i).queued (slot c i)
    are i = stamped-is 8 (instance c i).queued (slot c i) (few i)
        (λ r l. by-test (instance c i).present (λ here. (stamps has i here).0 r l) (λ off. absurd (omega (arith, none-queued i off))))
        (λ r l m. ok.tidy.free i r l m)

    having : (i : ℕ) → Ticketed (list_of (instance c i).queued (slot c i))
    having i = list-ticketed (instance c i).queued (slot c i)
        (λ r l. by-test (instance c i).present
        (λ here. ((stamps has i here).0 r l, (rw has at ((ok.proper.each i here).tickets r l))))
        (λ off. absurd (omega (arith, none-queued i off))))

    begun-is : (i : ℕ) → begun_to (begun_with p c.queue l) i ≡ (elim (queue_of c i) [ [] ↦ last_alone (get_or l i 0) | s ∷ k ↦ s ∷ k ])
    begun-is i = ap (λ (q : List ℕ). elim q [ [] ↦ last_alone (get_or l i 0) | s ∷ k ↦ s ∷ k ]) (are i)

    rising : (i : ℕ) → Rises (list_of (instance c i).queued (slot c i))
    rising i = by-test (instance c i).present (λ here. (stamps has i here).1) (λ off. rw (none-queued i off) tt)

pub starts_fit : StartsFit
unfolding StartsFit
starts_fit default t p s r x small law has e =
    let known = facts default t p small law in
    let (ok, stamps, small, _) = run-gives (runs-start default t p known) s x r e in
    fits-of default t p known x.0 x.1 ok stamps small has

pub starts-show-the-tail : StartsShowTheTail
unfolding StartsShowTheTail TailAt
starts-show-the-tail default t p s r x small law has e i here some = (run-gives (runs-start default t p (facts default t p small law)) s x r e).3 has i here some

-- where nothing was pushed before the first instruction
pub none-begun : (p : Program) → p.begun ≡ none_begun → (i : ℕ) → begun_to p i ≡ []
unfolding begun_to stamped start none_begun
none-begun p e i = ap (λ (b : Begun). elim (stamped 8 (λ r. get_or b.queue (i * 8 + r) 0)) [ [] ↦ last_alone (get_or b.last i 0) | s ∷ q ↦ s ∷ q ]) e ∙ rw (all_alike {A = ℕ} 256 (i * 8 + 0) 0, all_alike {A = ℕ} 32 i 0)

pub nothing-up-fits : NothingUpFits
unfolding NothingUpFits Rises Ticketed queue_of list_of
nothing-up-fits p e =
    record {
      queued = λ i some. absurd (some (rw (start-instance i) refl));
      rises = λ i. subst⁻¹ Rises (none-begun p e i) tt;
      tickets = λ i. subst⁻¹ Ticketed (none-begun p e i) tt;
    }
