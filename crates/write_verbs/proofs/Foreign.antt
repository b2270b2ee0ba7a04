-- The number of an instruction in a sheet whose lines say its verb, and in one whose lines do not.
-- Assumes nothing.
use Prim.Native.Nat.{ℕ}
use mathlib.Core.Bool.{Bool, true, false, ◌||◌, false≢true}
use mathlib.Core.Path.{◌≡◌, refl, sym}
use lib.Dec.{eqb}
use borrow.Author.Tests.{eqb-true}
use Rattle.item_spec.proofs.Tests.{by-test, or-not}
use Rattle.model.specs.declared.Instruction.{Instruction}
use Rattle.model.specs.Verb.{pushb_verb, push_ticket_verb, wait_ticket_verb}
use Rattle.read_spec.specs.Limits.{has_tickets}
use Rattle.write_spec.specs.Kinds.{do_fault}
use Rattle.write_verbs.specs.Verbs.{edition_of, is_foreign}

neither : (a b : Bool) → (a || b) ≡ false → (a ≡ false) × (b ≡ false)
neither true b e = absurd (false≢true (sym e))
neither false b e = (refl, e)

module _ (e n : ℕ) (x : Instruction) where
  same-fault : (f : ℕ) → has_tickets f ≡ has_tickets e → do_fault f n x ≡ do_fault e n x
  unfolding do_fault
  same-fault f q = rw q

  plain-fault : (f : ℕ) → eqb x.verb pushb_verb ≡ false → eqb x.verb push_ticket_verb ≡ false → eqb x.verb wait_ticket_verb ≡ false → do_fault f n x ≡ do_fault e n x
  unfolding do_fault
  plain-fault f a b c = rw (a, b, c)

  pub foreign-fault : is_foreign e x.verb ≡ true → 2 ≡ do_fault e n x
  unfolding do_fault
  foreign-fault q =
      by-test (has_tickets e)
      (λ k. let v = eqb-true x.verb pushb_verb (rw k at q) in rw (v, k))
      (λ k. by-test (eqb x.verb push_ticket_verb)
      (λ a. let v = eqb-true x.verb push_ticket_verb a in rw (v, k))
      (λ a. let v = eqb-true x.verb wait_ticket_verb (or-not (eqb x.verb push_ticket_verb) _ (rw k at q) a) in rw (v, k)))

  pub own-fault : is_foreign e x.verb ≡ false → do_fault (edition_of x.verb) n x ≡ do_fault e n x
  own-fault q =
      by-test (eqb x.verb push_ticket_verb || eqb x.verb wait_ticket_verb)
      (λ a. by-test (has_tickets e) (λ k. rw a (same-fault 2 (sym k))) (λ k. absurd (false≢true (sym (rw (k, a) at q)))))
      (λ a. by-test (has_tickets e)
      (λ k. rw a (plain-fault 1 (rw k at q) (neither (eqb x.verb push_ticket_verb) _ a).0 (neither (eqb x.verb push_ticket_verb) _ a).1))
      (λ k. rw a (same-fault 1 (sym k))))
