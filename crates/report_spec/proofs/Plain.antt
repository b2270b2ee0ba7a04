-- Where no push had a ticket, the report is what it was before there were tickets.
-- Assumes nothing.
use Prim.Native.Nat.{ℕ, zero, suc, ◌%◌, ◌<◌}
use mathlib.Core.List.{List, ◌∷◌, ◌++◌, append-nil}
use mathlib.Core.Path.{◌≡◌, refl, ap, ap₂, ◌∙◌}
use native.Mathlib.Omega.{arith}
use borrow.Author.Tests.{eq-eqb}
use Rattle.item_spec.specs.Write.{number_text, more_text, list_text}
use Rattle.item_spec.proofs.Tests.{by-test}
use Rattle.model.specs.declared.Instance.{Instance}
use Rattle.model.specs.declared.Configuration.{Configuration}
use Rattle.model.specs.View.{instance, slot, list_of, queue_of, stamp_in}
use Rattle.report_spec.specs.Report.{slot_text, more_slots, queue_text, instance_text, instance_at, instances_text, report_with, report}
use Rattle.report_spec.specs.Plain.{plain_instance, plain_at, plain_report, NoTickets, PlainAsBefore}
use Rattle.report_spec.proofs.Lines.{in-turn-same}

pub slot-plain : (s : ℕ) → s < 8 → slot_text s ≡ number_text s
unfolding slot_text
slot-plain s h = rw (eq-eqb (stamp_in s) 0 (omega arith)) (append-nil (number_text (s % 8)) ∙ ap number_text (omega arith))

more-plain : (n : ℕ) (f : ℕ → ℕ) → ((r : ℕ) → r < n → f r < 8) → more_slots (list_of n f) ≡ more_text (list_of n f)
unfolding more_slots more_text list_of
more-plain zero f h = refl
more-plain (suc n) f h = ap₂ (λ (a b : List ℕ). (43 ∷ a) ++ b) (slot-plain (f 0) (h 0 (omega arith))) (more-plain n (λ r. f (suc r)) (λ r l. h (suc r) (omega arith)))

pub queue-plain : (n : ℕ) (f : ℕ → ℕ) → ((r : ℕ) → r < n → f r < 8) → queue_text (list_of n f) ≡ list_text (list_of n f)
unfolding queue_text list_text list_of
queue-plain zero f h = refl
queue-plain (suc n) f h = ap₂ ◌++◌ (slot-plain (f 0) (h 0 (omega arith))) (more-plain n (λ r. f (suc r)) (λ r l. h (suc r) (omega arith)))

instance-plain : (i : ℕ) (w : Instance) (n : ℕ) (f : ℕ → ℕ) → ((r : ℕ) → r < n → f r < 8) → instance_text i w (list_of n f) ≡ plain_instance i w (list_of n f)
unfolding instance_text plain_instance
instance-plain i w n f h = rw (queue-plain n f h)

line_plain : (c : Configuration) (i : ℕ) → NoTickets c → instance_at c i ≡ plain_at c i
unfolding instance_at plain_at queue_of
line_plain c i none =
    by-test (instance c i).present (λ e. rw e (instance-plain i (instance c i) (instance c i).queued (slot c i) (λ r l. none i r e l))) (λ e. rw e)

pub plain-as-before : PlainAsBefore
unfolding PlainAsBefore report report_with plain_report instances_text
plain-as-before w none =
    rw (in-turn-same 32 (instance_at w.configuration) (plain_at w.configuration) (λ i h. line_plain w.configuration i none))
