-- "`pushb`: present, behavior exists, queue shorter than the depth; appended last." Depth 0 stands for the default. "19, ticket not above the
-- last, after 13 and before 20".
use Rattle.std.specs.Prelude.{Bool, false, not, cond, ℕ, suc, ◌+◌, ◌*◌, eqb, ltb, set}
use Rattle.model.specs.declared.Tables.{Tables}
use Rattle.model.specs.declared.Configuration.{Configuration}
use Rattle.model.specs.View.{type_of, instance, behavior_in, put, with_queue}
use Rattle.rules_spec.specs.Refusal.{◌⇒◌∣◌, allowed, id_absent, no_such, ticket_not_above, queue_full}
use Rattle.rules_spec.specs.Instance.{with_queued}

-- what the slot gets, and whether it has a ticket that is not above the last
pub record Push : Type 0 where
  pub slot : ℕ
  pub late : Bool

abbrev pub push_with : ℕ → Bool → Push
push_with s late = record { slot = s; late = late }

-- without a ticket
abbrev pub plain : ℕ → Push
plain b = push_with b false

abbrev pub depth_of : ℕ → Tables → ℕ
depth_of default t = cond (eqb t.depth 0) default t.depth

unfoldable pub pushb_check : ℕ → Tables → Configuration → ℕ → Push → ℕ
pushb_check default t c i b =
    not (instance c i).present ⇒ id_absent
    ∣ not (ltb (behavior_in b.slot) (type_of t (instance c i).kind).behaviors) ⇒ no_such
    ∣ b.late ⇒ ticket_not_above
    ∣ not (ltb (instance c i).queued (depth_of default t)) ⇒ queue_full
    ∣ allowed

unfoldable pub pushed : Configuration → ℕ → ℕ → Configuration
pushed c i b =
    put (with_queue c (set c.queue (i * 8 + (instance c i).queued) b)) i (with_queued (instance c i) (suc (instance c i).queued))
