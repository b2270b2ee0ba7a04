-- Where the count is the last word, the slot lies past the queue and the count stays.
use mathlib.Core.Path.{◌≡◌, refl, ◌∙◌}
use mathlib.Core.List.{List}
use mathlib.Core.Bool.{cond}
use Prim.Native.Nat.{ℕ, suc, ◌+◌, ◌*◌}
use native.Mathlib.Omega.{arith}
use lib.Dec.{ltb}
use lib.ListN.{length, set}
use lib.Seq.{set_out, set-get_or}
use native.Mathlib.Decide.{dec_lt}
use mathlib.Core.Logic.{by_cases}
use borrow.Author.Tests.{lt-ltb, le-ltb}
use Rattle.model.specs.declared.Configuration.{Configuration}
use Rattle.model.specs.Empty.{absent}
use Rattle.model.specs.View.{instance, put, with_queue}
use Rattle.rules_spec.specs.Instance.{with_queued}
use Rattle.model.proofs.View.{length-list}
use Rattle.rules_spec.specs.PushB.{pushed}
use Rattle.words.specs.Words.{state_in}
use borrow.Author.Rules.{rules}
use Rattle.step_instructions.proofs.push_to.Statement.{statement}
use Rattle.step_instructions.proofs.push_to.Tie as tie

queue_long : (ws : List ℕ) → length (state_in ws).queue ≡ 256
unfolding state_in
queue_long ws = length-list 256 _

counted : (c : Configuration) (i b : ℕ) → length c.queue ≡ 256
    → put (with_queue c (set c.queue (i * 8 + (instance c i).queued) b)) i (with_queued (instance c i) (cond (ltb (instance c i).queued 4294967295) (suc (instance c i).queued) (instance c i).queued))
    ≡ cond (ltb (instance c i).queued 4294967295) (pushed c i b) c
unfolding pushed put with_queue with_queued
counted c i b long =
    by_cases (dec_lt (instance c i).queued 4294967295)
    (λ h. rw (lt-ltb _ _ h) refl)
    (λ h. rw (le-ltb (instance c i).queued 4294967295 (omega arith), set_out c.queue (i * 8 + (instance c i).queued) b (omega arith), set-get_or c.instances i absent) refl)

returns : tie.Need-returns
unfolding with_queue
returns c =
    let m = c in
    let p = c in
    let n = c in
    let a = c.args in
    c.put_queued.ensures ∙ rw (p.put_slot.ensures, m.one_more.ensures, n.queued-n.ensures) (counted (state_in a.state.now) a.i a.b (queue_long a.state.now))

pub push_to_spec : {M : Type 1} → statement M
push_to_spec = tie.close (tie.spec
    (λ c κs. search rules) (λ c. search rules) (λ c. search rules) (λ c. search rules) (λ c κs. search rules) (λ c κs. search rules)
    (λ c κs. search rules) returns)
