-- The walk over the table and the walk over the list go together, step by step.
-- Assumes nothing.
use mathlib.Core.Path.{◌≡◌, refl, sym, ap, ap₂, ◌∙◌, subst}
use mathlib.Core.Logic.{◌≢◌}
use mathlib.Core.Bool.{◌&&◌, cond}
use mathlib.Core.List.{List, [], ◌∷◌}
use Prim.Native.Nat.{ℕ, suc, ◌≤◌}
use lib.Dec.{leb}
use borrow.Author.Tests.{eq-eqb, ne_eqb}
use Rattle.item_spec.proofs.Tests.{by-test}
use Rattle.model.specs.declared.Tables.{Tables}
use Rattle.model.specs.declared.Program.{Program}
use Rattle.model.specs.declared.Step.{Step}
use Rattle.model.specs.declared.Configuration.{Configuration}
use Rattle.model.specs.declared.Concerned.{Concerned}
use Rattle.model.specs.declared.Walked.{Walked}
use Rattle.model.specs.Empty.{start}
use Rattle.model.specs.View.{put, with_queue, with_servers, with_done}
use Rattle.read_spec.specs.Lawful.{Lawful}
use Rattle.rules_spec.specs.Refusal.{no_instruction_left}
use Rattle.rules_spec.specs.Standing.{Standing, in_table, standing}
use Rattle.rules_spec.specs.Closing.{renewed}
use Rattle.rules_spec.specs.Ports.{serves, blocks, employs, fails_unconnected, fails_unserved, fails_refusing, fails_in_use, port_check, concerned}
use Rattle.rules_spec.specs.Add.{add_check, added}
use Rattle.rules_spec.specs.Del.{del_check, deleted}
use Rattle.rules_spec.specs.PushB.{pushb_check, pushed}
use Rattle.rules_spec.specs.Con.{is_use_port, is_provide_port, con_check, connected}
use Rattle.rules_spec.specs.DCon.{dcon_check, disconnected}
use Rattle.rules_spec.specs.Wait.{wait_check}
use Rattle.rules_spec.specs.Fire.{fire_check, fire_to}
use Rattle.rules_spec.specs.End.{end_check, end_to}
use Rattle.rules_spec.specs.Enter.{enter_check, enter_to}
use Rattle.rules_spec.specs.Finish.{finish_check, finished}
use Rattle.rules_spec.specs.Action.{Action, add, del, pushb, con, dcon, wait, fire, end, enter, finish, action_check, effect, concern}
use Rattle.rules_spec.specs.Step.{is_next, action_at, action, step_check_with, check_at, step_check, step_to}
use Rattle.rules_spec.specs.Walk.{one_more, walk}
use Rattle.rules_spec.specs.Proper.{Proper}
use Rattle.rules_spec.specs.Listed.{Chain, Listed, listed, unlisted, listed_start, in_list, relinked, listed_check, listed_port, listed_to, ListedWalked, one_more_listed, listed_walk, Agrees, TableAndListAgree}
use Rattle.rules_spec.proofs.Tables.{Facts, facts}
use Rattle.rules_spec.proofs.Allowed.{con-facts, dcon-facts}
use Rattle.rules_spec.proofs.Walks.{walk-cases, number-facts, after-cases}
use Rattle.rules_spec.proofs.Connections.{new-joins}
use Rattle.rules_spec.proofs.Proper.{joins-small, step-proper, start-proper}
use Rattle.rules_spec.proofs.Same.{Same, asked-same, start-same, con-same, dcon-same}

-- ---- no rule looks at the table but through what stands

check-free : (default : ℕ) (t : Tables) (z : Standing) (c : Configuration) (y : Chain) (a : Action) → action_check default t z (unlisted (listed c y)) a ≡ action_check default t z c a
unfolding action_check add_check del_check pushb_check con_check is_use_port is_provide_port dcon_check wait_check fire_check end_check enter_check finish_check port_check fails_unconnected fails_unserved fails_refusing fails_in_use serves blocks employs
check-free default t z c y (add i k) = refl
check-free default t z c y (del i) = refl
check-free default t z c y (pushb i b) = refl
check-free default t z c y (con k) = refl
check-free default t z c y (dcon k) = refl
check-free default t z c y (wait i) = refl
check-free default t z c y (fire i p) = refl
check-free default t z c y (end i x) = refl
check-free default t z c y (enter i p) = refl
check-free default t z c y (finish i) = refl

concern-free : (t : Tables) (z : Standing) (c : Configuration) (y : Chain) (a : Action) (n : ℕ) → concern t z (unlisted (listed c y)) a n ≡ concern t z c a n
unfolding concern concerned fails_unconnected fails_unserved serves
concern-free t z c y (add i k) n = refl
concern-free t z c y (del i) n = refl
concern-free t z c y (pushb i b) n = refl
concern-free t z c y (con k) n = refl
concern-free t z c y (dcon k) n = refl
concern-free t z c y (wait i) n = refl
concern-free t z c y (fire i p) n = refl
concern-free t z c y (end i x) n = refl
concern-free t z c y (enter i p) n = refl
concern-free t z c y (finish i) n = refl

effect-free : (t : Tables) (c : Configuration) (y z : Chain) (a : Action) → listed (effect t (unlisted (listed c y)) a) z ≡ listed (effect t c a) z
unfolding effect added deleted renewed pushed connected disconnected fire_to end_to enter_to finished put with_queue with_servers
effect-free t c y z (add i k) = refl
effect-free t c y z (del i) = refl
effect-free t c y z (pushb i b) = refl
effect-free t c y z (con k) = refl
effect-free t c y z (dcon k) = refl
effect-free t c y z (wait i) = refl
effect-free t c y z (fire i p) = refl
effect-free t c y z (end i x) = refl
effect-free t c y z (enter i p) = refl
effect-free t c y z (finish i) = refl

-- ---- one step

module _ (default : ℕ) (t : Tables) (p : Program) (c : Configuration) (y : Chain) where
  number_same : Same c.servers y → (s : Step) → listed_check default t p (listed c y) s ≡ step_check default t p c s
  unfolding listed_check step_check_with action
  number_same same s =
      ap (λ (n : ℕ). cond (is_next s && leb p.count c.done) no_instruction_left n)
      (check-free default t (in_list y) c y (action p c s) ∙ ap (λ (z : Standing). action_check default t z c (action p c s)) (sym (asked-same c.servers y same)))

  port-same : Same c.servers y → (s : Step) (n : ℕ) → listed_port t p (listed c y) s n ≡ concern t (standing c) c (action p c s) n
  unfolding listed_port action
  port-same same s n = concern-free t (in_list y) c y (action p c s) n ∙ ap (λ (z : Standing). concern t z c (action p c s) n) (sym (asked-same c.servers y same))

  after_same : (s : Step) → listed_to t p (listed c y) s ≡ listed (step_to t p c s) (relinked (action p c s) y)
  unfolding listed_to step_to action with_done
  after_same s =
      by-test (is_next s)
      (λ e. rw e (ap (counted (suc c.done)) (effect-free t c y (relinked (action_at p c.done) y) (action_at p c.done))))
      (λ e. rw e (effect-free t c y _ _))
    where
      counted : ℕ → Listed → Listed
      counted n l = record { instances = l.instances; queue = l.queue; connections = l.connections; done = n }

  action-same : (law : Facts default t p) → Proper default t p c → Same c.servers y → (a : Action) → check_at default t c a ≡ 0
      → Same (effect t c a).servers (relinked a y)
  unfolding action_check effect relinked added deleted renewed pushed connected disconnected fire_to end_to enter_to finished put with_queue with_servers
  action-same law now same (con k) e =
      let f = con-facts t c k e in
      con-same c.servers y same k (joins-small default t p law c now k (new-joins t c k f)) f.free f.few
  action-same law now same (dcon k) e = dcon-same c.servers y same k (dcon-facts t c k e).stands
  action-same law now same (add i k) e = same
  action-same law now same (del i) e = same
  action-same law now same (pushb i b) e = same
  action-same law now same (wait i) e = same
  action-same law now same (fire i x) e = same
  action-same law now same (end i x) e = same
  action-same law now same (enter i x) e = same
  action-same law now same (finish i) e = same

  step_same : (law : Facts default t p) → Proper default t p c → Same c.servers y → (s : Step) → step_check default t p c s ≡ 0
      → Same (step_to t p c s).servers (relinked (action p c s) y)
  unfolding with_done
  step_same law now same s e =
      let there = action-same law now same (action p c s) (number-facts default t p c s e).0 in
      after-cases t p (λ d. Same d.servers (relinked (action p c s) y)) c s (λ _. there) (λ _. there)

-- ---- walks

-- v is w with a list that holds the same
pub record Beside (w : Walked) (v : ListedWalked) : Type 0 where
  pub chain : Chain
  pub is : v ≡ record { accepted = w.accepted; refused = w.refused; port = w.port; outcome = listed w.configuration chain }
  pub same : Same w.configuration.servers chain

module _ (default : ℕ) (t : Tables) (p : Program) where
  listed-on : (l : Listed) (s : Step) (ss : List Step) → listed_check default t p l s ≡ 0
      → listed_walk default t p l (s ∷ ss) ≡ one_more_listed (listed_walk default t p (listed_to t p l s) ss)
  unfolding listed_walk
  listed-on l s ss e = rw (listed_walk, eq-eqb (listed_check default t p l s) 0 e) refl

  listed-stop : (l : Listed) (s : Step) (ss : List Step) → listed_check default t p l s ≢ 0
      → listed_walk default t p l (s ∷ ss) ≡ record { accepted = 0; refused = listed_check default t p l s; port = listed_port t p l s (listed_check default t p l s); outcome = l }
  unfolding listed_walk
  listed-stop l s ss n = rw (listed_walk, ne_eqb (listed_check default t p l s) 0 n) refl

  module _ (law : Facts default t p) where
    -- from any proper configuration, and a list that holds the same
    pub beside-from : (ss : List Step) (c : Configuration) (y : Chain) → Proper default t p c → Same c.servers y
        → Beside (walk default t p c ss) (listed_walk default t p (listed c y) ss)
    unfolding walk listed_walk one_more one_more_listed
    beside-from [] c y now same = record { chain = y; is = refl; same = same }
    beside-from (s ∷ ss) c y now same =
        walk-cases default t p (λ w. Beside w (listed_walk default t p (listed c y) (s ∷ ss))) c s ss
        (λ e.
        let z = relinked (action p c s) y in
        let b = beside-from ss (step_to t p c s) z (step-proper default t p law c s now e) (step_same default t p c y law now same s e) in
        record {
          chain = b.chain;
          is = listed-on (listed c y) s ss (number_same default t p c y same s ∙ e)
              ∙ ap (λ (l : Listed). one_more_listed (listed_walk default t p l ss)) (after_same default t p c y s) ∙ ap one_more_listed b.is;
          same = b.same;
        })
        (λ n.
        let q = number_same default t p c y same s in
        record {
          chain = y;
          is = listed-stop (listed c y) s ss (λ e. n (sym q ∙ e)) ∙ ap₂ stopped q (ap (listed_port t p (listed c y) s) q ∙ port-same default t p c y same s (step_check default t p c s));
          same = same;
        })
      where
        stopped : ℕ → Concerned → ListedWalked
        stopped m k = record { accepted = 0; refused = m; port = k; outcome = listed c y }

start-listed : listed_start ≡ listed start listed_start.connections
unfolding listed_start start
start-listed = refl

pub beside-start : (default : ℕ) (t : Tables) (p : Program) (ss : List Step) → default ≤ 8 → Lawful t p
    → Beside (walk default t p start ss) (listed_walk default t p listed_start ss)
beside-start default t p ss small law =
    subst (λ (l : Listed). Beside (walk default t p start ss) (listed_walk default t p l ss)) (sym start-listed)
    (beside-from default t p (facts default t p small law) ss start listed_start.connections (start-proper default t p) start-same)

beside-agrees : (w : Walked) (v : ListedWalked) → Beside w v → Agrees w v
unfolding in_table
beside-agrees w v b =
    rw b.is
    (record {
      accepted = refl;
      refused = refl;
      port = refl;
      instances = refl;
      queue = refl;
      done = refl;
      connections = λ k. (b.same.there k, b.same.back k);
      count = b.same.count;
    })

pub table-and-list-agree : TableAndListAgree
unfolding TableAndListAgree
table-and-list-agree default t p ss small law = beside-agrees _ _ (beside-start default t p ss small law)
