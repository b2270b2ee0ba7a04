-- The tables with another depth: the reader keeps it, and a walk looks at it only through what it stands for.
-- Assumes nothing.
use Prim.Native.Nat.{ℕ, zero, suc, ◌*◌, ◌-◌}
use lib.ListN.{length}
use mathlib.Core.List.{List}
use mathlib.Core.Path.{◌≡◌, refl, ap, ◌∙◌}
use Rattle.item_spec.specs.Reader.{bytes}
use Rattle.model.specs.declared.Tables.{Tables}
use Rattle.model.specs.declared.Program.{Program}
use Rattle.model.specs.declared.Step.{Step}
use Rattle.model.specs.declared.Configuration.{Configuration}
use Rattle.model.specs.declared.Stepped.{Stepped}
use Rattle.read_spec.specs.Limits.{places_ok, transitions_ok, behaviors_ok, ports_ok}
use Rattle.read_spec.specs.Lines.{Run, on, stop, Lines, run_on, line, each}
use Rattle.read_spec.specs.Kinds.{due_line, count_line, initial_line}
use Rattle.read_spec.specs.Fill.{with_type}
use Rattle.read_spec.specs.Texts.{tran_at, behavior_at, port_at, type_lines}
use Rattle.rules_spec.specs.Instance.{active, leaving, entering, current}
use Rattle.rules_spec.specs.Ports.{would_leave, would_enter, refusing, serves, blocks, employs, fails_unconnected, fails_unserved, fails_refusing, fails_in_use, port_check, concerned}
use Rattle.rules_spec.specs.PushB.{depth_of, pushb_check}
use Rattle.rules_spec.specs.Add.{added}
use Rattle.rules_spec.specs.Con.{is_use_port, is_provide_port, con_check}
use Rattle.rules_spec.specs.DCon.{dcon_check}
use Rattle.rules_spec.specs.Fire.{fire_check, fire_to}
use Rattle.rules_spec.specs.Enter.{enter_check, enter_to}
use Rattle.rules_spec.specs.Finish.{may_leave, finish_row, finish_check}
use Rattle.rules_spec.specs.Action.{concern, Action, add, del, pushb, con, dcon, wait, fire, end, enter, finish, action_check, effect}
use Rattle.rules_spec.specs.Step.{step_check_with, step_to, step}
use Rattle.rules_spec.specs.Standing.{Standing, standing}
use Rattle.rules_spec.specs.Walk.{walk_by, walk}
use Rattle.model.specs.declared.Text.TheVariants as text
use Rattle.start_spec.specs.Paper.{Beginning, nothing, given}
use Rattle.start_spec.specs.Row.{instance_line, with_row, port_in, connection_line}
use Rattle.start_spec.specs.Text.{Outset, instance_at, connection_at, start_lines}
use Rattle.start_spec.specs.Served.{fails_still, some_unserved}
use Rattle.judge_spec.specs.Course.{Course, faulty, reached, go_on, read, served, outset}

-- the tables with the depth d
abbrev pub deep : ℕ → Tables → Tables
deep d t = record { depth = d; count = t.count; types = t.types; transitions = t.transitions; behaviors = t.behaviors; ports = t.ports }

-- ---- a walk
module _ (d e x : ℕ) (t : Tables) (same : depth_of d t ≡ depth_of e (deep x t)) where
  check-same : (y : Standing) (c : Configuration) (a : Action) → action_check d t y c a ≡ action_check e (deep x t) y c a
  unfolding action_check pushb_check con_check is_use_port is_provide_port dcon_check fire_check enter_check finish_check finish_row may_leave port_check fails_unconnected fails_unserved fails_refusing fails_in_use serves blocks employs refusing would_leave would_enter active leaving entering current
  check-same y c (add i k) = refl
  check-same y c (del i) = refl
  check-same y c (pushb i b) = rw same
  check-same y c (con k) = refl
  check-same y c (dcon k) = refl
  check-same y c (wait i) = refl
  check-same y c (fire i p) = refl
  check-same y c (end i p) = refl
  check-same y c (enter i p) = refl
  check-same y c (finish i) = refl

  effect-same : (c : Configuration) (a : Action) → effect t c a ≡ effect (deep x t) c a
  unfolding effect added fire_to enter_to leaving entering current
  effect-same c (add i k) = refl
  effect-same c (del i) = refl
  effect-same c (pushb i b) = refl
  effect-same c (con k) = refl
  effect-same c (dcon k) = refl
  effect-same c (wait i) = refl
  effect-same c (fire i p) = refl
  effect-same c (end i p) = refl
  effect-same c (enter i p) = refl
  effect-same c (finish i) = refl

  concern-same : (y : Standing) (c : Configuration) (a : Action) (n : ℕ) → concern t y c a n ≡ concern (deep x t) y c a n
  unfolding concern concerned fails_unconnected fails_unserved serves active leaving entering current
  concern-same y c (add i k) n = refl
  concern-same y c (del i) n = refl
  concern-same y c (pushb i b) n = refl
  concern-same y c (con k) n = refl
  concern-same y c (dcon k) n = refl
  concern-same y c (wait i) n = refl
  concern-same y c (fire i p) n = refl
  concern-same y c (end i p) n = refl
  concern-same y c (enter i p) n = refl
  concern-same y c (finish i) n = refl

  step_same : (p : Program) (c : Configuration) (s : Step) → step d t p c s ≡ step e (deep x t) p c s
  unfolding step step_check_with step_to
  step_same p c s = rw (check-same (standing c) c, effect-same c, concern-same (standing c) c)

  pub walk_same : (p : Program) (ss : List Step) (c : Configuration) → walk d t p c ss ≡ walk e (deep x t) p c ss
  unfolding walk
  walk_same p ss c = ap (λ (f : Configuration → Step → Stepped). walk_by f c ss) (λ i c s. step_same p c s i)

-- ---- the start
-- its lines look at the types and not at the depth
starts-deep : (h d x : ℕ) (t : Tables) (s : List ℕ) → start_lines h d t s ≡ start_lines h d (deep x t) s
unfolding start_lines instance_at instance_line with_row added connection_at connection_line port_in con_check is_use_port is_provide_port
starts-deep h d x t s = refl

unserved-deep : (x : ℕ) (t : Tables) (c : Configuration) → some_unserved t c ≡ some_unserved (deep x t) c
unfolding some_unserved fails_still port_check fails_unconnected fails_unserved fails_refusing fails_in_use serves blocks employs refusing would_leave would_enter active leaving entering current
unserved-deep x t c = refl

served_deep : (x : ℕ) (t : Tables) (p : Program) (y : Outset) → served t p y ≡ served (deep x t) p y
unfolding served
served_deep x t p y = rw (unserved-deep x t y.0, served)

reads-deep : (h n x : ℕ) (t : Tables) (s : List ℕ) → read text.Start (start_lines h n t) s ≡ read text.Start (start_lines h n (deep x t)) s
unfolding read
reads-deep h n x t s = ap (λ (z : Run Outset). elim z as (λ _. Course Outset) [ on c r ↦ reached c | stop k r ↦ faulty text.Start k (length s - length r) ]) (starts-deep h n x t s)

pub begins-deep : (d e x : ℕ) (t : Tables) (p : Program) → depth_of d t ≡ depth_of e (deep x t) → (g : Beginning) → outset d t p g ≡ outset e (deep x t) p g
unfolding outset
begins-deep d e x t p same nothing = refl
begins-deep d e x t p same (given s) =
    ap (λ (n : ℕ). go_on (read text.Start (start_lines p.edition n t) s) (served t p)) same
    ∙ ap (λ (m : Course Outset). go_on m (served t p)) (reads-deep p.edition (depth_of e (deep x t)) x t s)
    ∙ go (read text.Start (start_lines p.edition (depth_of e (deep x t)) (deep x t)) s)
  where
    go : (m : Course Outset) → go_on m (served t p) ≡ go_on m (served (deep x t) p)
    go (faulty k n at) = refl
    go (reached y) = served_deep x t p y

-- ---- the reader
unfoldable pub map_run : {A : Type 0} → (A → A) → Run A → Run A
map_run f (on a r) = on (f a) r
map_run f (stop n r) = stop n r

module _ {B : Type 0} (f : B → B) where
  pub map_next : {A : Type 0} (m : Run A) (g h : A → Lines B) → ((a : A) (s : List ℕ) → h a s ≡ map_run f (g a s)) → run_on m h ≡ map_run f (run_on m g)
  unfolding map_run
  map_next (on a s) g h e = e a s
  map_next (stop n s) g h e = refl

type-deep : (d i : ℕ) (t : Tables) (s : List ℕ) → type_lines i (deep d t) s ≡ map_run (deep d) (type_lines i t s)
unfolding type_lines with_type map_run
type-deep d i t s =
    map_next (deep d) (line (due_line (bytes "type=") i) s) _ _ λ _ s.
    map_next (deep d) (line (count_line (bytes "places=") places_ok) s) _ _ λ n s.
    map_next (deep d) (line (initial_line n) s) _ _ λ m s.
    map_next (deep d) (line (count_line (bytes "transitions=") transitions_ok) s) _ _ λ k s.
    map_next (deep d) (each (tran_at n) k (i * 32) t.transitions s) _ _ λ xs s.
    map_next (deep d) (line (count_line (bytes "behaviors=") behaviors_ok) s) _ _ λ b s.
    map_next (deep d) (each (behavior_at k) b (i * 8) t.behaviors s) _ _ λ bs s.
    map_next (deep d) (line (count_line (bytes "ports=") ports_ok) s) _ _ λ p s.
    map_next (deep d) (each (port_at n k m) p (i * 16) t.ports s) _ _ λ qs s. refl

pub types-deep : (d n i : ℕ) (t : Tables) (s : List ℕ) → each type_lines n i (deep d t) s ≡ map_run (deep d) (each type_lines n i t s)
unfolding each map_run
types-deep d zero i t s = refl
types-deep d (suc n) i t s = ap (λ (m : Run Tables). run_on m (each type_lines n (suc i))) (type-deep d i t s) ∙ on-from (type_lines i t s) (λ u r. types-deep d n (suc i) u r)
  where
    on-from : (m : Run Tables) → ((u : Tables) (r : List ℕ) → each type_lines n (suc i) (deep d u) r ≡ map_run (deep d) (each type_lines n (suc i) u r))
        → run_on (map_run (deep d) m) (each type_lines n (suc i)) ≡ map_run (deep d) (run_on m (each type_lines n (suc i)))
    on-from (on u r) f = f u r
    on-from (stop k r) f = refl
