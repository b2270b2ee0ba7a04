-- Why each is needed: a rule, or what a projection holds, is changed in one thing and kept in all others, and on an example a demand fails.
use Rattle.std.specs.Prelude.{ℕ, Bool, true, false, not, ◌&&◌, ◌||◌, List, [], ◌∷◌, ◌++◌, ◌≡◌, ◌≢◌, eqb}
use Rattle.sets.specs.Mask.{overlaps}
use Rattle.sets.specs.Test.{any_below}
use Rattle.item_spec.specs.Reader.{bytes}
use Rattle.model.specs.declared.Tables.{Tables}
use Rattle.model.specs.declared.Program.{Program}
use Rattle.model.specs.declared.Step.{Step}
use Rattle.model.specs.declared.Instance.{Instance}
use Rattle.model.specs.declared.Configuration.{Configuration}
use Rattle.model.specs.declared.Stepped.{Stepped}
use Rattle.model.specs.declared.Walked.{Walked}
use Rattle.model.specs.Empty.{start}
use Rattle.model.specs.View.{is_use, group_places, group_transitions, instance}
use Rattle.rules_spec.specs.Refusal.{◌⇒◌∣◌, allowed, unserved, provider_refusing, service_in_use, unconnected, settle}
use Rattle.rules_spec.specs.Instance.{active, ports_of}
use Rattle.rules_spec.specs.Standing.{Standing, standing, some_connection}
use Rattle.rules_spec.specs.Ports.{is_of, behavior, would_leave, would_enter, refusing, PortCheck, port_check}
use Rattle.rules_spec.specs.Fire.{after_fire, fire_check_by}
use Rattle.rules_spec.specs.Enter.{after_enter, enter_check_by}
use Rattle.rules_spec.specs.Action.{Action, add, del, pushb, con, dcon, wait, fire, end, enter, finish, check_by, concern}
use Rattle.rules_spec.specs.Step.{action, number_by, step_to}
use Rattle.rules_spec.specs.Walk.{walk_by, walk}
use Rattle.start_spec.specs.Paper.{nothing_up}
use Rattle.judge_spec.specs.Cases.{P+, answer_with}
use Rattle.judge_spec.specs.Course.{default_depth}
use Rattle.judge_spec.specs.Judged.{printed}
use Rattle.demands.specs.Safe.{Safe}
use Rattle.demands.specs.Exchange.{between}
use Rattle.demands.specs.OnTexts.{sheet_tables, sheet_program, answer_steps, AllAllowed, projection_on}

-- ---- the rules with one notion changed

-- what the port check asks: is port q of an instance active, does the provide port q of instance j refuse, is there a check 36
pub record Variant : Type 0 where
  pub active : Tables → Instance → ℕ → Bool
  pub refusing : Tables → Configuration → ℕ → ℕ → Bool
  pub third : Bool

-- some connection of the use port q of i leads to a provide port that passes the test; of the provide port q of i, to a use port that does
abbrev pub some_provider : Standing → ℕ → ℕ → (ℕ → ℕ → Bool) → Bool
some_provider y i q test = y.some (λ k. eqb k.user i && (eqb k.useport q && test k.provider k.provideport))

abbrev pub some_user : Standing → ℕ → ℕ → (ℕ → ℕ → Bool) → Bool
some_user y i q test = y.some (λ k. eqb k.provider i && (eqb k.provideport q && test k.user k.useport))

-- `port_check`, with the variant in the place of its own notions
unfoldable pub port_check_by : Variant → PortCheck
port_check_by x t y c i v w =
    let uses : ℕ → Bool = is_use t w.kind in
    let before : ℕ → Bool = x.active t v in
    let after : ℕ → Bool = x.active t w in
    let active : ℕ → ℕ → Bool = λ j. x.active t (instance c j) in
    any_below (ports_of t v) (λ q. uses q && (after q && not (y.some (is_of i q)))) ⇒ unconnected
    ∣ any_below (ports_of t v) (λ q. uses q && (after q && not (some_provider y i q active))) ⇒ unserved
    ∣ any_below (ports_of t v) (λ q. uses q && (after q && (not (before q) && some_provider y i q (x.refusing t c)))) ⇒ provider_refusing
    ∣ x.third && any_below (ports_of t v) (λ q. not (uses q) && (before q && (not (after q) && some_user y i q active))) ⇒ service_in_use
    ∣ allowed

-- the rules' own walk with that check in the place of 38, 34, 35 and 36
abbrev pub variant_check : Variant → ℕ → Tables → Configuration → Action → ℕ
variant_check x default t c a =
    let y : Standing = standing c in check_by (fire_check_by (port_check_by x) t y c) (enter_check_by (port_check_by x) t y c) default t y c a

abbrev pub variant_step : Variant → ℕ → Tables → Program → Configuration → Step → Stepped
variant_step x default t p c s = settle (number_by (variant_check x default t c) p c s) (concern t (standing c) c (action p c s)) c (step_to t p c s)

abbrev pub variant_walk : Variant → ℕ → Tables → Program → Configuration → List Step → Walked
variant_walk x default t p c ss = walk_by (variant_step x default t p) c ss

-- 01's own notions
abbrev pub as_ruled : Variant
as_ruled = record { active = active; refusing = λ t c j. refusing t (instance c j) (behavior t c j); third = true }

-- with them the variant is the rule, so a variant differs from the rules in its own notion alone
unfoldable pub AsRuledIsTheRule : Type 0
AsRuledIsTheRule =
    ((t : Tables) (y : Standing) (c : Configuration) (i : ℕ) (v w : Instance) → port_check_by as_ruled t y c i v w ≡ port_check t y c i v w)
    × ((default : ℕ) (t : Tables) (p : Program) (c : Configuration) (ss : List Step) → variant_walk as_ruled default t p c ss ≡ walk default t p c ss)

-- a sheet and an answer walked by a variant
abbrev pub walked_by : Variant → List ℕ → List ℕ → Walked
walked_by x s a = variant_walk x default_depth (sheet_tables (nothing_up s)) (sheet_program (nothing_up s)) start (answer_steps a)

-- demand 2 fails: the rules refuse a step with 36, the variant allows all steps and comes to a point that is not safe
abbrev pub Unsafe : Variant → List ℕ → List ℕ → Type 0
Unsafe x s a =
    ((walked_by as_ruled s a).refused ≡ service_in_use) × ((walked_by x s a).refused ≡ 0) × ¬ Safe (sheet_tables (nothing_up s)) (walked_by x s a).configuration

-- ---- without check 36: the provider leaves while its service is in use
abbrev pub without_in_use : Variant
without_in_use = record { active = active; refusing = as_ruled.refusing; third = false }

abbrev pub left_in_use : List ℕ
left_in_use = answer_with 12 6 "step=fire,0,0\nstep=end,0,0\nstep=enter,0,1\nstep=fire,1,0\nstep=finish,0\nstep=fire,0,1\n"

unfoldable pub InUseIsNeeded : Type 0
InUseIsNeeded = Unsafe without_in_use P+ left_in_use

-- ---- with ended transitions not counted as held: the provider leaves while its user's transition has ended and no place is entered yet
abbrev pub ended_not_held : Variant
ended_not_held = record {
  active = λ t v q. overlaps v.marked (group_places t v.kind q) || overlaps v.running (group_transitions t v.kind q);
  refusing = as_ruled.refusing;
  third = true;
}

abbrev pub left_after_end : List ℕ
left_after_end = answer_with 13 6 "step=fire,0,0\nstep=end,0,0\nstep=enter,0,1\nstep=fire,1,0\nstep=end,1,0\nstep=finish,0\nstep=fire,0,1\n"

unfoldable pub EndedHeldIsNeeded : Type 0
EndedHeldIsNeeded = Unsafe ended_not_held P+ left_after_end

-- ---- with `wait` left out of the projections: one answer carries it out, the other stops before it
unfoldable pub is_wait : Action → Bool
is_wait (wait i) = true
is_wait (add i k) = false
is_wait (del i) = false
is_wait (pushb i b) = false
is_wait (con k) = false
is_wait (dcon k) = false
is_wait (fire i p) = false
is_wait (end i y) = false
is_wait (enter i p) = false
is_wait (finish i) = false

unfoldable pub without_waits : List Action → List Action
without_waits [] = []
without_waits (a ∷ rest) = elim (is_wait a) [ true ↦ without_waits rest | false ↦ a ∷ without_waits rest ]

abbrev pub add_wait : List ℕ
add_wait = bytes "sheet=1\ndepth=0\ntypes=1\n"
    ++ bytes "type=0\nplaces=1\ninitial=0\ntransitions=0\nbehaviors=0\nports=0\n"
    ++ bytes "program=2\ndo=add,0,0\ndo=wait,0\n"

-- an answer of n times `next`
abbrev pub onward : ℕ → List ℕ
onward n = answer_with n n ""

-- demand 3 fails: both answers are allowed, they have the same projections, and their reports differ
unfoldable pub WaitIsNeeded : Type 0
WaitIsNeeded =
    AllAllowed (nothing_up add_wait) (onward 1)
    × AllAllowed (nothing_up add_wait) (onward 2)
    × ((i : ℕ) → without_waits (projection_on (nothing_up add_wait) (onward 1) i) ≡ without_waits (projection_on (nothing_up add_wait) (onward 2) i))
    × (printed (nothing_up add_wait) (onward 1) ≢ printed (nothing_up add_wait) (onward 2))

-- ---- with a provider refusing only where its firing or entering would pass 34 to 36 too

abbrev pub refusing_if_allowed : Variant
refusing_if_allowed = record {
  active = active;
  refusing = λ t c j q.
      active t (instance c j) q
      && (any_below 16 (λ p. would_leave t (instance c j) (behavior t c j) q p && eqb (port_check t (standing c) c j (instance c j) (after_fire t c j p)) allowed)
      || any_below 16 (λ p. would_enter t (instance c j) (behavior t c j) q p && eqb (port_check t (standing c) c j (instance c j) (after_enter t c j p)) allowed));
  third = true;
}

-- 0 uses 1, and 1 leaves by a transition that uses 2
abbrev pub chain : List ℕ
chain = bytes "sheet=1\ndepth=0\ntypes=3\n"
    ++ bytes "type=0\nplaces=2\ninitial=0\ntransitions=1\ntran=0,1\nbehaviors=1\nbehavior=0\nports=1\nport=use,-,0\n"
    ++ bytes "type=1\nplaces=2\ninitial=0\ntransitions=1\ntran=0,1\nbehaviors=1\nbehavior=0\nports=2\nport=provide,0,-\nport=use,-,0\n"
    ++ bytes "type=2\nplaces=2\ninitial=0\ntransitions=1\ntran=0,1\nbehaviors=1\nbehavior=0\nports=1\nport=provide,1,-\n"
    ++ bytes "program=8\ndo=add,0,0\ndo=add,1,1\ndo=add,2,2\ndo=con,0,0,1,0\ndo=con,1,1,2,0\ndo=pushb,0,0\ndo=pushb,1,0\ndo=pushb,2,0\n"

-- demand 3 fails: while 2 does not provide, 1 could not leave, so 0 may begin; once 2 provides, 0 may not; and 0 and 2 are not connected
unfoldable pub TokensAloneIsNeeded : Type 0
TokensAloneIsNeeded =
    ((walked_by refusing_if_allowed chain (answer_with 12 8 "step=fire,2,0\nstep=end,2,0\nstep=fire,0,0\nstep=enter,2,1\n")).refused ≡ 0)
    × ((walked_by refusing_if_allowed chain (answer_with 12 8 "step=fire,2,0\nstep=end,2,0\nstep=enter,2,1\nstep=fire,0,0\n")).refused ≡ provider_refusing)
    × (some_connection (walked_by refusing_if_allowed chain (answer_with 10 8 "step=fire,2,0\nstep=end,2,0\n")).configuration (between 0 2) ≡ false)
