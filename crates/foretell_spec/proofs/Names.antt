-- The names after an action are told by the names before it, a move leaves them, and an action's number by its names is its number, or one that names leave open.
-- Assumes nothing.
use mathlib.Core.Path.{◌≡◌, refl, sym, ap, ◌∙◌}
use mathlib.Core.Logic.{inl, inr, ◌≢◌}
use mathlib.Core.Bool.{Bool, true, false, not, cond, false≢true}
use mathlib.Core.List.{List, [], ◌∷◌, map}
use Prim.Native.Nat.{ℕ, zero, suc, ◌≤◌}
use native.Mathlib.Omega.{arith}
use lib.Dec.{eqb, ltb, eqb-suc-zero}
use lib.ListN.{set, get_or-map}
use lib.Seq.{map-set_same}
use borrow.Author.Tests.{eqb-true, lt-ltb}
use Rattle.item_spec.proofs.Tests.{by-test}
use Rattle.sets.specs.Test.{any_below}
use Rattle.sets.specs.Mask.{member, collect}
use Rattle.model.specs.declared.Tables.{Tables}
use Rattle.model.specs.declared.Instance.{Instance}
use Rattle.model.specs.declared.Instruction.{Instruction}
use Rattle.model.specs.declared.Connection.{Connection}
use Rattle.model.specs.declared.Step.{Step}
use Rattle.model.specs.declared.Configuration.{Configuration}
use Rattle.model.specs.Empty.{absent, most_connections}
use Rattle.model.specs.Verb.{add_verb, del_verb, pushb_verb, con_verb, dcon_verb, push_ticket_verb, wait_ticket_verb}
use Rattle.model.specs.View.{type_of, instance, behavior_in, put, with_queue, with_servers, with_done}
use Rattle.rules_spec.specs.Refusal.{◌⇒◌∣◌, id_absent, id_present, no_such, one_instance, already_connected, no_more_connections, no_such_connection, still_connected, ticket_not_above, still_queued, never_pushed}
use Rattle.rules_spec.specs.Instance.{active, fired, ended_by, entered, with_queued}
use Rattle.rules_spec.specs.Standing.{standing, some_connection}
use Rattle.rules_spec.specs.Ports.{is_of}
use Rattle.rules_spec.specs.Closing.{renewed}
use Rattle.rules_spec.specs.Add.{add_check, added}
use Rattle.rules_spec.specs.Del.{named_by, del_check, deleted}
use Rattle.rules_spec.specs.Tickets.{has_stamp}
use Rattle.rules_spec.specs.PushB.{Push, depth_of, pushb_check, pushed}
use Rattle.rules_spec.specs.Con.{is_use_port, is_provide_port, con_check, connected}
use Rattle.rules_spec.specs.DCon.{same_connection, dcon_check, disconnected}
use Rattle.rules_spec.specs.Wait.{whole, one, is_queued, wait_check}
use Rattle.rules_spec.specs.Fire.{fire_to}
use Rattle.rules_spec.specs.End.{end_to}
use Rattle.rules_spec.specs.Enter.{enter_to}
use Rattle.rules_spec.specs.Finish.{finished}
use Rattle.rules_spec.specs.Action.{Action, add, del, pushb, con, dcon, wait, fire, end, enter, finish, named, plainly, ticketed, instruction_action, move_action, action_check, effect}
use Rattle.rules_spec.specs.Step.{check_at}
use Rattle.rules_spec.proofs.Actions.{move-cases}
use Rattle.foretell_spec.specs.Names.{quiet, names_of, room_for_one}
use Rattle.foretell_spec.specs.Foretold.{ByName, plain, late, never, Waits, Later, full, busy, active as used, queued as still}

-- ---- the names of the instances
map-set : {A B : Type 0} (f : A → B) (l : List A) (i : ℕ) (a : A) → map f (set l i a) ≡ set (map f l) i (f a)
map-set f [] i a = refl
map-set f (x ∷ l) zero a = refl
map-set f (x ∷ l) (suc i) a = ap (◌∷◌ (f x)) (map-set f l i a)

quiet-twice : (l : List Instance) → map quiet (map quiet l) ≡ map quiet l
quiet-twice [] = refl
quiet-twice (v ∷ l) = ap (◌∷◌ (quiet v)) (quiet-twice l)

pub name-of : (c : Configuration) (i : ℕ) → instance (names_of c) i ≡ quiet (instance c i)
unfolding names_of
name-of c i = get_or-map quiet c.instances i absent

-- ---- what an action makes of the names
-- d has the names of e
record Told (d e : Configuration) : Type 0 where
  instances : map quiet d.instances ≡ map quiet e.instances
  servers : d.servers ≡ e.servers
  done : d.done ≡ e.done

told : (d e : Configuration) → Told d e → names_of d ≡ names_of e
unfolding names_of
told d e x = rw (x.instances, x.servers, x.done)

-- of d every instance but i is that of c, and i has its name
kept : (c d : Configuration) (i : ℕ) (w : Instance) → quiet w ≡ quiet (instance c i) → d.instances ≡ set c.instances i w → d.servers ≡ c.servers → d.done ≡ c.done → Told d c
kept c d i w e a b f = record { instances = ap (map quiet) a ∙ map-set_same quiet c.instances i w absent e; servers = b; done = f }

-- a move leaves the names
moved : (t : Tables) (c : Configuration) (s : Step) → Told (effect t c (move_action s)) c
unfolding effect fire_to end_to enter_to finished fired ended_by entered with_queued put with_queue
moved t c s =
    move-cases (λ a. Told (effect t c a) c) s (kept c _ s.id _ refl refl refl refl) (kept c _ s.id _ refl refl refl refl)
    (kept c _ s.id _ refl refl refl refl) (kept c _ s.id _ refl refl refl refl)

pub move-names : (t : Tables) (c : Configuration) (s : Step) → names_of (effect t c (move_action s)) ≡ names_of c
move-names t c s = told _ c (moved t c s)

-- what an instruction makes of the names is told by the names
names-twice : (c : Configuration) → Told (names_of c) c
unfolding names_of
names-twice c = record { instances = quiet-twice c.instances; servers = refl; done = refl }

pub names-idem : (c : Configuration) → names_of (names_of c) ≡ names_of c
names-idem c = told (names_of c) c (names-twice c)

set-quiet : (l : List Instance) (i : ℕ) (w : Instance) → map quiet (set l i w) ≡ map quiet (set (map quiet l) i w)
set-quiet l i w = map-set quiet l i w ∙ ap (λ (m : List Instance). set m i (quiet w)) (sym (quiet-twice l)) ∙ sym (map-set quiet (map quiet l) i w)

trans : {c d e : Configuration} → Told c d → Told d e → Told c e
trans x y = record { instances = x.instances ∙ y.instances; servers = x.servers ∙ y.servers; done = x.done ∙ y.done }

turned : {c d : Configuration} → Told c d → Told d c
turned x = record { instances = sym x.instances; servers = sym x.servers; done = sym x.done }

ordered : (t : Tables) (c : Configuration) (a : Action) → Told (effect t c a) (effect t (names_of c) a)
unfolding effect added deleted renewed pushed connected disconnected fire_to end_to enter_to finished fired ended_by entered with_queued put with_queue with_servers names_of
ordered t c (add i k) = record { instances = set-quiet c.instances i _; servers = refl; done = refl }
ordered t c (del i) = record { instances = set-quiet c.instances i _; servers = refl; done = refl }
ordered t c (pushb i b) = trans (kept c _ i _ refl refl refl refl) (turned (trans (kept (names_of c) _ i _ refl refl refl refl) (names-twice c)))
ordered t c (con k) = record { instances = sym (quiet-twice c.instances); servers = refl; done = refl }
ordered t c (dcon k) = record { instances = sym (quiet-twice c.instances); servers = refl; done = refl }
ordered t c (wait w) = turned (names-twice c)
ordered t c (fire i x) = trans (kept c _ i _ refl refl refl refl) (turned (trans (kept (names_of c) _ i _ refl refl refl refl) (names-twice c)))
ordered t c (end i x) = trans (kept c _ i _ refl refl refl refl) (turned (trans (kept (names_of c) _ i _ refl refl refl refl) (names-twice c)))
ordered t c (enter i x) = trans (kept c _ i _ refl refl refl refl) (turned (trans (kept (names_of c) _ i _ refl refl refl refl) (names-twice c)))
ordered t c (finish i) = trans (kept c _ i _ refl refl refl refl) (turned (trans (kept (names_of c) _ i _ refl refl refl refl) (names-twice c)))

-- with n instructions done
pub names-after : (t : Tables) (c : Configuration) (a : Action) (n : ℕ) → names_of (with_done (effect t c a) n) ≡ names_of (with_done (effect t (names_of c) a) n)
unfolding with_done
names-after t c a n =
    let x = ordered t c a in
    told (with_done (effect t c a) n) (with_done (effect t (names_of c) a) n) (record { instances = x.instances; servers = x.servers; done = refl })

-- ---- numbers
-- n is what the names tell of the number m, where T says that there are tickets: the same, where Q says that what is queued was pushed; or nothing, and m is
-- one that names leave open
pub record Tells (T Q : Type 0) (n m : ℕ) : Type 0 where
  pub same : Q → n ≢ 0 → m ≡ n
  pub refuses : n ≢ 0 → m ≢ 0
  pub later : n ≡ 0 → Later T m
  pub by_name : n ≢ 0 → ByName T n

pub by_name-range : {T : Type 0} {n : ℕ} → ByName T n → (11 ≤ n) × (n ≤ 24)
by_name-range (plain l h) = omega (arith, l, h)
by_name-range (late x) = omega arith
by_name-range (never x) = omega arith

row_of : {T Q : Type 0} (b : Bool) (k n m : ℕ) → ByName T k → Tells T Q n m → Tells T Q (b ⇒ k ∣ n) (b ⇒ k ∣ m)
row_of {T} true k n m l x = record { same = λ q e. refl; refuses = λ e. some; later = λ e. absurd (some e); by_name = λ e. l }
  where
    some : k ≢ 0
    some z = omega (arith, z, (by_name-range l).0)
row_of false k n m l x = x

row : {T Q : Type 0} (b : Bool) (k n m : ℕ) → (11 ≤ k) × (k ≤ 18) → Tells T Q n m → Tells T Q (b ⇒ k ∣ n) (b ⇒ k ∣ m)
row b k n m l x = row_of b k n m (plain l.0 l.1) x

late-row : {T Q : Type 0} (b : Bool) (n m : ℕ) → (b ≡ true → T) → Tells T Q n m → Tells T Q (b ⇒ ticket_not_above ∣ n) (b ⇒ ticket_not_above ∣ m)
late-row true n m has x = row_of true ticket_not_above n m (late (has refl)) x
late-row false n m has x = x

open-still : {T Q : Type 0} {m : ℕ} → Later T m → Tells T Q 0 m
open-still x = record { same = λ q e. absurd (e refl); refuses = λ e. absurd (e refl); later = λ e. x; by_name = λ e. absurd (e refl) }

last : {T : Type 0} (b : Bool) {k : ℕ} → Waits T k → Later T (b ⇒ k ∣ 0)
last true x = inr x
last false x = inl refl

-- a wait for one push, which is queued or not, was made or not
one-push : {T Q : Type 0} → T → (queued made : Bool) → (Q → queued ≡ true → made ≡ true)
    → Tells T Q (not made ⇒ never_pushed ∣ 0) (queued ⇒ still_queued ∣ not made ⇒ never_pushed ∣ 0)
one-push has true true h = open-still (inr (still has))
one-push has false true h = open-still (inl refl)
one-push has true false h =
    record { same = λ q e. absurd (false≢true (h q refl)); refuses = λ e z. omega (arith, z); later = λ z. absurd (omega (arith, z)); by_name = λ e. never has }
one-push has false false h = record { same = λ q e. refl; refuses = λ e. e; later = λ z. absurd (omega (arith, z)); by_name = λ e. never has }

quiet-idle : (t : Tables) (v : Instance) (q : ℕ) → active t (quiet v) q ≡ false
unfolding active any_below member collect
quiet-idle t v q = refl

roomy : (d : ℕ) → not (ltb 0 (cond (eqb d 0) 1 d)) ≡ false
roomy zero = refl
roomy (suc d) = rw (eqb-suc-zero d, lt-ltb 0 (suc d) (omega arith))

-- x has a ticket
pub record HasTicket (T : Type 0) (x : Instruction) : Type 0 where
  pub pushes : eqb x.verb push_ticket_verb ≡ true → T
  pub waits : eqb x.verb wait_ticket_verb ≡ true → T

module _ (T Q : Type 0) (default : ℕ) (t : Tables) (c : Configuration) where
  -- the instruction a, on the names and where it stands
  abbrev TellsOf : Action → Type 0
  TellsOf a = Tells T Q (check_at room_for_one t (names_of c) a) (check_at default t c a)

  tells-add : (i k : ℕ) → TellsOf (add i k)
  unfolding action_check add_check
  tells-add i k = rw (name-of c i) (row (instance c i).present id_present _ _ (omega arith) (open-still (inl refl)))

  tells-del : (i : ℕ) → TellsOf (del i)
  unfolding action_check del_check names_of
  tells-del i =
      rw (name-of c i)
      (row (not (instance c i).present) id_absent _ _ (omega arith) (row (some_connection c (named_by i)) still_connected _ _ (omega arith)
      (open-still (last (not (eqb (instance c i).queued 0)) busy))))

  tells-push : (i : ℕ) (b : Push) → (b.late ≡ true → T) → TellsOf (pushb i b)
  unfolding action_check pushb_check
  tells-push i b has =
      rw (name-of c i, roomy t.depth)
      (row (not (instance c i).present) id_absent _ _ (omega arith)
      (row (not (ltb (behavior_in b.slot) (type_of t (instance c i).kind).behaviors)) no_such _ _ (omega arith)
      (late-row b.late _ _ has (open-still (last (not (ltb (instance c i).queued (depth_of default t))) full)))))

  tells-con : (k : Connection) → TellsOf (con k)
  unfolding action_check con_check is_use_port is_provide_port names_of
  tells-con k =
      rw (name-of c k.user, name-of c k.provider)
      (row (not (instance c k.user).present) id_absent _ _ (omega arith) (row (not (instance c k.provider).present) id_absent _ _ (omega arith)
      (row (not (is_use_port t c k.user k.useport)) no_such _ _ (omega arith) (row (not (is_provide_port t c k.provider k.provideport)) no_such _ _ (omega arith)
      (row (eqb k.user k.provider) one_instance _ _ (omega arith) (row (some_connection c (is_of k.user k.useport)) already_connected _ _ (omega arith)
      (row (not (ltb (standing c).count most_connections)) no_more_connections _ _ (omega arith) (open-still (inl refl)))))))))

  tells-dcon : (k : Connection) → TellsOf (dcon k)
  unfolding action_check dcon_check names_of
  tells-dcon k =
      rw (name-of c k.user, quiet-idle t (instance c k.user) k.useport)
      (row (not (some_connection c (same_connection k))) no_such_connection _ _ (omega arith) (open-still (last (active t (instance c k.user) k.useport) used)))

  tells-wait : (i : ℕ) → TellsOf (wait (whole i))
  unfolding action_check wait_check
  tells-wait i =
      rw (name-of c i) (row (not (instance c i).present) id_absent _ _ (omega arith) (open-still (last (not (eqb (instance c i).queued 0)) busy)))

  tells-one : (i k : ℕ) (made : Bool) → T → (Q → is_queued c i (suc k) ≡ true → made ≡ true) → TellsOf (wait (one i k made))
  unfolding action_check wait_check any_below
  tells-one i k made has past =
      rw (name-of c i, eqb-suc-zero k) (row (not (instance c i).present) id_absent _ _ (omega arith) (one-push has (is_queued c i (suc k)) made past))

  -- after the pushes l; of a wait for one push, where what is queued is among them
  pub tells : (l : List ℕ) (x : Instruction) → HasTicket T x
      → (Q → eqb x.verb wait_ticket_verb ≡ true → is_queued c x.id (suc x.number) ≡ true → has_stamp (suc x.number) l ≡ true) → TellsOf (instruction_action l x)
  unfolding instruction_action
  tells l x has past =
      by-test (eqb x.verb add_verb) (λ v. rw (eqb-true x.verb add_verb v) (tells-add x.id x.number))
      λ a. by-test (eqb x.verb del_verb) (λ v. rw (eqb-true x.verb del_verb v) (tells-del x.id))
      λ b. by-test (eqb x.verb pushb_verb) (λ v. rw (eqb-true x.verb pushb_verb v) (tells-push x.id (plainly x) (λ e. absurd (false≢true e))))
      λ d. by-test (eqb x.verb con_verb) (λ v. rw (eqb-true x.verb con_verb v) (tells-con (named x)))
      λ f. by-test (eqb x.verb dcon_verb) (λ v. rw (eqb-true x.verb dcon_verb v) (tells-dcon (named x)))
      λ g. by-test (eqb x.verb push_ticket_verb) (λ v. rw (eqb-true x.verb push_ticket_verb v) (tells-push x.id (ticketed l x) (λ _. has.pushes v)))
      λ h. by-test (eqb x.verb wait_ticket_verb)
      (λ v. rw (eqb-true x.verb wait_ticket_verb v) (tells-one x.id x.number (has_stamp (suc x.number) l) (has.waits v) (λ q. past q v)))
      (λ v. rw (a, b, d, f, g, h, v) (tells-wait x.id))
