-- The port check by what is marked and held before and after a move is the port check by the instance after it, and what one look at a server tells.
-- Assumes nothing.
use Rattle.std.proofs.Common.{◌≡◌, ℕ, ◌+◌, ◌-◌, ◌*◌, ◌/◌, ◌%◌, ◌<◌, ◌≤◌, Bool, true, false, not, ◌&&◌, ◌||◌, eqb, ltb, List, length, sym, refl, ap, ◌∙◌, add-one, arith, ltb-false, ltb-true, le-ltb, lt-ltb, eq-eqb, ne_eqb, eqb-true}
use mathlib.Core.Logic.{by_cases}
use mathlib.Core.Bool.{and-true, and-false, or-false, or_comm, and-eq-true_iff, false≢true}
use native.Mathlib.Decide.{ℕ_discrete, dec_lt}
use Rattle.sets.specs.Test.{any_below}
use Rattle.sets.specs.Mask.{member, collect, with, overlaps, joined, without}
use Rattle.sets.proofs.Laws.{any_none, any_same, member-none, member-collect, collect-is, collect-same, member-joined, member-without, none-overlaps}
use Rattle.sets.proofs.Searches.{any-alike}
use Rattle.item_spec.proofs.Tests.{by-test}
use Rattle.model.specs.declared.Tables.{Tables}
use Rattle.model.specs.declared.Instance.{Instance}
use Rattle.model.specs.declared.Connection.{Connection}
use Rattle.model.specs.declared.Configuration.{Configuration}
use Rattle.model.specs.declared.Concerned.TheVariants.{NoPort}
use Rattle.model.specs.Empty.{absent}
use Rattle.model.specs.View.{is_use, instance, group_places, group_transitions}
use Rattle.rules_spec.specs.Refusal.{◌⇒◌∣◌, allowed, unconnected, unserved, provider_refusing, service_in_use}
use Rattle.rules_spec.specs.Standing.{standing, some_connection}
use Rattle.rules_spec.specs.Instance.{held, active, ports_of}
use Rattle.rules_spec.specs.Ports.{is_of, serves, blocks, employs, fails_unconnected, fails_unserved, fails_refusing, fails_in_use, in_use, port_check, concerned}
use Rattle.rules_spec.proofs.Connections.{Stands, some-stands}
use Rattle.model.proofs.View.{past_end, length-list}
use Rattle.words.specs.Rows.{column}
use Rattle.words.specs.Words.{tables_in}
use Rattle.words.specs.Parts.{server_of}
use Rattle.words.proofs.Served.{has_server, looked}
use Rattle.step_ports.specs.declared.Sets.{Sets}
use Rattle.step_ports.specs.declared.Answered.{Answered}
use Rattle.step_ports.proofs.Told.{told, unconnected-told, unserved-told, refusing-told, ending-told, use-told}
use Rattle.step_ports.proofs.Lowest.{lowest-same}
use Rattle.step_instance.specs.Alone.{refusing_at}
use Rattle.step_ports.specs.Turns.{active_in, use_refusal, port_refusal, sets_of, gets, ending_below, is_unconnected, about_of, answered, ports_refusal, checked, changed, turned, turn_answer}

-- ---- one look

module _ (t : Tables) (c : Configuration) (full : length c.servers ≡ 512) (i q : ℕ) where
  abbrev server' : ℕ
  server' = server_of c i q

  serves-looked : some_connection c (serves t c i q) ≡ (has_server c full i q && active t (instance c ((server' - 1) / 16)) ((server' - 1) % 16))
  unfolding serves
  serves-looked = looked c full i q (λ k. active t (instance c k.provider) k.provideport)

  blocks-looked : some_connection c (blocks t c i q) ≡ (has_server c full i q && refusing_at t c ((server' - 1) / 16) ((server' - 1) % 16))
  unfolding blocks
  blocks-looked = looked c full i q (λ k. refusing_at t c k.provider k.provideport)

  pub linked-looked : some_connection c (is_of i q) ≡ has_server c full i q
  unfolding is_of
  linked-looked =
      ap (some_connection c) (λ j k. eqb k.user i && sym (and-true (eqb k.useport q)) j)
      ∙ looked c full i q (λ k. true) ∙ and-true (has_server c full i q)

  pub use-looked : (before : Bool)
      → use_refusal t c i before q
      ≡ (not (has_server c full i q) ⇒ unconnected
      ∣ not (has_server c full i q && active t (instance c ((server' - 1) / 16)) ((server' - 1) % 16)) ⇒ unserved
      ∣ not before && (has_server c full i q && refusing_at t c ((server' - 1) / 16) ((server' - 1) % 16)) ⇒ provider_refusing
      ∣ allowed)
  unfolding use_refusal
  use-looked before = rw (linked-looked, serves-looked, blocks-looked)

-- ---- all ports in one pass

-- those below n that pass, of the 32, one by one
module _ (p : ℕ → Bool) (q : ℕ) where
  next-below : (j : ℕ) → (ltb j (q + 1) && p j) ≡ ((ltb j q && p j) || (eqb j q && p q))
  next-below j =
      by_cases (dec_lt j q)
      (λ l. rw (lt-ltb j q l, lt-ltb j (q + 1) (omega arith), ne_eqb j q (λ e. omega arith)) (sym (or-false (p j))))
      (λ n. by_cases (ℕ_discrete j q) (λ e. rw (e, lt-ltb q (q + 1) (omega arith), le-ltb q q (omega arith), eq-eqb q q refl))
      (λ d. rw (le-ltb j q (omega arith), le-ltb j (q + 1) (omega arith), ne_eqb j q d)))

  pub below_in : p q ≡ true → with q (collect 32 (λ j. ltb j q && p j)) ≡ collect 32 (λ j. ltb j (q + 1) && p j)
  below_in e =
      collect-same 32 _ _
      (λ j h. ap (λ (b : Bool). b || eqb j q) (member-collect 32 (λ j. ltb j q && p j) j h) ∙ sym (next-below j ∙ rw (e, and-true (eqb j q))))

  pub below_out : p q ≡ false → collect 32 (λ j. ltb j q && p j) ≡ collect 32 (λ j. ltb j (q + 1) && p j)
  below_out e = collect-same 32 _ _ (λ j h. sym (next-below j ∙ rw (e, and-false (eqb j q)) (or-false (ltb j q && p j))))

pub below-start : (p : ℕ → Bool) → 0 ≡ collect 32 (λ j. ltb j 0 && p j)
below-start p = collect-is 32 _ 0 (omega arith) (λ j h. member-none j ∙ sym (rw (le-ltb j 0 (omega arith))))

pub none-overlap : (m : ℕ) → overlaps 0 m ≡ false
none-overlap m = none-overlaps 0 m (λ j h e. absurd (false≢true (sym (member-none j) ∙ e)))

pub any_next : (q : ℕ) (p : ℕ → Bool) → any_below (q + 1) p ≡ (any_below q p || p q)
unfolding any_below
any_next q p = rw (add-one q)

-- a use port's number is below 256, as the words of the tables end
pub use-low : (ws : List ℕ) (k q : ℕ) → is_use (tables_in ws) k q ≡ true → q < 256
unfolding tables_in
use-low ws k q e =
    by_cases (dec_lt q 256) (λ h. h)
    (λ far. absurd (false≢true (ap (λ (x : ℕ). eqb x 1) (sym (past_end (column ws 1024 256 3 0) 0 {i = k * 16 + q} (length-list 256 _) (omega arith))) ∙ e)))

-- past 34 no port is named
pub late-unnamed : (r o : Bool) (a b : ℕ)
    → ◌≡◌ {A = Answered} (record { refused = r ⇒ provider_refusing ∣ o ⇒ service_in_use ∣ allowed; port = NoPort }) (answered (about_of a b) (r ⇒ provider_refusing ∣ o ⇒ service_in_use ∣ allowed))
late-unnamed true o a b = refl
late-unnamed false true a b = refl
late-unnamed false false a b = refl

module _ (t : Tables) (c : Configuration) (i : ℕ) where
  abbrev employed : ℕ → Bool
  employed q = some_connection c (employs t c i q)

  abbrev linked : ℕ → Bool
  linked q = some_connection c (is_of i q)

  abbrev served : ℕ → Bool
  served q = some_connection c (serves t c i q)

  abbrev refused : ℕ → Bool
  refused q = some_connection c (blocks t c i q)

  -- a server's provide port is one of the sixteen
  employed-past : (q : ℕ) → 16 ≤ q → employed q ≡ false
  unfolding employs
  employed-past q h = by-test (employed q) (λ on. absurd (no (some-stands c.servers (employs t c i q) on))) (λ off. off)
    where
      no : (k : Connection) × Stands c.servers k × (employs t c i q k ≡ true) → ⊥
      no (k, z, f) =
          let (s, _, _, is) = z in
          let (_, rest) = (and-eq-true_iff (eqb k.provider i) _).0 f in
          let (port, _) = (and-eq-true_iff (eqb k.provideport q) _).0 rest in
          let low : k.provideport < 16 = rw (← is) (omega arith) in
          let at = eqb-true k.provideport q port in
          omega arith

  abbrev v : Instance
  v = instance c i

  abbrev n : ℕ
  n = ports_of t v

  -- a number past all instances has nothing, so no service of it ends
  pub none-ends : v ≡ absent → (next : Sets) (m : ℕ) → ending_below t c i next m ≡ 0
  unfolding port_refusal use_refusal
  none-ends away next m =
      sym (collect-is 32 _ 0 (omega arith) (λ q h. member-none q ∙ sym (ap (◌&&◌ (ltb q m)) (no_end q) ∙ and-false (ltb q m))))
    where
      idle : (q : ℕ) → active_in t v.kind (sets_of v) q ≡ false
      idle q =
          rw (away, none-overlap (group_places t 0 q))
          (none-overlaps (joined 0 0) (group_transitions t 0 q) (λ j h e. absurd (false≢true (sym (member-joined j 0 0 h ∙ rw (member-none j)) ∙ e))))

      no_end : (q : ℕ) → gets t c i next service_in_use q ≡ false
      no_end q =
          ending-told (is_use t v.kind q) (active_in t v.kind next q) (active_in t v.kind (sets_of v) q) (linked q) (served q) (refused q)
          ∙ ap (λ (b : Bool). not (is_use t v.kind q) && (b && not (active_in t v.kind next q))) (idle q) ∙ and-false (not (is_use t v.kind q))

  -- a port that 38 or 34 is about is a use port
  pub gets-use : (next : Sets) (q : ℕ) → (gets t c i next unconnected q || gets t c i next unserved q) ≡ true → is_use t v.kind q ≡ true
  unfolding port_refusal use_refusal
  gets-use next q = use-told (is_use t v.kind q) (active_in t v.kind next q) (active_in t v.kind (sets_of v) q) (linked q) (served q) (refused q)

  -- 38 by the connection alone
  pub gets-unconnected : (next : Sets) (q : ℕ) → gets t c i next unconnected q ≡ is_unconnected t c i v.kind next q
  unfolding port_refusal use_refusal is_unconnected
  gets-unconnected next q =
      unconnected-told (is_use t v.kind q) (active_in t v.kind next q) (active_in t v.kind (sets_of v) q) (linked q) (served q) (refused q)

  module _ (w : Instance) (kind : w.kind ≡ v.kind) where
    gets-told : (number q : ℕ) → gets t c i (sets_of w) number q
        ≡ eqb (told (is_use t w.kind q) (active t w q) (active t v q) (linked q) (served q) (refused q)) number
    unfolding port_refusal use_refusal active
    gets-told number q = rw kind

    unconnected-at : (q : ℕ) → gets t c i (sets_of w) unconnected q ≡ fails_unconnected t (standing c) c i w q
    unfolding fails_unconnected
    unconnected-at q = gets-told unconnected q ∙ unconnected-told (is_use t w.kind q) (active t w q) (active t v q) (linked q) (served q) (refused q)

    unserved-at : (q : ℕ) → fails_unconnected t (standing c) c i w q ≡ false → gets t c i (sets_of w) unserved q ≡ fails_unserved t (standing c) c i w q
    unfolding fails_unconnected fails_unserved
    unserved-at q e = gets-told unserved q ∙ unserved-told (is_use t w.kind q) (active t w q) (active t v q) (linked q) (served q) (refused q) e

    refusing-at : (q : ℕ) → fails_unconnected t (standing c) c i w q ≡ false → fails_unserved t (standing c) c i w q ≡ false
        → gets t c i (sets_of w) provider_refusing q ≡ fails_refusing t (standing c) c i v w q
    unfolding fails_unconnected fails_unserved fails_refusing
    refusing-at q e f =
        gets-told provider_refusing q ∙ refusing-told (is_use t w.kind q) (active t w q) (active t v q) (linked q) (served q) (refused q) e f

    ending_at : (q : ℕ) → (gets t c i (sets_of w) service_in_use q && employed q) ≡ fails_in_use t (standing c) c i v w q
    unfolding fails_in_use
    ending_at q =
        ap (λ (b : Bool). b && employed q) (gets-told service_in_use q ∙ ending-told (is_use t w.kind q) (active t w q) (active t v q) (linked q) (served q) (refused q))
        ∙ inward (not (is_use t w.kind q)) (active t v q) (not (active t w q)) (employed q)
      where
        inward : (a b d x : Bool) → ((a && (b && d)) && x) ≡ (a && (b && (d && x)))
        inward true true d x = refl
        inward true false d x = refl
        inward false b d x = refl

    -- 36 by the set of the ports whose service ends and the set of those in use
    by-sets : overlaps (ending_below t c i (sets_of w) n) (in_use t (standing c) c i) ≡ any_below n (fails_in_use t (standing c) c i v w)
    unfolding in_use
    by-sets =
        any_same 32 _ _
        (λ q h. rw (member-collect 32 (λ j. ltb j n && gets t c i (sets_of w) service_in_use j) q h, member-collect 32 employed q h))
        ∙ any-alike 32 n (λ q. (ltb q n && gets t c i (sets_of w) service_in_use q) && employed q) (fails_in_use t (standing c) c i v w) there back
      where
        there : (q : ℕ) → q < 32 → ((ltb q n && gets t c i (sets_of w) service_in_use q) && employed q) ≡ true → (q < n) × (fails_in_use t (standing c) c i v w q ≡ true)
        there q h e =
            let (a, on) = (and-eq-true_iff (ltb q n && gets t c i (sets_of w) service_in_use q) _).0 e in
            let (low, ends) = (and-eq-true_iff (ltb q n) _).0 a in
            (ltb-true q n low, sym (ending_at q) ∙ rw (ends, on))

        back : (q : ℕ) → q < n → fails_in_use t (standing c) c i v w q ≡ true → (q < 32) × (((ltb q n && gets t c i (sets_of w) service_in_use q) && employed q) ≡ true)
        back q h e =
            let (ends, on) = (and-eq-true_iff (gets t c i (sets_of w) service_in_use q) _).0 (ending_at q ∙ e) in (
              by-test (ltb q 32) (ltb-true q 32) (λ far. absurd (false≢true (sym (employed-past q (omega (arith, ltb-false q 32 far))) ∙ on))),
              rw (lt-ltb q n h, ends, on),
            )

    -- the numbers and the ports by what each port gets
    pub ports-check : ports_refusal t c i (sets_of w) ≡ checked t c i w
    unfolding ports_refusal port_check concerned
    ports-check =
        by-test (any_below n (fails_unconnected t (standing c) c i w))
        (λ on. rw (first, on, lowest-same n _ _ (λ q h. unconnected-at q)))
        (λ off. by-test (any_below n (fails_unserved t (standing c) c i w))
        (λ on. rw (first, off, second off, on, lowest-same n _ _ (λ q h. unserved-at q (any_none n _ off q h))))
        (λ out. rw (first, off, second off, out, third off out, by-sets)
        (sym (late-unnamed late used _ _) ∙ late-unnamed late used _ _)))
      where
        late : Bool
        late = any_below n (fails_refusing t (standing c) c i v w)

        used : Bool
        used = any_below n (fails_in_use t (standing c) c i v w)

        first : any_below n (gets t c i (sets_of w) unconnected) ≡ any_below n (fails_unconnected t (standing c) c i w)
        first = any_same n _ _ (λ q h. unconnected-at q)

        second : any_below n (fails_unconnected t (standing c) c i w) ≡ false
            → any_below n (gets t c i (sets_of w) unserved) ≡ any_below n (fails_unserved t (standing c) c i w)
        second off = any_same n _ _ (λ q h. unserved-at q (any_none n _ off q h))

        third : any_below n (fails_unconnected t (standing c) c i w) ≡ false → any_below n (fails_unserved t (standing c) c i w) ≡ false
            → any_below n (gets t c i (sets_of w) provider_refusing) ≡ any_below n (fails_refusing t (standing c) c i v w)
        third off out = any_same n _ _ (λ q h. refusing-at q (any_none n _ off q h) (any_none n _ out q h))

-- ---- what is held after it

turned-bits : (r e l g : Bool) → (((r && not l) || g) || (e && not l)) ≡ (((r || e) && not l) || g)
turned-bits true true true g = or-false g
turned-bits true true false g = refl
turned-bits true false l g = or-false (not l || g)
turned-bits false true l g = or_comm g (not l)
turned-bits false false l g = or-false g

pub turned-held : (v : Instance) (loses gains : Sets) → held (turned v loses gains) ≡ changed (held v) loses.holds gains.holds
unfolding turned
turned-held v loses gains =
    collect-same 32 _ _
    (λ j h. rw (member-joined j (without v.running loses.holds) gains.holds h, member-without j v.running loses.holds h, member-without j v.ended loses.holds h, member-without j (held v) loses.holds h, member-joined j v.running v.ended h)
    (turned-bits (member j v.running) (member j v.ended) (member j loses.holds) (member j gains.holds)))

pub same-sets : (marks holds : ℕ) (s : Sets) → marks ≡ s.places → holds ≡ s.holds → ◌≡◌ {A = Sets} (record { places = marks; holds = holds }) s
same-sets marks holds s e f = rw (e, f)

-- any instance of that type with those marks and holds has the same port check
pub turned-check : (t : Tables) (c : Configuration) (i : ℕ) (loses gains : Sets) (w : Instance) → w.kind ≡ (instance c i).kind
    → w.marked ≡ changed (instance c i).marked loses.places gains.places → held w ≡ changed (held (instance c i)) loses.holds gains.holds
    → turn_answer t c i loses gains ≡ checked t c i w
unfolding turned
turned-check t c i loses gains w kind marks holds =
    let v = instance c i in
    let u = turned v loses gains in
    sym (ports-check t c i u refl) ∙ ap (ports_refusal t c i) (same-sets u.marked (held u) (sets_of w) (sym marks) (turned-held v loses gains ∙ sym holds))
    ∙ ports-check t c i w kind
