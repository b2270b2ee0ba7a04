-- What a sheet that was read gives is a universe of Definition 1, and an answer lawful actions; where they stop is a place of the text.
-- Assumes nothing.
use Prim.Native.Nat.{ℕ, suc, ◌+◌, ◌-◌, ◌*◌, ◌^◌, ◌≤◌, ◌<◌}
use mathlib.Core.List.{List}
use mathlib.Core.Bool.{true, ◌&&◌}
use mathlib.Core.Logic.{◌⊎◌, by_cases, ⊎_elim}
use mathlib.Core.Path.{◌≡◌, refl, sym, ap, ◌∙◌}
use native.Mathlib.Omega.{arith}
use native.Mathlib.Decide.{ℕ_discrete, dec_lt}
use lib.Dec.{eqb, leb}
use lib.ListN.{length, get_or, length-set, length-replicate}
use lib.Seq.{get_or-set_same, get_or-set_other}
use lib.Pow.{pow_pos}
use borrow.Author.Tests.{leb-true, ltb-true}
use Rattle.sets.specs.Mask.{with}
use Rattle.item_spec.specs.Reader.{bytes}
use Rattle.item_spec.proofs.Tests.{by-test, and_left, and_right}
use Rattle.read_spec.specs.Lines.{Run, Lines, stop}
use Rattle.read_spec.proofs.Rests.{Runs, runs_then, runs-give, runs-line, runs-each, runs-end, Went, goes, stops, StopsAt, run-stops, run-gives}
use Rattle.read_spec.proofs.Kept.{reads-due, reads-count}
use Rattle.aeolus_model.specs.declared.Step.{Step}
use Rattle.aeolus_model.specs.Model.{ResourceType, Universe, no_type, no_universe, type_of, name_of, NamesDiffer, to_of, number_place, number_at, with_type, with_count, with_states, with_initial, with_interfaces, with_provides, with_requires, with_name, with_to, with_number}
use Rattle.aeolus_model.specs.Action.{Plan, no_step, no_plan, step_of, with_step, with_steps}
use Rattle.aeolus_read_spec.specs.Limits.{types_ok, states_ok, state_ok, interfaces_ok, active_ok, steps_ok}
use Rattle.aeolus_read_spec.specs.Kinds.{provide_kind, require_kind}
use Rattle.aeolus_read_spec.specs.Texts.{types_at, states_at, initial_at, interfaces_at, in_provides, in_requires, with_interface, interface_at, to_at, row_at, rows_at, state_at, type_head, type_at, sheet, step_at, steps_at, plan}
use Rattle.aeolus_read_spec.specs.Lawful.{PortLawful, TypeLawful, UniverseLawful, UniversesAreLawful, NamesOfUniversesDiffer, PlanLawful, PlansAreLawful}
use Rattle.aeolus_read_spec.proofs.Kept.{Named, reads-interface, reads-to, Ported, reads-row, Lawfully, reads-step}
use Rattle.aeolus_read_spec.proofs.Away.{Sized, Away, away-none, away-then, type-away, type-own, name-away, to-away, number-away, lawful-away, Blank, blank-away, blank-first, sized-first, set-either, with-lt}

up_to : (a b n : ℕ) → leb a n && leb n b ≡ true → (a ≤ n) × (n ≤ b)
up_to a b n e = (leb-true a n (and_left (leb a n) (leb n b) e), leb-true n b (and_right (leb a n) (leb n b) e))

-- ---- type k while its interfaces are read, n in all, of which j have been: u is what was before type k
record Shape (t : ResourceType) : Type 0 where
  some : 1 ≤ t.states
  states : t.states ≤ 16
  initial : t.initial < t.states
  interfaces : t.interfaces ≤ 16
  provides : t.provides < 2 ^ t.interfaces
  requires : t.requires < 2 ^ t.interfaces

record Listing (u : Universe) (k n j : ℕ) (v : Universe) : Type 0 where
  away : Away k u v
  shape : Shape (type_of v k)
  many : (type_of v k).interfaces ≡ n
  names : (i : ℕ) → i < j → name_of v k i ≤ 255
  ascend : (i l : ℕ) → i < l → l < j → name_of v k i < name_of v k l
  to : (q : ℕ) → q < 16 → to_of v k q ≡ 0
  numbers : (q m i : ℕ) → q < 16 → m < 3 → i < 16 → number_at v k q m i ≡ 0

-- a mask of type k with interface j more, and nothing else
record Marked (k n : ℕ) (u v : Universe) : Type 0 where
  away : Away k u v
  shape : Shape (type_of v k)
  many : (type_of v k).interfaces ≡ n
  names : v.names ≡ u.names
  to : v.to ≡ u.to
  numbers : v.numbers ≡ u.numbers

module _ (k n j : ℕ) (h : k < 16) (l : j < n) (u : Universe) (z : Sized u) (s : Shape (type_of u k)) (q : (type_of u k).interfaces ≡ n) where
  abbrev t : ResourceType
  t = type_of u k

  abbrev provided : ResourceType
  provided = record { states = t.states; initial = t.initial; interfaces = t.interfaces; provides = with j t.provides; requires = t.requires }

  abbrev required : ResourceType
  required = record { states = t.states; initial = t.initial; interfaces = t.interfaces; provides = t.provides; requires = with j t.requires }

  grown : (m : ℕ) → m < 2 ^ t.interfaces → with j m < 2 ^ t.interfaces
  grown m g = let few = s.interfaces in with-lt t.interfaces j m (omega arith) (omega arith) g

  shape-provided : Shape provided
  shape-provided = record { some = s.some; states = s.states; initial = s.initial; interfaces = s.interfaces; provides = grown t.provides s.provides; requires = s.requires }

  shape-required : Shape required
  shape-required = record { some = s.some; states = s.states; initial = s.initial; interfaces = s.interfaces; provides = s.provides; requires = grown t.requires s.requires }

  same : Marked k n u u
  same = record { away = away-none k u z; shape = s; many = q; names = refl; to = refl; numbers = refl }

  put : (x : ResourceType) → Shape x → x.interfaces ≡ n → Marked k n u (with_type u k x)
  put x w e = record { away = type-away k u z x; shape = rw (type-own k u z x h) w; many = rw (type-own k u z x h) e; names = refl; to = refl; numbers = refl }

  marked-provides : (c : ℕ) → Marked k n u (in_provides k j c u)
  unfolding in_provides with_provides
  marked-provides c = by-test (eqb c require_kind) (λ e. rw (e, in_provides) same) (λ e. rw (e, in_provides) (put provided shape-provided q))

  marked-requires : (c : ℕ) → Marked k n u (in_requires k j c u)
  unfolding in_requires with_requires
  marked-requires c = by-test (eqb c provide_kind) (λ e. rw (e, in_requires) same) (λ e. rw (e, in_requires) (put required shape-required q))

module _ (u : Universe) (k n : ℕ) (h : k < 16) (few : n ≤ 16) where
  module _ (j : ℕ) (v : Universe) (l : j < n) (w : Listing u k n j v) (c r : ℕ) (y : Named v k j (c, r)) where
    abbrev v1 : Universe
    v1 = with_name v k j r

    abbrev v2 : Universe
    v2 = in_provides k j c v1

    abbrev v3 : Universe
    v3 = in_requires k j c v2

    a1 : Away k v v1
    a1 = name-away k v w.away.sized j r (omega arith)

    m2 : Marked k n v1 v2
    unfolding with_name
    m2 = marked-provides k n j h l v1 a1.sized w.shape w.many c

    m3 : Marked k n v2 v3
    m3 = marked-requires k n j h l v2 m2.away.sized m2.shape m2.many c

    name-is : (i : ℕ) → name_of v3 k i ≡ name_of v1 k i
    name-is i = ap (λ (xs : List ℕ). get_or xs (k * 16 + i) 0) (m3.names ∙ m2.names)

    old : (i : ℕ) → i < j → name_of v3 k i ≡ name_of v k i
    unfolding with_name
    old i g = name-is i ∙ get_or-set_other v.names (k * 16 + j) (k * 16 + i) r 0 (λ e. omega arith)

    own : name_of v3 k j ≡ r
    unfolding with_name
    own = name-is j ∙ get_or-set_same v.names (k * 16 + j) r 0 (omega (arith, w.away.sized.names))

    last : (i : ℕ) → i < j → name_of v k i < r
    last i g =
        by_cases (ℕ_discrete i (j - 1))
        (λ e. rw e (y.above (λ z. omega arith)))
        (λ d. omega (arith, w.ascend i (j - 1) (omega arith) (omega arith), y.above (λ z. omega arith)))

    listed_more : Listing u k n (suc j) (with_interface v k j c r)
    unfolding with_interface with_name
    listed_more = record {
      away = away-then k u v v3 w.away (away-then k v v2 v3 (away-then k v v1 v2 a1 m2.away) m3.away);
      shape = m3.shape;
      many = m3.many;
      names = λ i g. by_cases (ℕ_discrete i j)
          (λ e. rw (e, own) y.small)
          (λ d. rw (old i (omega arith)) (w.names i (omega arith)));
      ascend = λ i x g b. by_cases (ℕ_discrete x j)
          (λ e. rw (e, own, old i (omega arith)) (last i (omega arith)))
          (λ d. rw (old i (omega arith), old x (omega arith)) (w.ascend i x g (omega arith)));
      to = λ p g. ap (λ (xs : List ℕ). get_or xs (k * 16 + p) 0) (m3.to ∙ m2.to) ∙ w.to p g;
      numbers = λ p m i a b g. ap (λ (xs : List ℕ). get_or xs (number_place k p m i) 0) (m3.numbers ∙ m2.numbers) ∙ w.numbers p m i a b g;
    }

  runs-interface : (j : ℕ) (v : Universe) → j < n → Listing u k n j v → Runs (Listing u k n (suc j)) (interface_at k j v)
  unfolding interface_at
  runs-interface j v l w = runs_then (runs-line (reads-interface v k j)) (λ (c, r) y. runs-give (listed_more j v l w c r y))

-- ---- type k once its interfaces are read, while its states are
record Stating (u : Universe) (k : ℕ) (v : Universe) : Type 0 where
  away : Away k u v
  shape : Shape (type_of v k)
  names : (j : ℕ) → j < (type_of v k).interfaces → name_of v k j ≤ 255
  ascend : (i j : ℕ) → i < j → j < (type_of v k).interfaces → name_of v k i < name_of v k j
  to : (q : ℕ) → q < 16 → to_of v k q < 2 ^ (type_of v k).states
  ports : (q m j : ℕ) → q < 16 → m < 3 → j < 16 → PortLawful v k q m j

lawful : {u v : Universe} {k : ℕ} → Stating u k v → TypeLawful v k
lawful w = record {
  some = w.shape.some;
  states = w.shape.states;
  initial = w.shape.initial;
  interfaces = w.shape.interfaces;
  provides = w.shape.provides;
  requires = w.shape.requires;
  names = w.names;
  ascend = w.ascend;
  to = w.to;
  ports = w.ports;
}

begun : (u : Universe) (k n : ℕ) (v : Universe) → Listing u k n n v → Stating u k v
begun u k n v w =
    let e = w.many in
    record {
      away = w.away;
      shape = w.shape;
      names = λ j h. w.names j (omega arith);
      ascend = λ i j l h. w.ascend i j l (omega arith);
      to = λ q h. rw (w.to q h) (pow_pos (type_of v k).states);
      ports = λ q m j h l g. record {
        small = rw (w.numbers q m j h l g) (omega arith);
        listed = λ d. absurd (d (w.numbers q m j h l g));
        later = λ _ _. w.numbers q m j h l g;
      };
    }

-- the row that was put
placed : (k q : ℕ) (v : Universe) (m j x : ℕ) → Ported v k q (m, j, x) → m < 3 → q < 16 → j < 16 → (p n l : ℕ) → p < 16 → n < 3 → l < 16
    → number_place k p n l ≡ number_place k q m j → number_at (with_number v k q m j x) k p n l ≡ x → PortLawful (with_number v k q m j x) k p n l
unfolding with_number
placed k q v m j x y hm hq hj p n l a b d e f =
    let ep : p ≡ q = omega arith in
    let en : n ≡ m = omega arith in
    let el : l ≡ j = omega arith in
    record {
      small = rw f y.small;
      listed = λ _. rw (en, el) y.listed;
      later = λ s z. absurd (y.later (sym en ∙ s) (sym ep ∙ z));
    }

module _ (u : Universe) (k q : ℕ) (h : q < 16) where
  runs_to : (v : Universe) → Stating u k v → Runs (Stating u k) (to_at k q v)
  unfolding to_at with_to
  runs_to v w =
      let few = w.shape.states in
      runs_then (runs-line (reads-to (type_of v k).states (omega arith))) (λ m g. runs-give (record {
        away = away-then k u v (with_to v k q m) w.away (to-away k v w.away.sized q m h);
        shape = w.shape;
        names = w.names;
        ascend = w.ascend;
        to = λ p l. ⊎_elim (λ e. rw e.1 g) (λ e. rw e (w.to p l)) (set-either v.to (k * 16 + q) m (k * 16 + p));
        ports = λ a b c d e f. let p = w.ports a b c d e f in record { small = p.small; listed = p.listed; later = p.later };
      }))

  runs-row : (i : ℕ) (v : Universe) → Stating u k v → Runs (Stating u k) (row_at k q i v)
  unfolding row_at with_number
  runs-row i v w =
      let few = w.shape.interfaces in
      runs_then (runs-line (reads-row v k q)) (λ (m, j, x) y.
      let inside = y.place in
      runs-give (record {
        away = away-then k u v (with_number v k q m j x) w.away (number-away k v w.away.sized q m j x h y.map (omega arith));
        shape = w.shape;
        names = w.names;
        ascend = w.ascend;
        to = w.to;
        ports = λ p n l a b d. ⊎_elim
            (λ e. placed k q v m j x y y.map h (omega arith) p n l a b d e.0 e.1)
            (λ e. let o = w.ports p n l a b d in record { small = rw e o.small; listed = rw e o.listed; later = rw e o.later })
            (set-either v.numbers (number_place k q m j) x (number_place k p n l));
      }))

  runs-rows : (v : Universe) → Stating u k v → Runs (Stating u k) (rows_at k q v)
  unfolding rows_at
  runs-rows v w =
      runs_then (runs-line (reads-count (bytes "active=") active_ok)) (λ n _.
      runs-each (row_at k q) (λ _. Stating u k) n (λ i a l g. runs-row i a g) n 0 v (omega arith) w)

  runs-state : (v : Universe) → Stating u k v → Runs (Stating u k) (state_at k q v)
  unfolding state_at
  runs-state v w =
      runs_then (runs-line (reads-due (bytes "state=") q)) (λ _ _. runs_then (runs_to v w) (λ a g. runs-rows a g))

-- ---- the lines of type k before its interfaces: u was before, and t is what type k has now
record Heading (u : Universe) (k : ℕ) (t : ResourceType) (v : Universe) : Type 0 where
  away : Away k u v
  type : type_of v k ≡ t
  to : v.to ≡ u.to
  numbers : v.numbers ≡ u.numbers

module _ (u : Universe) (k : ℕ) (h : k < 16) where
  head-put : (v : Universe) (s t x : ResourceType) → Heading u k s v → x ≡ t → Heading u k t (with_type v k x)
  head-put v s t x w e = record {
    away = away-then k u v (with_type v k x) w.away (type-away k v w.away.sized x);
    type = type-own k v w.away.sized x h ∙ e;
    to = w.to;
    numbers = w.numbers;
  }

  abbrev made : ℕ → ℕ → ℕ → ResourceType
  made n q i = record { states = n; initial = q; interfaces = i; provides = 0; requires = 0 }

  record Stated (v : Universe) : Type 0 where
    head : Heading u k (made (type_of v k).states 0 0) v
    some : 1 ≤ (type_of v k).states
    few : (type_of v k).states ≤ 16

  record Started (v : Universe) : Type 0 where
    head : Heading u k (made (type_of v k).states (type_of v k).initial 0) v
    some : 1 ≤ (type_of v k).states
    few : (type_of v k).states ≤ 16
    initial : (type_of v k).initial < (type_of v k).states

  -- what is said of the parts of t is said of type k
  told-states : (v : Universe) (n : ℕ) → Heading u k (made n 0 0) v → 1 ≤ n → n ≤ 16 → Stated v
  told-states v n w a b = record { head = rw w.type w; some = rw w.type a; few = rw w.type b }

  told-initial : (v : Universe) (n q : ℕ) → Heading u k (made n q 0) v → 1 ≤ n → n ≤ 16 → q < n → Started v
  told-initial v n q w a b d = record { head = rw w.type w; some = rw w.type a; few = rw w.type b; initial = rw w.type d }

  module _ (z : Sized u) (b : Blank u k) where
    runs-states : Runs Stated (states_at k u)
    unfolding states_at with_states
    runs-states =
        runs_then (runs-line (reads-count (bytes "states=") states_ok)) (λ n e.
        let (low, high) = up_to 1 16 n e in
        let first : Heading u k no_type u = record { away = away-none k u z; type = b.type; to = refl; numbers = refl } in
        runs-give (told-states (with_states u k n) n (head-put u no_type (made n 0 0) _ first (rw b.type)) low high))

    runs-initial : (v : Universe) → Stated v → Runs Started (initial_at k v)
    unfolding initial_at with_initial
    runs-initial v w =
        runs_then (runs-line (reads-count (bytes "initial=") (state_ok (type_of v k).states))) (λ q e.
        runs-give (told-initial (with_initial v k q) (type_of v k).states q
        (head-put v (made (type_of v k).states 0 0) (made (type_of v k).states q 0) _ w.head (ap (λ (t : ResourceType). record { states = t.states; initial = q; interfaces = t.interfaces; provides = t.provides; requires = t.requires }) w.head.type))
        w.some w.few (ltb-true q _ e)))

    listing : (v : Universe) (n q i : ℕ) → Heading u k (made n q i) v → 1 ≤ n → n ≤ 16 → q < n → i ≤ 16 → Listing u k (type_of v k).interfaces 0 v
    listing v n q i w some few below most = record {
      away = w.away;
      shape = rw w.type (record { some = some; states = few; initial = below; interfaces = most; provides = pow_pos i; requires = pow_pos i });
      many = refl;
      names = λ j l. absurd (omega arith);
      ascend = λ j l a d. absurd (omega arith);
      to = λ p l. ap (λ (xs : List ℕ). get_or xs (k * 16 + p) 0) w.to ∙ b.to p l;
      numbers = λ p m j a d l. ap (λ (xs : List ℕ). get_or xs (number_place k p m j) 0) w.numbers ∙ b.numbers p m j a d l;
    }

    runs-interfaces : (v : Universe) → Started v → Runs (λ v. Listing u k (type_of v k).interfaces 0 v) (interfaces_at k v)
    unfolding interfaces_at with_interfaces
    runs-interfaces v w =
        runs_then (runs-line (reads-count (bytes "interfaces=") interfaces_ok)) (λ i e.
        runs-give (listing (with_interfaces v k i) (type_of v k).states (type_of v k).initial i
        (head-put v (made (type_of v k).states (type_of v k).initial 0) (made (type_of v k).states (type_of v k).initial i) _ w.head (ap (λ (t : ResourceType). record { states = t.states; initial = t.initial; interfaces = i; provides = t.provides; requires = t.requires }) w.head.type))
        w.some w.few w.initial (up_to 0 16 i e).1))

    runs-head : Runs (λ v. Listing u k (type_of v k).interfaces 0 v) (type_head k u)
    unfolding type_head
    runs-head =
        runs_then (runs-line (reads-due (bytes "type=") k)) (λ _ _.
        runs_then runs-states (λ v w. runs_then (runs-initial v w) (λ x g. runs-interfaces x g)))

    runs-type : Runs (Stating u k) (type_at k u)
    unfolding type_at
    runs-type =
        runs_then runs-head (λ v w.
        let n = (type_of v k).interfaces in
        runs_then (runs-each (interface_at k) (Listing u k n) n (λ j x l g. runs-interface u k n h w.shape.interfaces j x l g) n 0 v (omega arith) w) (λ x g.
        let s = begun u k n x g in
        let m = (type_of x k).states in
        let few = s.shape.states in
        runs-each (state_at k) (λ _. Stating u k) m (λ q y l e. runs-state u k q (omega arith) y e) m 0 x (omega arith) s))

-- ---- a sheet of n types, whose first i are read
record Typed (n i : ℕ) (u : Universe) : Type 0 where
  sized : Sized u
  count : u.count ≡ n
  done : (k : ℕ) → k < i → TypeLawful u k
  blank : (k : ℕ) → i ≤ k → Blank u k

typed-more : (n i : ℕ) (u v : Universe) → Typed n i u → Stating u i v → Typed n (suc i) v
typed-more n i u v w s = record {
  sized = s.away.sized;
  count = s.away.count ∙ w.count;
  done = λ k g. by_cases (ℕ_discrete k i) (λ e. rw e (lawful s)) (λ d. lawful-away i u v s.away k d (w.done k (omega arith)));
  blank = λ k g. blank-away i u v s.away k (λ e. omega arith) (w.blank k (omega arith));
}

-- what is known of each value
runs-known : {A : Type 0} {P Q : A → Type 0} {m : Lines A} → Runs P m → ((a : A) → P a → Q a) → Runs Q m
runs-known {A = A} {P = P} {Q = Q} h f s = known (h s)
  where
    known : {x : Run A} → Went P s x → Went Q s x
    known (goes r p) = goes r (f _ p)
    known (stops r u) = stops r u

runs-first : Runs (λ u. (1 ≤ u.count) × (u.count ≤ 16) × Typed u.count 0 u) (types_at no_universe)
unfolding types_at with_count
runs-first =
    runs_then (runs-line (reads-count (bytes "types=") types_ok)) (λ n e.
    let (low, high) = up_to 1 16 n e in
    runs-give (low, high, record { sized = sized-first n; count = refl; done = λ k l. absurd (omega arith); blank = λ k l. blank-first n k }))

pub runs-sheet : Runs UniverseLawful sheet
unfolding sheet
runs-sheet =
    runs_then (runs-line (reads-due (bytes "aeolus=") 1)) (λ _ _.
    runs_then runs-first (λ u (low, high, w).
    runs_then (runs-each type_at (Typed u.count) u.count (λ i v l g. runs-known (runs-type v i (omega arith) g.sized (g.blank i (omega arith))) (λ x s. typed-more u.count i v x g s)) u.count 0 u (omega arith) w) (λ v g.
    runs_then runs-end (λ _ _. runs-give (record {
      some = rw g.count low;
      few = rw g.count high;
      types = λ k l. g.done k (rw g.count at l);
      rest = λ k l. (g.blank k (rw g.count at l)).type;
    })))))

pub universes-are-lawful : UniversesAreLawful
unfolding UniversesAreLawful
universes-are-lawful s r u e = run-gives runs-sheet s u r e

pub sheet-stops : (s : List ℕ) (n : ℕ) (r : List ℕ) → sheet s ≡ stop n r → StopsAt s n r
sheet-stops = run-stops runs-sheet

pub names-of-universes-differ : NamesOfUniversesDiffer
unfolding NamesOfUniversesDiffer NamesDiffer
names-of-universes-differ u w k i j a b e =
    by_cases (dec_lt k u.count)
    (λ h.
    let t = w.types k h in
    by_cases (dec_lt i j)
    (λ l. absurd (omega (arith, t.ascend i j l b)))
    (λ l. by_cases (dec_lt j i) (λ g. absurd (omega (arith, t.ascend j i g a))) (λ g. omega arith)))
    (λ h. absurd (omega (arith, rw (w.rest k (omega arith)) at a)))

-- ---- a plan
record Planned (n i : ℕ) (p : Plan) : Type 0 where
  sized : length p.steps ≡ 1024
  few : p.count ≤ 1024
  done : (j : ℕ) → j < i → Lawfully n (step_of p j)

planned-more : (n i : ℕ) (p : Plan) (x : Step) → i < p.count → Planned n i p → Lawfully n x → Planned n (suc i) (with_step p i x)
unfolding with_step
planned-more n i p x l w y =
    let few = w.few in
    record {
      sized = length-set p.steps i x ∙ w.sized;
      few = w.few;
      done = λ j g. by_cases (ℕ_discrete j i)
          (λ e. rw (e, get_or-set_same p.steps i x no_step (omega (arith, w.sized))) y)
          (λ d. rw (get_or-set_other p.steps i j x no_step d) (w.done j (omega arith)));
    }

-- the count stays as it was
record Counted (n c i : ℕ) (p : Plan) : Type 0 where
  planned : Planned n i p
  count : p.count ≡ c

same_count : (p : Plan) (i : ℕ) (x : Step) → (with_step p i x).count ≡ p.count
unfolding with_step
same_count p i x = refl

runs-step : (n c i : ℕ) (p : Plan) → i < c → Counted n c i p → Runs (Counted n c (suc i)) (step_at n i p)
unfolding step_at
runs-step n c i p l w =
    let e = w.count in
    runs_then (runs-line (reads-step n)) (λ x y. runs-give (record { planned = planned-more n i p x (omega arith) w.planned y; count = same_count p i x ∙ e }))

runs-steps : (n : ℕ) → Runs (λ p. Counted n p.count 0 p) (steps_at no_plan)
unfolding steps_at with_steps no_plan
runs-steps n =
    runs_then (runs-line (reads-count (bytes "steps=") steps_ok)) (λ k e.
    runs-give (record {
      planned = record { sized = length-replicate 1024 no_step; few = (up_to 0 1024 k e).1; done = λ j l. absurd (omega arith) };
      count = refl;
    }))

pub runs-plan : (n : ℕ) → Runs (PlanLawful n) (plan n)
unfolding plan
runs-plan n =
    runs_then (runs-line (reads-due (bytes "plan=") 1)) (λ _ _.
    runs_then (runs-steps n) (λ p w.
    runs_then (runs-each (step_at n) (Counted n p.count) p.count (λ i q l g. runs-step n p.count i q l g) p.count 0 p (omega arith) w) (λ q g.
    runs_then runs-end (λ _ _. runs-give (record { few = g.planned.few; steps = λ j l. g.planned.done j (rw g.count at l) })))))

pub plans-are-lawful : PlansAreLawful
unfolding PlansAreLawful
plans-are-lawful n s r p e = run-gives (runs-plan n) s p r e

pub plan-stops : (t : ℕ) (s : List ℕ) (n : ℕ) (r : List ℕ) → plan t s ≡ stop n r → StopsAt s n r
plan-stops t = run-stops (runs-plan t)
