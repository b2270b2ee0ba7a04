-- Every point of a run is a configuration of Definition 2, and after a deletion just the bindings that named the component are gone.
-- Assumes nothing.
use mathlib.Core.Path.{◌≡◌, refl, sym, ap, ◌∙◌, subst}
use mathlib.Core.Logic.{◌≢◌, by_cases}
use mathlib.Core.Bool.{Bool, true, false, not, ◌&&◌, ◌||◌, and-false, and-true, or-false, true≢false}
use mathlib.Core.List.{List, [], ◌∷◌}
use Prim.Native.Nat.{ℕ, ◌+◌, ◌*◌, ◌/◌, ◌≤◌, ◌<◌}
use native.Mathlib.Omega.{arith}
use native.Mathlib.Decide.{ℕ_discrete}
use lib.Dec.{eqb}
use lib.ListN.{length, get_or, set, length-set, length-replicate}
use lib.Seq.{get_or-set_same, get_or-set_other}
use borrow.Author.Tests.{eq-eqb, ne_eqb, eqb-true, eqb-false, not-true}
use Rattle.sets.specs.Mask.{member, with, without, only}
use Rattle.sets.proofs.Laws.{member-past, member-with, member-without, member-only}
use Rattle.item_spec.proofs.Tests.{by-test}
use Rattle.aeolus_model.specs.Model.{Universe, Configuration, nothing, type_of, name_of, place_of, lists, kind_of, state_of, deployed, bound}
use Rattle.aeolus_rules_spec.specs.Definition1.{Lawful}
use Rattle.aeolus_rules_spec.specs.New.{added}
use Rattle.aeolus_rules_spec.specs.Del.{deleted}
use Rattle.aeolus_rules_spec.specs.Change.{changed}
use Rattle.aeolus_rules_spec.specs.Bind.{requires, sizes, bindings, rebound, joined}
use Rattle.aeolus_rules_spec.specs.Unbind.{parted}
use Rattle.aeolus_model.specs.Action.{Action, new, del, change, bind, unbind}
use Rattle.aeolus_rules_spec.specs.Action.{effect}
use Rattle.aeolus_rules_spec.specs.Run.{one_more, run}
use Rattle.aeolus_rules_spec.specs.Definition2.{Configured, Known, AllKnown, PointsAreConfigurations, DeletedBindingsGo}
use Rattle.aeolus_rules_spec.specs.Definition7.{Own}
use Rattle.aeolus_rules_spec.proofs.Exactly.{both, find-is}
use Rattle.aeolus_rules_spec.proofs.Allowed.{number-exactly}
use Rattle.aeolus_rules_spec.proofs.Runs.{run-cases}
use Rattle.aeolus_rules_spec.proofs.Bindings.{sizes-with, sizes-without, sizes-freed, freed-member, length-freed, get_d_replicate, sizes-none}

-- ---- rows

-- the providers to which z is bound for the interface at place j of its type
abbrev pub row : Configuration → ℕ → ℕ → ℕ
row c z j = get_or c.bound (z * 16 + j) 0

-- interface j of type k is required there, and type l provides it
pub record Fits (u : Universe) (k l j : ℕ) : Type 0 where
  pub place : j < (type_of u k).interfaces
  pub required : member j (type_of u k).requires ≡ true
  pub listed : lists u l (name_of u k j) ≡ true
  pub provided : member (place_of u l (name_of u k j)) (type_of u l).provides ≡ true

pub record Row (u : Universe) (c : Configuration) (z j y : ℕ) : Type 0 where
  pub requirer : deployed c z ≡ true
  pub provider : deployed c y ≡ true
  pub apart : z ≢ y
  pub fits : Fits u (kind_of c z) (kind_of c y) j

-- what each point keeps, of all rows, those too that no interface stands for
pub record Sound (u : Universe) (c : Configuration) : Type 0 where
  pub kinds-length : length c.kinds ≡ 32
  pub states-length : length c.states ≡ 32
  pub bound-length : length c.bound ≡ 512
  pub kind : (z : ℕ) → z < 32 → deployed c z ≡ true → kind_of c z < u.count
  pub state : (z : ℕ) → z < 32 → deployed c z ≡ true → state_of c z < (type_of u (kind_of c z)).states
  pub rows : (z j y : ℕ) → z < 32 → j < 16 → y < 32 → member y (row c z j) ≡ true → Row u c z j y
  pub few : bindings c ≤ 64

same-fits : (u : Universe) {k k' l l' j : ℕ} → k' ≡ k → l' ≡ l → Fits u k l j → Fits u k' l' j
same-fits u e f h = rw (e, f) h

-- a listed interface stands at its place, below sixteen
module _ (u : Universe) (law : Lawful u) where
  pub place_is : (k r : ℕ) → lists u k r ≡ true → (place_of u k r < (type_of u k).interfaces) × (name_of u k (place_of u k r) ≡ r)
  place_is k r e = let (l, q) = find-is (type_of u k).interfaces (λ j. eqb (name_of u k j) r) e in (l, eqb-true (name_of u k (place_of u k r)) r q)

  pub place-small : (k r : ℕ) → lists u k r ≡ true → place_of u k r < 16
  place-small k r e = omega (arith, (place_is k r e).0, law.interfaces k)

  -- ---- from rows to Definition 2
  pub configured : (c : Configuration) → Sound u c → Configured u c
  unfolding bound
  configured c s = record {
    kind = s.kind;
    state = s.state;
    few = s.few;
    joins = λ r z y hz hy e.
        let (d, rest) = both (deployed c z) e in
        let (l, m) = both (lists u (kind_of c z) r) rest in
        let (below, name) = place_is (kind_of c z) r l in
        let w = s.rows z (place_of u (kind_of c z) r) y hz (place-small (kind_of c z) r l) hy m in
        let f = w.fits in
        record {
          requirer = d;
          provider = w.provider;
          apart = w.apart;
          required = rw l f.required;
          offered = subst (λ (x : ℕ). (lists u (kind_of c y) x && member (place_of u (kind_of c y) x) (type_of u (kind_of c y)).provides) ≡ true) name (rw f.listed f.provided);
        };
  }

  -- ---- what each action keeps
  module _ (c : Configuration) (s : Sound u c) where
    -- a row's ends are as they were
    same_row : (d : Configuration) (z j y : ℕ) → deployed d z ≡ deployed c z → deployed d y ≡ deployed c y → kind_of d z ≡ kind_of c z → kind_of d y ≡ kind_of c y → Row u c z j y → Row u d z j y
    same_row d z j y a b e f w = record { requirer = a ∙ w.requirer; provider = b ∙ w.provider; apart = w.apart; fits = same-fits u e f w.fits }

    keeps-change : (z q t : ℕ) → z < 32 → Own u c (change z q t) → Sound u (changed c z t)
    unfolding changed
    keeps-change z q t h (there, at, goes) = record {
      kinds-length = s.kinds-length;
      states-length = length-set c.states z t ∙ s.states-length;
      bound-length = s.bound-length;
      kind = s.kind;
      state = λ x l e. by_cases (ℕ_discrete x z)
          (λ q₁. rw (q₁, get_or-set_same c.states z t 0 (omega (arith, s.states-length)))
          (law.changes (kind_of c z) q t (s.kind z h there) (rw at at (s.state z h there)) goes))
          (λ n. rw (get_or-set_other c.states z x t 0 n) (s.state x l e));
      rows = λ x j y hx hj hy e. same_row (changed c z t) x j y refl refl refl refl (s.rows x j y hx hj hy e);
      few = s.few;
    }

    -- z is absent, so no row names it
    keeps-new : (z k : ℕ) → z < 32 → k < u.count → Own u c (new z k) → Sound u (added u c z k)
    unfolding added
    keeps-new z k h known away = record {
      kinds-length = length-set c.kinds z k ∙ s.kinds-length;
      states-length = length-set c.states z (type_of u k).initial ∙ s.states-length;
      bound-length = s.bound-length;
      kind = λ x l e. by_cases (ℕ_discrete x z)
          (λ q. rw (q, here) known)
          (λ n. rw (other-kind x n) (s.kind x l (sym (other x l n) ∙ e)));
      state = λ x l e. by_cases (ℕ_discrete x z)
          (λ q. rw (q, here, get_or-set_same c.states z (type_of u k).initial 0 (omega (arith, s.states-length))) (law.initial k known))
          (λ n. rw (other-kind x n, get_or-set_other c.states z x (type_of u k).initial 0 n) (s.state x l (sym (other x l n) ∙ e)));
      rows = λ x j y hx hj hy e.
          let w = s.rows x j y hx hj hy e in
          let nx = named x w.requirer in
          let ny = named y w.provider in
          same_row (added u c z k) x j y (other x hx nx) (other y hy ny) (other-kind x nx) (other-kind y ny) w;
      few = s.few;
    }
      where
        here : get_or (set c.kinds z k) z 0 ≡ k
        here = get_or-set_same c.kinds z k 0 (omega (arith, s.kinds-length))

        other : (x : ℕ) → x < 32 → x ≢ z → member x (with z c.present) ≡ deployed c x
        other x l n = member-with x z c.present l ∙ rw (ne_eqb x z n) (or-false (deployed c x))

        other-kind : (x : ℕ) → x ≢ z → get_or (set c.kinds z k) x 0 ≡ kind_of c x
        other-kind x n = get_or-set_other c.kinds z x k 0 n

        named : (x : ℕ) → deployed c x ≡ true → x ≢ z
        named x e q = true≢false (sym e ∙ ap (deployed c) q ∙ away)

    keeps-del : (z : ℕ) → z < 32 → Sound u (deleted c z)
    unfolding deleted
    keeps-del z h = record {
      kinds-length = length-set c.kinds z 0 ∙ s.kinds-length;
      states-length = length-set c.states z 0 ∙ s.states-length;
      bound-length = length-freed z 0 c.bound ∙ s.bound-length;
      kind = λ x l e. let (old, n) = still x l e in rw (get_or-set_other c.kinds z x 0 0 n) (s.kind x l old);
      state = λ x l e. let (old, n) = still x l e in rw (get_or-set_other c.kinds z x 0 0 n, get_or-set_other c.states z x 0 0 n) (s.state x l old);
      rows = λ x j y hx hj hy e.
          let (nx, rest) = both (not (eqb ((0 + (x * 16 + j)) / 16) z)) (sym (freed-member z 0 c.bound (x * 16 + j) y hy) ∙ e) in
          let (old, ny) = both (member y (row c x j)) rest in
          let px : x ≢ z = λ q. eqb-false ((0 + (x * 16 + j)) / 16) z (not-true (eqb ((0 + (x * 16 + j)) / 16) z) nx) (omega arith) in
          let py : y ≢ z = eqb-false y z (not-true (eqb y z) ny) in
          same_row (deleted c z) x j y (other x hx px) (other y hy py) (get_or-set_other c.kinds z x 0 0 px) (get_or-set_other c.kinds z y 0 0 py) (s.rows x j y hx hj hy old);
      few = omega (arith, sizes-freed z 0 c.bound, s.few);
    }
      where
        gone : (x : ℕ) → x < 32 → member x (without c.present (only z)) ≡ (deployed c x && not (eqb x z))
        gone x l = member-without x c.present (only z) l ∙ ap (λ (b : Bool). deployed c x && not b) (member-only x z l)

        other : (x : ℕ) → x < 32 → x ≢ z → member x (without c.present (only z)) ≡ deployed c x
        other x l n = gone x l ∙ rw (ne_eqb x z n) (and-true (deployed c x))

        still : (x : ℕ) → x < 32 → member x (without c.present (only z)) ≡ true → (deployed c x ≡ true) × (x ≢ z)
        still x l e = let (old, n) = both (deployed c x) (sym (gone x l) ∙ e) in (old, eqb-false x z (not-true (eqb x z) n))

    -- the row of z for r becomes m
    keeps-row : (r z m : ℕ) → z < 32 → lists u (kind_of c z) r ≡ true
        → ((y : ℕ) → y < 32 → member y m ≡ true → Row u c z (place_of u (kind_of c z) r) y)
        → sizes (set c.bound (z * 16 + place_of u (kind_of c z) r) m) ≤ 64
        → Sound u (rebound u c r z (λ _. m))
    unfolding rebound
    keeps-row r z m h l ends few = record {
      kinds-length = s.kinds-length;
      states-length = s.states-length;
      bound-length = length-set c.bound at m ∙ s.bound-length;
      kind = s.kind;
      state = s.state;
      few = few;
      rows = λ x j y hx hj hy e. same_row (rebound u c r z (λ _. m)) x j y refl refl refl refl (by_cases (ℕ_discrete (x * 16 + j) at)
          (λ q. let ex : x ≡ z = omega (arith, place-small (kind_of c z) r l) in let ej : j ≡ p = omega (arith, place-small (kind_of c z) r l) in
          rw (ex, ej) (ends y hy (sym (ap (member y) (ap (λ (n : ℕ). get_or (set c.bound at m) n 0) q ∙ get_or-set_same c.bound at m 0 (omega (arith, place-small (kind_of c z) r l, s.bound-length)))) ∙ e)))
          (λ n. s.rows x j y hx hj hy (sym (ap (member y) (get_or-set_other c.bound at (x * 16 + j) m 0 n)) ∙ e)));
    }
      where
        p : ℕ
        p = place_of u (kind_of c z) r

        at : ℕ
        at = z * 16 + p

    keeps-bind : (r z y : ℕ) → z < 32 → z ≢ y → Own u c (bind r z y) → Sound u (joined u c r z y)
    unfolding joined rebound
    keeps-bind r z y h apart (requirer, provider, required, offered, free, few) =
        keeps-row r z (with y (row c z p)) h l
        (λ x hx e. by_cases (ℕ_discrete x y)
        (λ q. rw q (record { requirer = requirer; provider = provider; apart = apart; fits = fits }))
        (λ n. s.rows z p x h (place-small (kind_of c z) r l) hx (sym (or-false (member x (row c z p))) ∙ ap (λ (b : Bool). member x (row c z p) || b) (sym (ne_eqb x y n)) ∙ sym (member-with x y (row c z p) hx) ∙ e)))
        (omega (arith, sizes-with c.bound (z * 16 + p) y))
      where
        p : ℕ
        p = place_of u (kind_of c z) r

        l : lists u (kind_of c z) r ≡ true
        l = (both (lists u (kind_of c z) r) required).0

        fits : Fits u (kind_of c z) (kind_of c y) p
        fits =
            let (below, name) = place_is (kind_of c z) r l in
            let (listed, provided) = both (lists u (kind_of c y) r) offered in
            record {
              place = below;
              required = (both (lists u (kind_of c z) r) required).1;
              listed = subst (λ (x : ℕ). lists u (kind_of c y) x ≡ true) (sym name) listed;
              provided = subst (λ (x : ℕ). member (place_of u (kind_of c y) x) (type_of u (kind_of c y)).provides ≡ true) (sym name) provided;
            }

    keeps-unbind : (r z y : ℕ) → z < 32 → Own u c (unbind r z y) → Sound u (parted u c r z y)
    unfolding parted rebound bound
    keeps-unbind r z y h stands =
        keeps-row r z (without (row c z p) (only y)) h l
        (λ x hx e. s.rows z p x h (place-small (kind_of c z) r l) hx (both (member x (row c z p)) (sym (member-without x (row c z p) (only y) hx) ∙ e)).0)
        (omega (arith, sizes-without c.bound (z * 16 + p) (only y), s.few))
      where
        p : ℕ
        p = place_of u (kind_of c z) r

        l : lists u (kind_of c z) r ≡ true
        l = (both (lists u (kind_of c z) r) (both (deployed c z) stands).1).0

    pub keeps : (a : Action) → Known u a → Own u c a → Sound u (effect u c a)
    unfolding effect
    keeps (new z k) (h, known) own = keeps-new z k h known own
    keeps (del z) h own = keeps-del z h
    keeps (change z q t) h own = keeps-change z q t h own
    keeps (bind r z y) (hz, hy, apart) own = keeps-bind r z y hz apart own
    keeps (unbind r z y) (hz, hy, apart) own = keeps-unbind r z y hz own

  run_sound : (acts : List Action) (c : Configuration) → AllKnown u acts → Sound u c → Sound u (run u c acts).configuration
  unfolding run one_more
  run_sound [] c known s = s
  run_sound (a ∷ rest) c (k, known) s =
      run-cases u (λ w. Sound u w.configuration) c a rest (λ e. run_sound rest (effect u c a) known (keeps c s a k ((number-exactly u c a).0 e).0)) (λ n. s)

  -- nothing is deployed, and every row is empty
  start-sound : Sound u nothing
  unfolding nothing
  start-sound = record {
    kinds-length = length-replicate {A = ℕ} 32 0;
    states-length = length-replicate {A = ℕ} 32 0;
    bound-length = length-replicate {A = ℕ} 512 0;
    kind = λ z h e. absurd (true≢false (sym e ∙ none z));
    state = λ z h e. absurd (true≢false (sym e ∙ none z));
    rows = λ z j y hz hj hy e. absurd (true≢false (sym e ∙ ap (member y) (get_d_replicate 512 (z * 16 + j)) ∙ none y));
    few = omega (arith, sizes-none 512);
  }
    where
      none : (z : ℕ) → member z 0 ≡ false
      none z = member-past 0 z 0 (omega arith) (omega arith)

  pub points-sound : (acts : List Action) → AllKnown u acts → Sound u (run u nothing acts).configuration
  points-sound acts known = run_sound acts nothing known start-sound

pub points-are-configurations : PointsAreConfigurations
unfolding PointsAreConfigurations
points-are-configurations u acts law known = configured u law (run u nothing acts).configuration (points-sound u law acts known)

shift : (a b d : Bool) → (a && (b && d)) ≡ ((a && b) && d)
shift true b d = refl
shift false b d = refl

pub deleted-bindings-go : DeletedBindingsGo
unfolding DeletedBindingsGo bound deleted
deleted-bindings-go u c z r x y law hx hy =
    by_cases (ℕ_discrete x z)
    (λ q. rw (gone, eq-eqb x z q, and-false (deployed c x)) (sym (and-false (bound u c r x y))))
    (λ n. rw (gone, ne_eqb x z n, and-true (deployed c x), get_or-set_other c.kinds z x 0 0 n, freed-member z 0 c.bound (x * 16 + p) y hy) (others n))
  where
    p : ℕ
    p = place_of u (kind_of c x) r

    gone : member x (without c.present (only z)) ≡ (deployed c x && not (eqb x z))
    gone = member-without x c.present (only z) hx ∙ ap (λ (b : Bool). deployed c x && not b) (member-only x z hx)

    others : x ≢ z → (deployed c x && (lists u (kind_of c x) r && (not (eqb ((0 + (x * 16 + p)) / 16) z) && (member y (get_or c.bound (x * 16 + p) 0) && not (eqb y z)))))
        ≡ ((deployed c x && (lists u (kind_of c x) r && member y (get_or c.bound (x * 16 + p) 0))) && not (eqb y z))
    others n = by-test (lists u (kind_of c x) r)
        (λ l. let e : (0 + (x * 16 + p)) / 16 ≡ x = omega (arith, place-small u law (kind_of c x) r l) in rw (l, e, ne_eqb x z n) (shift (deployed c x) (member y (get_or c.bound (x * 16 + p) 0)) (not (eqb y z))))
        (λ l. rw (l, and-false (deployed c x)) (refl))
