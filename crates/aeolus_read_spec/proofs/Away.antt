-- What is read of one type leaves every other as it was; a type of which nothing was read is blank.
-- Assumes nothing.
use Prim.Native.Nat.{ℕ, zero, suc, ◌+◌, ◌-◌, ◌*◌, ◌^◌, ◌≤◌, ◌<◌}
use mathlib.Core.List.{List}
use mathlib.Core.Bool.{Bool, false, ◌||◌}
use mathlib.Core.Logic.{◌≢◌, ◌⊎◌, inl, inr, by_cases}
use mathlib.Core.Path.{◌≡◌, refl, sym, ap, ◌∙◌}
use native.Mathlib.Omega.{arith}
use native.Mathlib.Decide.{ℕ_discrete, dec_lt}
use native.Mathlib.Nat.{add-zero}
use lib.Dec.{eqb}
use lib.ListN.{length, get_or, set, replicate, length-set, length-replicate}
use lib.Seq.{get_or-set_same, get_or-set_other, set_out}
use borrow.Author.Tests.{ne_eqb}
use Rattle.sets.specs.Mask.{member, collect, with}
use Rattle.sets.proofs.Laws.{collect-lt, gather-out, member-past}
use Rattle.aeolus_model.specs.Model.{ResourceType, Universe, no_type, no_universe, type_of, name_of, to_of, number_place, number_at, with_type, with_count, with_name, with_to, with_number}
use Rattle.aeolus_read_spec.specs.Lawful.{PortLawful, TypeLawful}

pub record Sized (u : Universe) : Type 0 where
  pub types : length u.types ≡ 16
  pub names : length u.names ≡ 256

-- v is u but for type k
pub record Away (k : ℕ) (u v : Universe) : Type 0 where
  pub sized : Sized v
  pub count : v.count ≡ u.count
  pub types : (i : ℕ) → i ≢ k → type_of v i ≡ type_of u i
  pub names : (i j : ℕ) → i ≢ k → j < 16 → name_of v i j ≡ name_of u i j
  pub to : (i q : ℕ) → i ≢ k → q < 16 → to_of v i q ≡ to_of u i q
  pub numbers : (i q m j : ℕ) → i ≢ k → q < 16 → m < 3 → j < 16 → number_at v i q m j ≡ number_at u i q m j

module _ (k : ℕ) where
  pub away-none : (u : Universe) → Sized u → Away k u u
  away-none u z = record { sized = z; count = refl; types = λ i d. refl; names = λ i j d h. refl; to = λ i q d h. refl; numbers = λ i q m j d a b e. refl }

  module _ (u v w : Universe) (a : Away k u v) (b : Away k v w) where
    pub away-then : Away k u w
    away-then = record {
      sized = b.sized;
      count = b.count ∙ a.count;
      types = λ i d. b.types i d ∙ a.types i d;
      names = λ i j d h. b.names i j d h ∙ a.names i j d h;
      to = λ i q d h. b.to i q d h ∙ a.to i q d h;
      numbers = λ i q m j d h l g. b.numbers i q m j d h l g ∙ a.numbers i q m j d h l g;
    }

  module _ (u : Universe) (z : Sized u) where
    pub type-away : (t : ResourceType) → Away k u (with_type u k t)
    type-away t = record {
      sized = record { types = length-set u.types k t ∙ z.types; names = z.names };
      count = refl;
      types = λ i d. get_or-set_other u.types k i t no_type d;
      names = λ i j d h. refl;
      to = λ i q d h. refl;
      numbers = λ i q m j d a b e. refl;
    }

    pub type-own : (t : ResourceType) → k < 16 → type_of (with_type u k t) k ≡ t
    type-own t h = get_or-set_same u.types k t no_type (omega (arith, z.types))

    pub name-away : (j r : ℕ) → j < 16 → Away k u (with_name u k j r)
    unfolding with_name
    name-away j r h = record {
      sized = record { types = z.types; names = length-set u.names (k * 16 + j) r ∙ z.names };
      count = refl;
      types = λ i d. refl;
      names = λ i l d g. get_or-set_other u.names (k * 16 + j) (i * 16 + l) r 0 (λ e. d (omega arith));
      to = λ i q d g. refl;
      numbers = λ i q m l d a b e. refl;
    }

    pub to-away : (q m : ℕ) → q < 16 → Away k u (with_to u k q m)
    unfolding with_to
    to-away q m h = record {
      sized = record { types = z.types; names = z.names };
      count = refl;
      types = λ i d. refl;
      names = λ i j d g. refl;
      to = λ i p d g. get_or-set_other u.to (k * 16 + q) (i * 16 + p) m 0 (λ e. d (omega arith));
      numbers = λ i p n j d a b e. refl;
    }

    pub number-away : (q m j x : ℕ) → q < 16 → m < 3 → j < 16 → Away k u (with_number u k q m j x)
    unfolding with_number
    number-away q m j x h l g = record {
      sized = record { types = z.types; names = z.names };
      count = refl;
      types = λ i d. refl;
      names = λ i p d e. refl;
      to = λ i p d e. refl;
      numbers = λ i p n o d a b c. get_or-set_other u.numbers (number_place k q m j) (number_place i p n o) x 0 (λ e. d (omega arith));
    }

-- a type that is lawful stays so while another is read
module _ (k : ℕ) (u v : Universe) (a : Away k u v) (i : ℕ) (d : i ≢ k) where
  port-away : (q m j : ℕ) → q < 16 → m < 3 → j < 16 → PortLawful u i q m j → PortLawful v i q m j
  port-away q m j h l g p =
      let e = a.numbers i q m j d h l g in
      let t = a.types i d in
      record { small = rw e p.small; listed = rw (e, t) p.listed; later = rw (e, t) p.later }

  pub lawful-away : TypeLawful u i → TypeLawful v i
  lawful-away t =
      let e = a.types i d in
      let few = t.interfaces in
      record {
        some = rw e t.some;
        states = rw e t.states;
        initial = rw e t.initial;
        interfaces = rw e t.interfaces;
        provides = rw e t.provides;
        requires = rw e t.requires;
        names = λ j h. let g : j < (type_of u i).interfaces = rw e at h in rw (a.names i j d (omega arith)) (t.names j g);
        ascend = λ m j l h. let g : j < (type_of u i).interfaces = rw e at h in
            rw (a.names i m d (omega arith), a.names i j d (omega arith)) (t.ascend m j l g);
        to = λ q h. rw (a.to i q d h, e) (t.to q h);
        ports = λ q m j h l g. port-away q m j h l g (t.ports q m j h l g);
      }

-- nothing was read of type k
pub record Blank (u : Universe) (k : ℕ) : Type 0 where
  pub type : type_of u k ≡ no_type
  pub to : (q : ℕ) → q < 16 → to_of u k q ≡ 0
  pub numbers : (q m j : ℕ) → q < 16 → m < 3 → j < 16 → number_at u k q m j ≡ 0

pub blank-away : (k : ℕ) (u v : Universe) → Away k u v → (i : ℕ) → i ≢ k → Blank u i → Blank v i
blank-away k u v a i d b = record {
  type = a.types i d ∙ b.type;
  to = λ q h. a.to i q d h ∙ b.to q h;
  numbers = λ q m j h l g. a.numbers i q m j d h l g ∙ b.numbers q m j h l g;
}

alike : {A : Type 0} (n i : ℕ) (x : A) → get_or (replicate n x) i x ≡ x
alike zero i x = refl
alike (suc n) zero x = refl
alike (suc n) (suc i) x = alike n i x

pub blank-first : (n k : ℕ) → Blank (with_count no_universe n) k
unfolding with_count no_universe
blank-first n k = record { type = alike 16 k no_type; to = λ q h. alike 256 (k * 16 + q) 0; numbers = λ q m j h l g. alike 12288 (number_place k q m j) 0 }

pub sized-first : (n : ℕ) → Sized (with_count no_universe n)
unfolding with_count no_universe
sized-first n = record { types = length-replicate 16 no_type; names = length-replicate {A = ℕ} 256 0 }

-- what stands where something may have been set
pub set-either : (xs : List ℕ) (p x n : ℕ) → ((n ≡ p) × (get_or (set xs p x) n 0 ≡ x)) ⊎ (get_or (set xs p x) n 0 ≡ get_or xs n 0)
set-either xs p x n =
    by_cases (ℕ_discrete n p)
    (λ e.
    by_cases (dec_lt p (length xs))
    (λ h. inl (e, ap (λ (i : ℕ). get_or (set xs p x) i 0) e ∙ get_or-set_same xs p x 0 h))
    (λ h. inr (ap (λ (ys : List ℕ). get_or ys n 0) (set_out xs p x (omega arith)))))
    (λ d. inr (get_or-set_other xs p n x 0 d))

-- ---- a set whose members are below n, with one more below n
collect-short : (n : ℕ) (p : ℕ → Bool) (d : ℕ) → ((i : ℕ) → n ≤ i → i < n + d → p i ≡ false) → collect (n + d) p ≡ collect n p
collect-short n p zero f = ap (λ (k : ℕ). collect k p) (add-zero n)
collect-short n p (suc d) f =
    ap (λ (k : ℕ). collect k p) (let e : n + suc d ≡ n + d + 1 = omega arith in e)
    ∙ sym (gather-out (n + d) p (f (n + d) (omega arith) (omega arith))) ∙ collect-short n p d (λ i h l. f i h (omega arith))

pub with-lt : (n j m : ℕ) → n ≤ 32 → j < n → m < 2 ^ n → with j m < 2 ^ n
with-lt n j m h l g =
    rw (ap (λ (k : ℕ). collect k test) (let e : 32 ≡ n + (32 - n) = omega arith in e) ∙ collect-short n test (32 - n) none) (collect-lt n test)
  where
    test : ℕ → Bool
    test i = member i m || eqb i j

    none : (i : ℕ) → n ≤ i → i < n + (32 - n) → test i ≡ false
    none i a b = rw (member-past n i m a g, ne_eqb i j (λ e. omega arith))
