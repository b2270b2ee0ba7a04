-- Where a type lists an interface is looked up once: what is active and what is bound, told by the place found.
-- Assumes nothing.
use mathlib.Core.Path.{◌≡◌, refl, sym, ◌∙◌}
use mathlib.Core.Bool.{Bool, true, false, not, cond, ◌&&◌, ◌||◌, and-true, and-false}
use mathlib.Core.Logic.{◌≢◌}
use Prim.Native.Nat.{ℕ, ◌≤◌, ◌<◌}
use lib.Dec.{eqb, ltb}
use borrow.Author.Tests.{ne_eqb, lt-ltb, le-ltb}
use Rattle.sets.specs.Mask.{member}
use Rattle.sets.proofs.Laws.{member-none}
use Rattle.aeolus_model.specs.Model.{Universe, Configuration, weak, strong, type_of, place_of, lists, kind_of, state_of, deployed, number_at, number_of, is_active, bound_at, bound}
use Rattle.aeolus_model.proofs.Find.{some-found}
use Rattle.aeolus_rules_spec.specs.Correct.{employs}

module _ (u : Universe) (c : Configuration) (z r j n : ℕ) (at : j ≡ place_of u (kind_of c z) r) (most : n ≡ (type_of u (kind_of c z)).interfaces) where
  pub listed : lists u (kind_of c z) r ≡ ltb j n
  listed = some-found _ _ ∙ rw (at, most)

  pub active-there : (m x : ℕ) → j < n → x ≡ number_at u (kind_of c z) (state_of c z) m j → not (eqb x 0) ≡ is_active u c m z r
  unfolding number_of
  active-there m x h e = rw (listed, lt-ltb j n h, ← at, e)

  pub active-nowhere : (m : ℕ) → n ≤ j → false ≡ is_active u c m z r
  unfolding number_of
  active-nowhere m h = rw (listed, le-ltb j n h)

  pub bound-there : (m y : ℕ) → deployed c z ≡ true → j < n → m ≡ bound_at c z j → member y m ≡ bound u c r z y
  unfolding bound
  bound-there m y d h e = rw (d, listed, lt-ltb j n h, ← at, e)

  pub bound-nowhere : (y : ℕ) → n ≤ j → member y 0 ≡ bound u c r z y
  unfolding bound
  bound-nowhere y h = rw (listed, le-ltb j n h, member-none y) (sym (and-false (deployed c z)))

  -- z is one that requires r of y now
  pub employs-by : (y : ℕ)
      → employs u c r y z
      ≡ ((not (eqb z y) && deployed c z) && (ltb j n && (member y (bound_at c z j)
      && (not (eqb (number_at u (kind_of c z) (state_of c z) weak j) 0) || not (eqb (number_at u (kind_of c z) (state_of c z) strong j) 0)))))
  unfolding employs bound number_of
  employs-by y = rw (listed, ← at) (go (not (eqb z y)) (deployed c z) (ltb j n) (member y (bound_at c z j))
      (number_at u (kind_of c z) (state_of c z) weak j) (number_at u (kind_of c z) (state_of c z) strong j))
    where
      go : (a d l m : Bool) (w s : ℕ)
          → (a && (d && ((not (eqb (cond l w 0) 0) || not (eqb (cond l s 0) 0)) && (d && (l && m)))))
          ≡ ((a && d) && (l && (m && (not (eqb w 0) || not (eqb s 0)))))
      go false d l m w s = refl
      go true false l m w s = refl
      go true true false m w s = refl
      go true true true false w s = and-false (not (eqb w 0) || not (eqb s 0))
      go true true true true w s = and-true (not (eqb w 0) || not (eqb s 0))

pub bound-absent : (u : Universe) (c : Configuration) (z r y : ℕ) → deployed c z ≡ false → member y 0 ≡ bound u c r z y
unfolding bound
bound-absent u c z r y d = rw (d, member-none y)

-- one of two numbers is not 0
pub demanded-first : {x : ℕ} (w s : ℕ) → x ≡ w → x ≢ 0 → not (eqb x 0) ≡ (not (eqb w 0) || not (eqb s 0))
demanded-first w s e d = rw (← e, ne_eqb _ 0 d)

pub demanded-second : {x y : ℕ} (w s : ℕ) → x ≡ w → x ≡ 0 → y ≡ s → not (eqb y 0) ≡ (not (eqb w 0) || not (eqb s 0))
demanded-second w s e z f = rw (← e, z, f)
