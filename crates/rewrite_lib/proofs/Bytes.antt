-- The bytes of the rewritten sheet in a buffer of 32,768.
-- Assumes nothing.
use Prim.Native.Nat.{ℕ, ◌≤◌}
use mathlib.Core.List.{List, [], ◌∷◌, ◌++◌}
use mathlib.Core.Path.{◌≡◌, refl, sym, subst, ◌∙◌}
use native.Mathlib.Omega.{arith}
use borrow.Author.Tests.{ne_eqb}
use lib.ListN.{length, take, drop, length-append, length-take}
use Rattle.io.specs.Counts.{IsPrefixLen}
use Rattle.write_items.specs.Written.{Written}
use Rattle.write_items.proofs.Laws.{fits, fits_all, length-written}
use Rattle.judge_spec.specs.Judged.{over}
use Rattle.rewrite_spec.specs.Rewritten.{sheet_after}
use Rattle.rewrite_lib.specs.Rewrites.{Begins}

-- byte 14 of a sheet that leaves the depth at 0
four : List ℕ → List ℕ → List ℕ
four s old = let whole = s ++ drop (length s) old in take 14 whole ++ (52 ∷ []) ++ drop 15 whole

four_is : (s old : List ℕ) → Begins s → four s old ≡ over (sheet_after 0 s) old
unfolding four over
four_is s old (h, x, e) = subst (λ (l : List ℕ). four l old ≡ over (sheet_after 0 l) old) (sym e) refl

module _ {s old mid : List ℕ} {n : ℕ} (h : length s ≤ 32768) (room : length old ≡ 32768) (w : Written old s mid 0 n) where
  pub as_it_was : (d : ℕ) → (d ≡ 0 → ⊥) → (n ≡ length (sheet_after d s)) × (mid ≡ over (sheet_after d s) old)
  unfolding over
  as_it_was d z = let (size, is) = fits_all w (omega arith) in rw (ne_eqb d 0 z) (size, is)

  pub with-four : {end : List ℕ} {k : ℕ} → Written mid (52 ∷ []) end 14 k → (d : ℕ) → d ≡ 0 → Begins s → (n ≡ length (sheet_after d s)) × (end ≡ over (sheet_after d s) old)
  unfolding four
  with-four {end} {k} v d z b =
      let (size, is) = fits_all w (omega arith) in
      let (_, put) = fits v (omega (arith, length-written w)) in
      let (_, x, e) = b in
      rw z (rw e (rw e at size), put ∙ rw is (four_is s old b))

-- what was written is counted from the buffer's start
pub counted : (r old after : List ℕ) (n : ℕ) → n ≡ length r → after ≡ over r old → IsPrefixLen n after
unfolding over
counted r old after n size is = rw (is, size) (simp length-append (omega arith), simp (length-append, length-take) (omega arith))
