-- A line for each member of a set, the least of the rest at each turn.
-- Assumes nothing.
use Prim.Native.Nat.{ℕ, zero, suc, ◌+◌, ◌^◌, ◌<◌}
use mathlib.Core.Path.{◌≡◌, refl, sym, ap, ◌∙◌}
use mathlib.Core.Logic.{◌≢◌}
use mathlib.Core.Bool.{Bool, true, false}
use mathlib.Core.List.{List, [], ◌∷◌, ◌++◌, append_assoc, append-nil}
use lib.ListN.{length}
use Rattle.sets.specs.Mask.{member, least, later}
use Rattle.sets.proofs.Laws.{collect-lt}
use Rattle.item_spec.specs.Write.{only_if, members_below, members, in_turn}
use Rattle.write_items.specs.Written.{Written}
use Rattle.write_items.proofs.Laws.{none, next, free, back, length-written}
use Rattle.write_items.proofs.Items.{members-least}

module _ (f : ℕ → List ℕ) where
  unfoldable pub lines_of : List ℕ → List ℕ
  lines_of [] = []
  lines_of (y ∷ ys) = f y ++ lines_of ys

  lines_snoc : (ys : List ℕ) (y : ℕ) (b : Bool) → lines_of ys ++ only_if b (f y) ≡ lines_of (ys ++ only_if b (y ∷ []))
  unfolding lines_of
  lines_snoc [] y true = sym (append-nil (f y))
  lines_snoc [] y false = refl
  lines_snoc (x ∷ ys) y b = append_assoc (f x) (lines_of ys) (only_if b (f y)) ∙ ap (◌++◌ (f x)) (lines_snoc ys y b)

  lines-turns : (m n : ℕ) → in_turn (λ y. only_if (member y m) (f y)) n ≡ lines_of (members_below n m)
  unfolding in_turn members_below lines_of
  lines-turns m zero = refl
  lines-turns m (suc n) = rw (lines-turns m n) (lines_snoc (members_below n m) n (member n m))

  lines-none-left : lines_of (members 0) ≡ []
  unfolding members_below member lines_of
  lines-none-left = refl

-- what is written and what is left to be written is the whole
pub record Lines (f : ℕ → List ℕ) (m rest : ℕ) (old new : List ℕ) (used : ℕ) : Type 0 where
  pub fits : rest < 2 ^ 32
  pub same_length : length new ≡ length old
  pub done : List ℕ
  pub written : Written old done new 0 used
  pub left : done ++ lines_of f (members rest) ≡ lines_of f (members m)

pub lines_none : {f : ℕ → List ℕ} {m : ℕ} {old : List ℕ} → m < 2 ^ 32 → Lines f m m old old 0
lines_none {f} {m} {old} h = record { fits = h; same_length = refl; done = []; written = none old 0; left = refl }

pub lines_more : {f : ℕ → List ℕ} {m rest : ℕ} {old mid end : List ℕ} {a b : ℕ} → Lines f m rest old mid a → rest ≢ 0 → Written (free a mid) (f (least rest)) end 0 b
    → Lines f m (later rest) old (back a mid end) (a + b)
unfolding lines_of
lines_more {f} {m} {rest} h some v =
    let w = next h.written v in
    record {
      fits = collect-lt 32 _;
      same_length = length-written w;
      done = h.done ++ f (least rest);
      written = w;
      left = append_assoc h.done (f (least rest)) (lines_of f (members (later rest)))
          ∙ ap (λ (ys : List ℕ). h.done ++ lines_of f ys) (sym (members-least rest some h.fits)) ∙ h.left;
    }

pub lines-all : {f : ℕ → List ℕ} {m rest : ℕ} {old new : List ℕ} {used : ℕ} → Lines f m rest old new used → rest ≡ 0
    → Written old (in_turn (λ y. only_if (member y m) (f y)) 32) new 0 used
lines-all {f} {m} {rest} {old} {new} {used} h e =
    let all : h.done ≡ in_turn (λ y. only_if (member y m) (f y)) 32
    = sym (append-nil h.done) ∙ ap (◌++◌ h.done) (sym (lines-none-left f) ∙ ap (λ (r : ℕ). lines_of f (members r)) (sym e)) ∙ h.left ∙ sym (lines-turns f m 32) in
    rw all at h.written
