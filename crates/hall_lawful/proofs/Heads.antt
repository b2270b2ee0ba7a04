-- The tables by their head, depth and types, and then by each type; a type by its head, and then by each of its rows.
-- Assumes nothing.
use mathlib.Core.Path.{◌≡◌, refl, ap, ap₂, ◌∙◌}
use mathlib.Core.Bool.{Bool, true, false, ◌&&◌, and_assoc, false≢true}
use Prim.Native.Nat.{ℕ}
use lib.Dec.{leb}
use Rattle.sets.specs.Test.{all_below}
use Rattle.model.specs.declared.Tables.{Tables}
use Rattle.read_spec.specs.Lawful.{type_lawful, tables_lawful}

off : (a b x : Bool) → (a && b) ≡ false → false ≡ (a && (b && x))
off true b x e = rw e
off false b x e = refl

on : (a b x r : Bool) → (a && b) ≡ true → r ≡ x → r ≡ (a && (b && x))
on true b x r e f = rw e f
on false b x r e f = absurd (false≢true e)

module _ (t : Tables) (d n : ℕ) (depth : d ≡ t.depth) (count : n ≡ t.count) where
  abbrev head : Bool
  head = leb d 8 && (leb 1 n && leb n 16)

  -- tables of this depth and so many types
  abbrev told : ℕ → ℕ → Bool
  told a b = leb a 8 && ((leb 1 b && leb b 16) && all_below b (type_lawful t))

  pub head-fails : head ≡ false → false ≡ tables_lawful t
  unfolding tables_lawful
  head-fails e = off (leb d 8) (leb 1 n && leb n 16) (all_below n (type_lawful t)) e ∙ ap₂ told depth count

  pub head-holds : head ≡ true → (r : Bool) → r ≡ all_below n (type_lawful t) → r ≡ tables_lawful t
  unfolding tables_lawful
  head-holds e r f = on (leb d 8) (leb 1 n && leb n 16) (all_below n (type_lawful t)) r e f ∙ ap₂ told depth count

-- a limit and what each row says, one pair after the other
pub joined : (a b c d e f g h i x y z : Bool) → x ≡ (d && e) → y ≡ (f && g) → z ≡ (h && i)
    → (a && (b && (c && (x && (y && z))))) ≡ (a && (b && (c && (d && (e && (f && (g && (h && i))))))))
joined a b c d e f g h i x y z p q r =
    ap (λ (u : Bool). a && (b && (c && u)))
    (ap₂ ◌&&◌ p (ap₂ ◌&&◌ q r) ∙ and_assoc d e ((f && g) && (h && i)) ∙ ap (λ (u : Bool). d && (e && u)) (and_assoc f g (h && i)))
