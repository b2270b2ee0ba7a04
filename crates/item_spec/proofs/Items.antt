-- A queue that was written, with anything after it, is read as what it was: items of one digit.
-- Assumes nothing.
use Prim.Native.Nat.{ℕ, zero, suc, ◌+◌, ◌<◌, ◌≤◌}
use mathlib.Core.List.{List, [], ◌∷◌, ◌++◌, append_assoc}
use mathlib.Core.Path.{◌≡◌, refl, ap, ◌∙◌}
use native.Mathlib.Omega.{arith}
use lib.ListN.{length, length-append}
use borrow.Author.Tests.{ne_eqb}
use Rattle.item_spec.specs.Reader.{got, refused, byte}
use Rattle.item_spec.specs.Read.{key, given, upon, number}
use Rattle.item_spec.specs.Items.{item_then, items_in, items}
use Rattle.item_spec.specs.Write.{number_text, more_text, list_text}
use Rattle.item_spec.proofs.Laws.{text-digit}
use Rattle.item_spec.proofs.Round.{number-ended, number-unended}

-- every item has one digit
abbrev pub OneDigit : List ℕ → Type 0
OneDigit [] = Unit
OneDigit (v ∷ vs) = (v < 10) × OneDigit vs

-- as read of a line: numbers of at most five digits, up to the LF
items_more : (n v : ℕ) (vs : List ℕ) → length vs < n → v < 10 → OneDigit vs → (s : List ℕ)
    → items_in n (number 5) (byte "\n") (number_text v ++ (more_text vs ++ (byte "\n" ∷ s))) ≡ got (v ∷ vs) s
unfolding items_in item_then more_text
items_more zero v vs l h all s = absurd (omega arith)
items_more (suc n) v [] l h all s =
    rw (
      number-unended 5 (omega arith) (omega arith) {e = byte "+"} (omega arith) v (omega arith) (byte "\n") s (omega arith) refl,
      item_then,
      number-ended 5 (omega arith) (omega arith) {e = byte "\n"} (omega arith) v (omega arith) s,
      items_in,
    )
items_more (suc n) v (y ∷ vs) l h (hy, all) s =
    rw (
      append_assoc (number_text y) (more_text vs) (byte "\n" ∷ s),
      number-ended 5 (omega arith) (omega arith) {e = byte "+"} (omega arith) v (omega arith) (number_text y ++ (more_text vs ++ (byte "\n" ∷ s))),
      item_then,
      items_more n y vs (omega arith) hy all s,
      items_in,
    )

more-length : (vs : List ℕ) → length vs ≤ length (more_text vs)
unfolding more_text
more-length [] = omega arith
more-length (v ∷ vs) = omega (arith, more-length vs, length-append (byte "+" ∷ number_text v) (more_text vs))

pub items-round : (q : List ℕ) → OneDigit q → (s : List ℕ) → items (number 5) (byte "\n") (list_text q ++ (byte "\n" ∷ s)) ≡ got q s
unfolding items list_text key
items-round [] all s = refl
items-round (v ∷ vs) (h, all) s =
    ap (items (number 5) (byte "\n")) (append_assoc (number_text v) (more_text vs) (byte "\n" ∷ s))
    ∙ rw (no-dash v h (more_text vs ++ (byte "\n" ∷ s)), items, upon, given)
    (items_more (length (number_text v ++ (more_text vs ++ (byte "\n" ∷ s)))) v vs
    (omega (arith, more-length vs, length-append (number_text v) (more_text vs ++ (byte "\n" ∷ s)), length-append (more_text vs) (byte "\n" ∷ s))) h all s)
  where
    no-dash : (v : ℕ) → v < 10 → (s : List ℕ) → key (byte "-" ∷ byte "\n" ∷ []) (number_text v ++ s) ≡ refused 2
    no-dash v h s = rw (text-digit v h, ne_eqb (byte "0" + v) (byte "-") (λ e. omega arith), key)
