-- How a page's text is put together from its parts' texts.
-- Assumes nothing.
use Prim.Native.Nat.{ℕ, ◌+◌}
use mathlib.Core.List.{List, [], ◌∷◌, ◌++◌, append_assoc}
use mathlib.Core.Path.{◌≡◌, refl, sym, ap, ◌∙◌}
use native.Mathlib.Numerals.{add-one}
use Rattle.page_spec.specs.Piece.{Piece, piece_text, page_text, each}

pub text-append : (ps qs : List Piece) → page_text (ps ++ qs) ≡ page_text ps ++ page_text qs
unfolding page_text
text-append [] qs = refl
text-append (p ∷ ps) qs = ap (◌++◌ (piece_text p)) (text-append ps qs) ∙ sym (append_assoc (piece_text p) (page_text ps) (page_text qs))

pub each_more : (f : ℕ → List Piece) (n : ℕ) → page_text (each f (n + 1)) ≡ page_text (each f n) ++ page_text (f n)
unfolding each
each_more f n = rw (add-one n) (text-append (each f n) (f n))
