-- What is claimed of every page. Proved in proofs/Claims.
use Rattle.std.specs.Prelude.{ℕ, true, false, List, [], ◌∷◌, ◌≡◌}
use Rattle.sitting_shown.specs.Shown.{markup}
use Rattle.sitting_shown.specs.Readable.{Each}
use Rattle.page_spec.specs.Piece.{Piece, fixed, number, seen, words, piece_text, page_text}

-- only what a browser may take for more than itself: `<`, `>`, `&` and the quotation marks
unfoldable pub only_markup : List ℕ → List ℕ
only_markup [] = []
only_markup (b ∷ s) = elim (markup b) [ true ↦ b ∷ only_markup s | false ↦ only_markup s ]

-- the constant pieces of a page, in their order
unfoldable pub constants : List Piece → List Piece
constants [] = []
constants (fixed s ∷ ps) = fixed s ∷ constants ps
constants (number n ∷ ps) = constants ps
constants (seen s ∷ ps) = constants ps
constants (words k ∷ ps) = constants ps

-- no byte of a number, of words, or of anybody's bytes is markup
unfoldable pub NoOtherIsMarkup : Type 0
NoOtherIsMarkup = (p : Piece) → constants (p ∷ []) ≡ [] → Each (λ b. markup b ≡ false) (piece_text p)

-- so all markup of a page is that of its constant pieces
unfoldable pub MarkupIsConstant : Type 0
MarkupIsConstant = (ps : List Piece) → only_markup (page_text ps) ≡ only_markup (page_text (constants ps))
