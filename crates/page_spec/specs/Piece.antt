-- What a page is made of.
use Rattle.std.specs.Prelude.{ℕ, zero, suc, Bool, true, false, List, [], ◌∷◌, ◌++◌}
use Prim.Native.String.{String}
use Rattle.item_spec.specs.Reader.{bytes}
use Rattle.item_spec.specs.Write.{number_text}
use Rattle.sitting_shown.specs.declared.Among.TheVariants as among
use Rattle.sitting_shown.specs.Shown.{shown}
use Rattle.page_spec.specs.Line.{first_bytes}
use Rattle.page_spec.specs.Words.{words_text}

-- fixed: a constant. number: in decimal. seen: bytes of others. words: what became of an answer
pub data Piece : Type 0 where
  fixed : String → Piece
  number : ℕ → Piece
  seen : List ℕ → Piece
  words : ℕ → Piece

unfoldable pub piece_text : Piece → List ℕ
piece_text (fixed s) = bytes s
piece_text (number n) = number_text n
piece_text (seen s) = shown among.Markup s
piece_text (words k) = first_bytes words_text k

unfoldable pub page_text : List Piece → List ℕ
page_text [] = []
page_text (p ∷ ps) = piece_text p ++ page_text ps

-- pieces that stand only where the test holds
abbrev pub when : Bool → List Piece → List Piece
when true ps = ps
when false ps = []

-- f 0, f 1, .. n of them, one after the other
unfoldable pub each : (ℕ → List Piece) → ℕ → List Piece
each f zero = []
each f (suc n) = each f n ++ f n
