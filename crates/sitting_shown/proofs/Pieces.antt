-- One byte more is shown; what is written from the start lies within the buffer.
-- Assumes nothing.
use Prim.Native.Nat.{ℕ, ◌+◌, ◌-◌, ◌<◌}
use mathlib.Core.Path.{◌≡◌, refl, sym, ap, ◌∙◌}
use mathlib.Core.List.{List, [], ◌∷◌, ◌++◌, append-nil}
use native.Mathlib.Omega.{arith}
use lib.ListN.{length, take, drop, get_or}
use lib.Seq.{take_all}
use Rattle.io.specs.Counts.{IsPrefixLen}
use Rattle.io.proofs.Counting.{prefix_len_of_le}
use Rattle.write_items.specs.Written.{Written}
use Rattle.write_items.proofs.Laws.{within, length-written}
use Rattle.write_items.proofs.Items.{one_more}
use Rattle.sitting_shown.specs.declared.Among.{Among}
use Rattle.sitting_shown.specs.declared.Among.TheVariants as among
use Rattle.sitting_shown.specs.Shown.{shown_byte, shown, cell}
use Rattle.sitting_shown.specs.Readable.{InPieces}
use Rattle.sitting_shown.proofs.Readable.{in_pieces}

pub shown-more : (a : Among) (s : List ℕ) (i : ℕ) → i < length s → shown a (take (i + 1) s) ≡ shown a (take i s) ++ shown_byte a (get_or s i 0)
unfolding shown InPieces
shown-more a s i h =
    ap (shown a) (one_more s i h)
    ∙ in_pieces a (take i s) (get_or s i 0 ∷ [])
    ∙ ap (◌++◌ (shown a (take i s))) (append-nil (shown_byte a (get_or s i 0)))

pub written-counts : {old bytes new : List ℕ} {n : ℕ} → Written old bytes new 0 n → IsPrefixLen n new
written-counts {new = new} {n} w = prefix_len_of_le n new (rw (length-written w) (within w (omega arith)))

pub cell-first : (s : List ℕ) → 0 < length s → cell s ≡ shown_byte among.Head (get_or s 0 0) ++ shown among.Cell (take (length s - 1) (drop 1 s))
unfolding cell
cell-first [] h = absurd (omega (arith, h))
cell-first (b ∷ s) h = ap (λ t. shown_byte among.Head b ++ shown among.Cell t) (sym (take_all (length (b ∷ s) - 1) s (omega arith)))

pub cell-none : (s : List ℕ) → length s ≡ 0 → cell s ≡ []
unfolding cell
cell-none [] h = refl
cell-none (b ∷ s) h = absurd (omega (arith, h))
