-- A row splits into its nine cells.
-- Assumes nothing.
use Prim.Native.Nat.{ℕ}
use mathlib.Core.List.{List, [], ◌∷◌, ◌++◌, append_assoc, append-nil}
use mathlib.Core.Path.{◌≡◌, refl, sym, ap, ◌∙◌}
use Rattle.sitting_shown.specs.Shown.{cell}
use Rattle.sitting_shown.specs.Readable.{Each}
use Rattle.register_spec.specs.Text.{cells_after, further_cells, row_text, unreadable_cells, unreadable_text, split_from, split}
use Rattle.register_spec.specs.Claims.{RowsReadBack, UnreadableReadsBack, EachCell}
use Rattle.register_spec.proofs.Cells.{Within, cells-within, unreadable-within, name-within}

-- bytes of a cell are put to what it has so far
taken : (so xs t : List ℕ) → Each Within xs → split_from so (xs ++ t) ≡ split_from (so ++ xs) t
unfolding split_from
taken so [] t h = ap (λ (l : List ℕ). split_from l t) (sym (append-nil so))
taken so (b ∷ xs) t h =
    rw (h.0.1, h.0.0, split_from) (taken (so ++ (b ∷ [])) xs t h.1 ∙ ap (λ (l : List ℕ). split_from l t) (append_assoc so (b ∷ []) xs))

further : (so : List ℕ) (cs : List (List ℕ)) → EachCell (Each Within) cs → split_from so (further_cells cs) ≡ so ∷ cs
unfolding split_from further_cells
further so [] h = refl
further so (c ∷ cs) h = ap (◌∷◌ so) (taken [] c (further_cells cs) h.0 ∙ further c cs h.1)

after-name : (name : List ℕ) (cs : List (List ℕ)) → EachCell (Each Within) cs → split (cell name ++ further_cells cs) ≡ cell name ∷ cs
after-name name cs h = taken [] (cell name) (further_cells cs) (name-within name) ∙ further (cell name) cs h

pub rows-read-back : RowsReadBack
unfolding RowsReadBack row_text
rows-read-back name r = after-name name (cells_after r) (cells-within r)

pub unreadable-reads-back : UnreadableReadsBack
unfolding UnreadableReadsBack unreadable_text
unreadable-reads-back name = after-name name unreadable_cells unreadable-within
