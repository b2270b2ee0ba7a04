-- A row that the register wrote, read again: where it stands is told by its outcome and its mark.
-- Assumes nothing.
use Prim.Native.Nat.{ℕ, ◌≤◌, ◌<◌}
use mathlib.Core.Bool.{true, false}
use mathlib.Core.List.{List, [], ◌∷◌, ◌++◌}
use mathlib.Core.Path.{◌≡◌, refl, ap, ◌∙◌}
use native.Mathlib.Omega.{arith}
use lib.Dec.{eqb, lit<}
use borrow.Author.Tests.{le-leb, ne_eqb}
use Rattle.item_spec.specs.Reader.{Reply, got, refused, bytes, give, no_line}
use Rattle.item_spec.specs.Read.{key, upon, number_from, one_form}
use Rattle.item_spec.specs.Write.{digits_in, number_text}
use Rattle.item_spec.proofs.Round.{number-ended}
use Rattle.model.specs.declared.Concerned.{Concerned}
use Rattle.model.specs.declared.Concerned.TheVariants.{NoPort, UsePort}
use Rattle.sitting_shown.specs.Shown.{cell}
use Rattle.sitting_shown.specs.Readable.{Each, Printable, CellsArePrintable}
use Rattle.sitting_shown.proofs.Readable.{each_map, cells-are-printable}
use Rattle.outcome_spec.specs.declared.Outcome.{Outcome}
use Rattle.outcome_spec.specs.declared.Outcome.TheVariants.{Done, Unfinished, Refused, Fault, OfPaper}
use Rattle.outcome_spec.specs.Outcome.{outcome_text}
use Rattle.register_spec.specs.declared.Row.{Row}
use Rattle.register_spec.specs.Text.{port_cell, pointed, walked, number_cell, further_cells, row_text}
use Rattle.register_spec.proofs.Cells.{Digit, digits-digits, Within, name-within}
use Rattle.passlist_spec.specs.declared.Pass.{Pass}
use Rattle.passlist_spec.specs.declared.Cell.{Cell}
use Rattle.passlist_spec.specs.declared.Cell.TheVariants as kind
use Rattle.passlist_spec.specs.declared.Said.TheVariants as said
use Rattle.passlist_spec.specs.Row.{Mark}
use Rattle.std.specs.Bool.{then_some}
use Rattle.std.specs.declared.option.Option.{Option}
use Rattle.std.specs.declared.option.Option.TheVariants.{Some, None}
use Rattle.passlist_spec.specs.declared.Standing.{Standing}
use Rattle.passlist_spec.specs.declared.Standing.TheVariants as stands
use Rattle.passlist_spec.specs.Row.{name_cell, in_cell, past_cell, said_cell, three_cells, mark_of, mark_or, over, last_mark, number_cells, row_says}
use Rattle.passlist_spec.specs.Standing.{standing_by, standing}
use Rattle.passlist_spec.specs.Claims.{NamedAsRegistered}

-- ---- cells

-- a byte that may stand in such a cell, and doesn't end it
abbrev pub InCell : Cell → ℕ → Type 0
InCell k b = (eqb b 44 ≡ false) × (in_cell k b ≡ true)

pub cell-past : (k : Cell) (xs t : List ℕ) → Each (InCell k) xs → past_cell k (xs ++ (44 ∷ t)) ≡ got tt t
unfolding past_cell
cell-past k [] t h = refl
cell-past k (b ∷ xs) t h = rw (h.0.0, h.0.1, past_cell) (cell-past k xs t h.1)

name_in : (s : List ℕ) → Each Within s → Each Printable s → Each (InCell kind.Name) s
unfolding in_cell
name_in [] h p = tt
name_in (b ∷ s) h p = ((h.0.0, rw (le-leb 33 b p.0.0, le-leb b 126 p.0.1)), name_in s h.1 p.1)

pub named_in : (name : List ℕ) → Each (InCell kind.Name) (cell name)
unfolding CellsArePrintable
named_in name = name_in (cell name) (name-within name) (cells-are-printable name)

digit-in : (b : ℕ) → Digit b → InCell kind.Number b
unfolding in_cell
digit-in b h = (ne_eqb b 44 (λ e. omega (arith, e, h.0)), rw (le-leb 48 b h.0, le-leb b 57 h.1))

number-in : (v : ℕ) → Each (InCell kind.Number) (number_text v)
unfolding number_text
number-in v = each_map Digit (InCell kind.Number) digit-in (digits_in 20 v) (digits-digits 20 v)

number-cell-in : (m : Option ℕ) → Each (InCell kind.Number) (number_cell m)
number-cell-in (Some v) = number-in v
number-cell-in None = tt

port-in : (q : Concerned) → Each (InCell kind.Number) (port_cell q)
port-in NoPort = tt
port-in (UsePort q) = number-in q

number_read : (s : List ℕ) (v : ℕ) (r : List ℕ) → v ≤ 1000 → one_form 5 s ≡ got v r → mark_or (bytes "\n") s ≡ got (Some v) r
unfolding mark_or mark_of
number_read s v r h e =
    ap (λ (z : Reply ℕ). elim z [ got a q ↦ mark_of a q | refused n ↦ upon (bytes "\n") (give None) no_line s ]) e ∙ rw (le-leb v 1000 h)

number-whole : (m : ℕ) → m ≤ 1000 → one_form 5 (number_text m ++ bytes "\n") ≡ got m []
unfolding one_form
number-whole m h = let l : m < 100000 = omega arith in number-ended 5 (omega arith) (omega arith) {e = 10} (lit< tt) m l []

-- a mark is 0 to 1000
abbrev pub MarkFew : Mark → Type 0
MarkFew (Some m) = m ≤ 1000
MarkFew None = Unit

mark-read : (m : Mark) → MarkFew m → mark_or (bytes "\n") (number_cell m ++ bytes "\n") ≡ got m []
unfolding mark_or one_form key number_from
mark-read (Some m) h = number_read (number_text m ++ bytes "\n") m [] h (number-whole m h)
mark-read None h = refl

-- ---- the row

-- where it stands, by its outcome and its mark
abbrev pub standing_for : Pass → Outcome → Mark → Standing
standing_for p Done m = standing_by p said.Done m
standing_for p Unfinished m = standing_by p said.Unfinished m
standing_for p Refused m = standing_by p said.Refused m
standing_for p Fault m = standing_by p said.Fault m
standing_for p OfPaper m = stands.NoRow

module _ (p : Pass) (name rest : List ℕ) (m : Mark) (h : Each (InCell kind.Name) name) (mid last : List ℕ) (g : three_cells rest ≡ got tt mid) (f : three_cells mid ≡ got tt last) (k : mark_or (bytes "\n") last ≡ got m []) where
  stands-so : (o : Outcome) → standing p (name ++ (44 ∷ (outcome_text o ++ (44 ∷ rest)))) ≡ standing_for p o m
  unfolding standing row_says said_cell key number_cells last_mark over
  stands-so Done = rw (cell-past kind.Name name (outcome_text Done ++ (44 ∷ rest)) h, g, f, k, last_mark, number_cells, row_says, standing)
  stands-so Unfinished = rw (cell-past kind.Name name (outcome_text Unfinished ++ (44 ∷ rest)) h, g, f, k, last_mark, number_cells, row_says, standing)
  stands-so Refused = rw (cell-past kind.Name name (outcome_text Refused ++ (44 ∷ rest)) h, g, f, k, last_mark, number_cells, row_says, standing)
  stands-so Fault = rw (cell-past kind.Name name (outcome_text Fault ++ (44 ∷ rest)) h, g, f, k, last_mark, number_cells, row_says, standing)
  stands-so OfPaper = rw (cell-past kind.Name name (outcome_text OfPaper ++ (44 ∷ rest)) h, row_says, standing)

three-past : (a b c t : List ℕ) → Each (InCell kind.Number) a → Each (InCell kind.Number) b → Each (InCell kind.Number) c
    → three_cells (a ++ (44 ∷ (b ++ (44 ∷ (c ++ (44 ∷ t)))))) ≡ got tt t
unfolding three_cells
three-past a b c t f g h =
    rw (cell-past kind.Number a (b ++ (44 ∷ (c ++ (44 ∷ t)))) f, cell-past kind.Number b (c ++ (44 ∷ t)) g) (cell-past kind.Number c t h)

-- the last cell and the line's end; three cells before it; three before these
abbrev last_of : Row → List ℕ
last_of r = number_cell r.mark ++ bytes "\n"

abbrev three_of : Row → List ℕ
three_of r =
    number_cell (then_some (walked r.outcome) r.accepted)
    ++ (44 ∷ (number_cell (then_some (walked r.outcome) r.next)
    ++ (44 ∷ (number_text r.program
    ++ (44 ∷ last_of r)))))

abbrev six_of : Row → List ℕ
six_of r =
    number_text r.number
    ++ (44 ∷ (port_cell r.port
    ++ (44 ∷ (number_cell (then_some (pointed r.outcome) r.line)
    ++ (44 ∷ three_of r)))))

pub row-stands : (p : Pass) (name : List ℕ) (r : Row) → MarkFew r.mark → standing p (row_text name r) ≡ standing_for p r.outcome r.mark
unfolding row_text further_cells
row-stands p name r few =
    stands-so p (cell name) (six_of r) r.mark (named_in name) (three_of r) (last_of r)
    (three-past (number_text r.number) (port_cell r.port) (number_cell (then_some (pointed r.outcome) r.line)) (three_of r)
    (number-in r.number) (port-in r.port) (number-cell-in (then_some (pointed r.outcome) r.line)))
    (three-past (number_cell (then_some (walked r.outcome) r.accepted)) (number_cell (then_some (walked r.outcome) r.next)) (number_text r.program) (last_of r)
    (number-cell-in (then_some (walked r.outcome) r.accepted)) (number-cell-in (then_some (walked r.outcome) r.next)) (number-in r.program))
    (mark-read r.mark few) r.outcome

-- ---- the name

pub name-of : (xs t : List ℕ) → Each (InCell kind.Name) xs → name_cell (xs ++ (44 ∷ t)) ≡ xs
unfolding name_cell
name-of [] t h = refl
name-of (b ∷ xs) t h = rw (h.0.0, name_cell) (ap (◌∷◌ b) (name-of xs t h.1))

pub named-as-registered : NamedAsRegistered
unfolding NamedAsRegistered row_text further_cells
named-as-registered name r = name-of (cell name) (outcome_text r.outcome ++ (44 ∷ six_of r)) (named_in name)
