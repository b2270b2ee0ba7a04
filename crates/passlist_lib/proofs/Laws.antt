-- A byte of a cell, the name before the first comma, and readers one after the other.
-- Assumes nothing.
use Prim.Native.Nat.{ℕ, ◌+◌, ◌<◌, ◌≤◌, zero-le}
use mathlib.Core.Bool.{true, false}
use mathlib.Core.List.{List, [], ◌∷◌, ◌++◌, append-nil, append_assoc}
use mathlib.Core.Path.{◌≡◌, refl, sym, ap, ◌∙◌}
use native.Mathlib.Numerals.{add-one}
use native.Mathlib.Omega.{arith}
use lib.ListN.{length, take, drop, get_or, drop_of_length-le}
use lib.Seq.{take-suc}
use borrow.Author.Tests.{eq-eqb, ne_eqb, le-leb, lt-leb}
use Rattle.item_spec.specs.Reader.{Reply, Reader, got, refused, bytes, read_on, give, no_line}
use Rattle.item_spec.specs.Read.{key, given, upon}
use Rattle.read_items.specs.Reads.{Outcome, past, fault, Reads}
use Rattle.read_items.proofs.Laws.{from}
use Rattle.passlist_spec.specs.declared.Cell.{Cell}
use Rattle.passlist_spec.specs.declared.Cell.TheVariants.{Number}
use Rattle.passlist_spec.specs.declared.Pass.{Pass}
use Rattle.std.specs.declared.option.Option.TheVariants.{Some, None}
use Rattle.passlist_spec.specs.declared.Said.{Said}
use Rattle.passlist_spec.specs.declared.Said.TheVariants as said
use Rattle.passlist_spec.specs.declared.Standing.TheVariants.{NoRow}
use Rattle.passlist_spec.specs.Row.{Mark, name_cell, in_cell, past_cell, said_cell, three_cells, mark_of, over, last_mark, number_cells, row_says}
use Rattle.passlist_spec.specs.Standing.{pass_of, pass_in, standing_by, standing}

-- ---- a cell, at the place i
module _ (k : Cell) (s : List ℕ) (i : ℕ) where
  pub cell-end : i < length s → get_or s i 0 ≡ 44 → past_cell k (drop i s) ≡ got tt (drop (i + 1) s)
  unfolding past_cell
  cell-end h e = rw (from s i h) (simp (eq-eqb (get_or s i 0) 44 e, past_cell))

  pub cell-on : i < length s → (get_or s i 0 ≡ 44 → ⊥) → in_cell k (get_or s i 0) ≡ true → past_cell k (drop i s) ≡ past_cell k (drop (i + 1) s)
  unfolding past_cell
  cell-on h e t = rw (from s i h) (simp (ne_eqb (get_or s i 0) 44 e, t, past_cell))

  pub cell_other : i < length s → (get_or s i 0 ≡ 44 → ⊥) → in_cell k (get_or s i 0) ≡ false → past_cell k (drop i s) ≡ refused 2
  unfolding past_cell
  cell_other h e t = rw (from s i h) (simp (ne_eqb (get_or s i 0) 44 e, t, past_cell))

  pub cell-over : length s ≤ i → past_cell k (drop i s) ≡ refused 2
  unfolding past_cell
  cell-over h = rw (drop_of_length-le s h)

-- ---- the name, of which i bytes have been met
module _ (s : List ℕ) (i : ℕ) where
  pub name-here : i < length s → get_or s i 0 ≡ 44 → take i s ++ name_cell (drop i s) ≡ take i s
  unfolding name_cell
  name-here h e = rw (from s i h) (simp (eq-eqb (get_or s i 0) 44 e, name_cell) (append-nil (take i s)))

  name-byte : i < length s → (get_or s i 0 ≡ 44 → ⊥) → name_cell (drop i s) ≡ get_or s i 0 ∷ name_cell (drop (i + 1) s)
  unfolding name_cell
  name-byte h e = rw (from s i h) (simp (ne_eqb (get_or s i 0) 44 e, name_cell))

  pub name-next : i < length s → (get_or s i 0 ≡ 44 → ⊥) → take (i + 1) s ++ name_cell (drop (i + 1) s) ≡ take i s ++ name_cell (drop i s)
  name-next h e =
      ap (λ (l : List ℕ). l ++ name_cell (drop (i + 1) s)) (let n : take (i + 1) s ≡ take i s ++ (get_or s i 0 ∷ []) = rw (add-one, take-suc s i 0) in n)
      ∙ append_assoc (take i s) (get_or s i 0 ∷ []) (name_cell (drop (i + 1) s))
      ∙ sym (ap (◌++◌ (take i s)) (name-byte h e))

  pub name-over : length s ≤ i → take i s ++ name_cell (drop i s) ≡ take i s
  unfolding name_cell
  name-over h = rw (drop_of_length-le s h) (append-nil (take i s))

-- ---- the end
pub end-here : (s : List ℕ) (i : ℕ) → length s ≤ i → over (drop i s) ≡ got tt (drop (length s) s)
unfolding over
end-here s i h = rw (drop_of_length-le s h, drop_of_length-le s {i = length s} (omega arith))

pub end-not : (s : List ℕ) (i : ℕ) → i < length s → over (drop i s) ≡ refused 2
unfolding over
end-not s i h = rw (from s i h)

-- ---- a mark
pub mark-few : (m i : ℕ) (s : List ℕ) → i ≤ length s → m ≤ 1000 → Reads s (past (Some m) i) (mark_of m (drop i s))
unfolding mark_of
mark-few m i s h l = record { within = h; same = rw (le-leb m 1000 l) }

pub mark-many : (m : ℕ) (s t : List ℕ) → 1000 < m → Reads s (fault 2) (mark_of m t)
unfolding mark_of
mark-many m s t l = record { within = zero-le; same = rw (lt-leb m 1000 l) }

-- ---- what m reads after f
module _ {A B : Type 0} (f : Reader A) (m : A → Reader B) {s t : List ℕ} where
  pub read-fault : {k : ℕ} → Reads s (fault k) (f t) → Reads s (fault k) (read_on (f t) m)
  read-fault h = record { within = h.within; same = ap (λ (z : Reply A). read_on z m) h.same }

  pub read-then : {o : Outcome B} {a : A} {i : ℕ} → Reads s (past a i) (f t) → Reads s o (m a (drop i s)) → Reads s o (read_on (f t) m)
  read-then h l = record { within = l.within; same = l.same ∙ ap (λ (z : Reply A). read_on z m) h.same }

  -- or what the other does, where f reads nothing
  module _ (other : Reader B) where
    pub given-then : {o : Outcome B} {a : A} {i : ℕ} → Reads s (past a i) (f t) → Reads s o (m a (drop i s)) → Reads s o (given f m other t)
    given-then h l =
        record { within = l.within; same = l.same ∙ ap (λ (z : Reply A). elim z [ got a r ↦ m a r | refused n ↦ other t ]) h.same }

    pub given-other : {o : Outcome B} {k : ℕ} → Reads s (fault k) (f t) → Reads s o (other t) → Reads s o (given f m other t)
    given-other h l =
        record { within = l.within; same = l.same ∙ ap (λ (z : Reply A). elim z [ got a r ↦ m a r | refused n ↦ other t ]) h.same }

-- ---- a key, or what the other reads
module _ {A : Type 0} (k : List ℕ) (a : A) (other : Reader A) {s : List ℕ} (t : List ℕ) where
  pub key-past : {i : ℕ} → Reads s (past tt i) (key k t) → Reads s (past a i) (upon k (give a) other t)
  key-past h = given-then (key k) (λ _. give a) other h (record { within = h.within; same = refl })

  pub key-not : {o : Outcome A} {n : ℕ} → Reads s (fault n) (key k t) → Reads s o (other t) → Reads s o (upon k (give a) other t)
  key-not h l = given-other (key k) (λ _. give a) other h l

pub none-due : {A : Type 0} (s : List ℕ) → Reads {A = A} s (fault 2) (refused 2)
none-due s = record { within = zero-le; same = refl }

-- ---- the outcome's words from one of them on
abbrev pub from_absent : Reader Said
from_absent = upon (bytes "absent,") (give said.Absent) no_line

abbrev pub from_fault : Reader Said
from_fault = upon (bytes "fault,") (give said.Fault) from_absent

abbrev pub from_refused : Reader Said
from_refused = upon (bytes "refused,") (give said.Refused) from_fault

abbrev pub from_unfinished : Reader Said
from_unfinished = upon (bytes "unfinished,") (give said.Unfinished) from_refused

-- ---- what is read after each part of a row
abbrev pub two_cells : Reader (Unit {0})
two_cells = λ s. read_on (past_cell Number s) (λ _. past_cell Number)

abbrev pub then_over : Mark → Reader Mark
then_over m = λ s. read_on (over s) (λ _. give m)

abbrev pub cells_then_mark : Reader Mark
cells_then_mark = λ s. read_on (three_cells s) (λ _. last_mark (bytes "\n"))

abbrev pub mark_then : Said → Reader (Said × Mark)
mark_then o = λ s. read_on (number_cells s) (λ m. give (o, m))

abbrev pub said_then : Reader (Said × Mark)
said_then = λ s. read_on (said_cell s) mark_then

-- ---- a row and a pass line by what was read of them
module _ {s : List ℕ} where
  pub row-fault : (p : Pass) {k : ℕ} → Reads s (fault k) (row_says s) → NoRow ≡ standing p s
  unfolding standing
  row-fault p h = rw (← h.same, standing)

  pub row_is : (p : Pass) {o : Said} {m : Mark} {i : ℕ} → Reads s (past (o, m) i) (row_says s) → standing_by p o m ≡ standing p s
  unfolding standing
  row_is p h = rw (← h.same, standing)

  pub pass-fault : {k : ℕ} → Reads s (fault k) (last_mark (bytes "-\n") s) → None ≡ pass_in s
  unfolding pass_in
  pass-fault h = rw (← h.same, pass_in)

  pub pass-is : {m : Mark} {i : ℕ} → Reads s (past m i) (last_mark (bytes "-\n") s) → Some (pass_of m) ≡ pass_in s
  unfolding pass_in
  pass-is h = rw (← h.same, pass_in)
