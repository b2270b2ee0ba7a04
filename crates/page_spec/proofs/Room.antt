-- What is written at once has at most 294,912 bytes: a name's four times, ten lines of 120 bytes, and of a report's 8,192 bytes each at most 31.
-- Assumes nothing.
use Prim.Native.Nat.{ℕ, zero, suc, ◌+◌, ◌*◌, ◌-◌, ◌/◌, ◌≤◌}
use mathlib.Core.Bool.{Bool, true, false, cond}
use mathlib.Core.List.{List, [], ◌∷◌, ◌++◌}
use mathlib.Core.Path.{◌≡◌}
use native.Mathlib.Omega.{arith}
use lib.Dec.{eqb, ltb}
use lib.ListN.{length, get_or, length-append, length-take}
use Rattle.item_spec.proofs.Tests.{by-test}
use Rattle.item_spec.specs.Reader.{bytes}
use Rattle.item_spec.specs.Write.{digits_in, number_text}
use Rattle.sitting_shown.specs.declared.Among.TheVariants as among
use Rattle.sitting_shown.specs.Readable.{FourTimes}
use Rattle.sitting_shown.proofs.Readable.{four-times}
use Rattle.std.specs.declared.option.Option.{Option}
use Rattle.std.specs.declared.option.Option.TheVariants.{Some, None}
use Rattle.page_spec.specs.declared.Found.{Found}
use Rattle.page_spec.specs.Line.{line_of, widest, first_bytes, line_count}
use Rattle.page_spec.specs.Words.{words_text}
use Rattle.page_spec.specs.Piece.{Piece, fixed, number, seen, words, piece_text, page_text, when, each}
use Rattle.page_spec.specs.Style.{look_in_colour, look_of_text, look_of_candidates, look_of_parts, look_in_print}
use Rattle.page_spec.specs.Page.{groups, filter_rule, head_begin, heading, top, count_row, counts, foot, row_begin, left_note, end_note, line_row, line_rows, begins, cell_piece, report_byte, report_rows, opening, mark_line, next_line, instruction_line, sides, signs, body, candidate, unreadable}
use Rattle.page_spec.specs.Room.{CandidatesFit, UnreadableFit, TopsFit, CountsFit, FeetFit}

-- ---- a bound for pieces, summed

abbrev bound : Piece → ℕ
bound (fixed s) = length (bytes s)
bound (number n) = 20
bound (seen s) = 4 * length s
bound (words k) = 120

abbrev bounds : List Piece → ℕ
bounds [] = 0
bounds (p ∷ ps) = bound p + bounds ps

digits-short : (n v : ℕ) → length (digits_in n v) ≤ n
unfolding digits_in
digits-short zero v = omega arith
digits-short (suc n) v =
    by-test (ltb v 10) (λ e. rw (e, digits_in) (omega arith)) (λ e. rw (e, digits_in) (simp length-append (omega (arith, digits-short n (v / 10)))))

first_short : (s : List ℕ) (n : ℕ) → length (first_bytes s n) ≤ 120
unfolding first_bytes
first_short s n = omega (arith, length-take widest (line_of s n))

piece-short : (p : Piece) → length (piece_text p) ≤ bound p
unfolding piece_text number_text FourTimes
piece-short (fixed s) = omega arith
piece-short (number n) = digits-short 20 n
piece-short (seen s) = four-times among.Markup s
piece-short (words k) = first_short words_text k

text-short : (ps : List Piece) → length (page_text ps) ≤ bounds ps
unfolding page_text
text-short [] = omega arith
text-short (p ∷ ps) = simp length-append (omega (arith, piece-short p, text-short ps))

-- ---- pieces one after the other, each within a bound of its own

record Within (n : ℕ) (ps : List Piece) : Type 0 where
  small : bounds ps ≤ n

-- what has few pieces is summed
sum : {n : ℕ} (ps : List Piece) → bounds ps ≤ n → Within n ps
sum ps h = record { small = h }

next : (m k : ℕ) {n : ℕ} (p : Piece) (ps : List Piece) → bound p ≤ m → Within k ps → m + k ≤ n → Within n (p ∷ ps)
next m k p ps h g l = sum (p ∷ ps) (omega (arith, g.small))

both : (ps qs : List Piece) → bounds (ps ++ qs) ≡ bounds ps + bounds qs
both [] qs = omega arith
both (p ∷ ps) qs = omega (arith, both ps qs)

and_then : (m k : ℕ) {n : ℕ} (ps qs : List Piece) → Within m ps → Within k qs → m + k ≤ n → Within n (ps ++ qs)
and_then m k ps qs h g l = sum (ps ++ qs) (omega (arith, both ps qs, h.small, g.small))

if-so : (b : Bool) {n : ℕ} (ps : List Piece) → Within n ps → Within n (when b ps)
if-so true ps h = h
if-so false ps h = sum [] (omega arith)

either : (b : Bool) {n : ℕ} (ps qs : List Piece) → Within n ps → Within n qs → Within n (cond b ps qs)
either true ps qs h g = h
either false ps qs h g = g

abbrev times : ℕ → ℕ → ℕ
times zero m = 0
times (suc n) m = times n m + m

every : (f : ℕ → List Piece) (m n : ℕ) → ((k : ℕ) → Within m (f k)) → Within (times n m) (each f n)
unfolding each
every f m zero h = sum [] (omega arith)
every f m (suc n) h = and_then (times n m) m (each f n) (f n) (every f m n h) (h n) (omega arith)

fits : (m : ℕ) {n : ℕ} (ps : List Piece) → Within m ps → m ≤ n → length (page_text ps) ≤ n
fits m ps h l = omega (arith, text-short ps, h.small)

-- ---- the top

rule-short : (k : ℕ) → Within 100 (filter_rule k)
unfolding filter_rule
rule-short k = sum _ (omega arith)

pub tops_fit : TopsFit
unfolding TopsFit top head_begin look_in_colour look_of_text look_of_candidates look_of_parts look_in_print heading
tops_fit title sheet start dates judge a b c d e =
    fits 120000 _
    (and_then 17000 103000 (head_begin title) _ (sum _ (omega arith))
    (and_then 1000 102000 look_in_colour _ (sum _ (omega arith))
    (and_then 1000 101000 look_of_text _ (sum _ (omega arith))
    (and_then 4100 96900 (each filter_rule groups) _ (every filter_rule 100 groups rule-short)
    (and_then 1000 95900 look_of_candidates _ (sum _ (omega arith))
    (and_then 1000 94900 look_of_parts _ (sum _ (omega arith))
    (and_then 1000 93900 look_in_print _ (sum _ (omega arith)) (sum _ (omega arith)) (omega arith))
    (omega arith)) (omega arith)) (omega arith)) (omega arith)) (omega arith)) (omega arith))
    (omega arith)

count-short : (k n : ℕ) → Within 300 (count_row k n)
unfolding count_row
count-short k n = if-so (ltb 0 n) _ (sum _ (omega arith))

pub counts-fit : CountsFit
unfolding CountsFit counts
counts-fit total c =
    fits 20000 _
    (next 100 19900 _ _ (omega arith)
    (next 20 19880 _ _ (omega arith)
    (next 100 19780 _ _ (omega arith)
    (next 100 19680 _ _ (omega arith)
    (and_then 12300 7380 (each (λ k. count_row k (get_or c k 0)) groups) _ (every (λ k. count_row k (get_or c k 0)) 300 groups (λ k. count-short k (get_or c k 0))) (sum _ (omega arith)) (omega arith))
    (omega arith)) (omega arith)) (omega arith)) (omega arith))
    (omega arith)

pub feet-fit : FeetFit
unfolding FeetFit foot
feet-fit total = fits 200 _ (sum _ (omega arith)) (omega arith)

-- ---- the lines of an answer, and the report

begin-short : (b : Bool) → bound (row_begin b) ≤ 31
begin-short true = omega arith
begin-short false = omega arith

line-short : (a : List ℕ) (at n : ℕ) → Within 700 (line_row a at n)
unfolding line_row left_note end_note
line-short a at n =
    next 31 669 _ _ (begin-short (eqb n at))
    (next 20 649 _ _ (omega arith)
    (next 9 640 _ _ (omega arith)
    (next 480 160 _ _ (omega (arith, first_short a (n - 1)))
    (and_then 60 100 (left_note (length (line_of a (n - 1)) - widest)) _ (if-so (ltb 0 (length (line_of a (n - 1)) - widest)) _ (sum _ (omega arith)))
    (and_then 40 60 (end_note (eqb n (line_count a))) _ (if-so (eqb n (line_count a)) _ (sum _ (omega arith))) (sum _ (omega arith)) (omega arith))
    (omega arith)) (omega arith)) (omega arith)) (omega arith)) (omega arith)

lines-short : (a : List ℕ) (at : ℕ) → Within 7000 (line_rows a at)
unfolding line_rows
lines-short a at = every _ 700 10 (λ i. if-so (ltb i (line_count a - (at - 7))) _ (line-short a at _))

cell-short : (b : ℕ) → bound (cell_piece b) ≤ 11
unfolding cell_piece
cell-short b =
    by-test (eqb b 10)
    (λ e. rw (e, cell_piece) (omega arith))
    (λ e. by-test (eqb b 61)
    (λ f. rw (e, f, cell_piece) (omega arith))
    (λ f. by-test (eqb b 44) (λ g. rw (e, f, g, cell_piece) (omega arith)) (λ g. rw (e, f, g, cell_piece) (omega arith))))

byte-short : (first : Bool) (b : ℕ) → Within 31 (report_byte first b)
unfolding report_byte
byte-short first b = and_then 20 11 (when first _) _ (if-so first _ (sum _ (omega arith))) (sum _ (omega (arith, cell-short b))) (omega arith)

times-31 : (n : ℕ) → times n 31 ≡ 31 * n
times-31 zero = omega arith
times-31 (suc n) = omega (arith, times-31 n)

report-short : (r : List ℕ) → Within (31 * length r) (report_rows r)
unfolding report_rows
report-short r = rw (times-31 (length r)) at (every (λ i. report_byte (begins r i) (get_or r i 0)) 31 (length r) (λ i. byte-short (begins r i) (get_or r i 0)))

-- ---- a candidate

opening-short : (k : ℕ) (name : List ℕ) (group : ℕ) → Within (4 * length name + 300) (opening k name group)
unfolding opening
opening-short k name group = sum _ (omega arith)

signs-short : Within 300 signs
unfolding signs
signs-short = sum _ (omega arith)

mark-short : (m : Option ℕ) → Within 50 (mark_line m)
unfolding mark_line
mark-short (Some m) = sum _ (omega arith)
mark-short None = sum _ (omega arith)

instruction-short : (s : List ℕ) (n k : ℕ) → Within 800 (instruction_line s n k)
unfolding instruction_line
instruction-short s n k = if-so (ltb k n) _ (sum _ (omega (arith, first_short s (next_line s n k - 1))))

sides-short : (a : List ℕ) (at : ℕ) (r : List ℕ) → Within (31 * length r + 7500) (sides a at r)
unfolding sides
sides-short a at r =
    next 100 (31 * length r + 7400) _ _ (omega arith)
    (next 20 (31 * length r + 7380) _ _ (omega arith)
    (next 20 (31 * length r + 7360) _ _ (omega arith)
    (and_then 7000 (31 * length r + 360) (line_rows a at) _ (lines-short a at)
    (next 150 (31 * length r + 210) _ _ (omega arith)
    (next 100 (31 * length r + 110) _ _ (omega arith)
    (and_then (31 * length r) 110 (report_rows r) _ (report-short r) (sum _ (omega arith)) (omega arith))
    (omega arith)) (omega arith)) (omega arith)) (omega arith)) (omega arith)) (omega arith)

body-short : (f : Found) (s a r : List ℕ) → Within (31 * length r + 8600) (body f s a r)
unfolding body
body-short f s a r =
    either (eqb f.group 0) _ _ (sum _ (omega arith))
    (and_then 800 (31 * length r + 7800) (instruction_line s f.program f.next) _ (instruction-short s f.program f.next)
    (and_then (31 * length r + 7500) 300 (sides a f.line r) signs (sides-short a f.line r) signs-short (omega arith))
    (omega arith))

pub candidates-fit : CandidatesFit
unfolding CandidatesFit candidate
candidates-fit k name f s a r h g =
    fits (4 * length name + 31 * length r + 8950) _
    (and_then (4 * length name + 300) (31 * length r + 8650) (opening k name f.group) _ (opening-short k name f.group)
    (and_then 50 (31 * length r + 8600) (mark_line f.mark) _ (mark-short f.mark) (body-short f s a r) (omega arith))
    (omega arith))
    (omega arith)

pub unreadable-fit : UnreadableFit
unfolding UnreadableFit unreadable
unreadable-fit k name h =
    fits (4 * length name + 600) _ (and_then (4 * length name + 300) 300 (opening k name 40) signs (opening-short k name 40) signs-short (omega arith)) (omega arith)
