-- A page is ASCII: its constants by looking at each, and what else it has by what is known of it.
-- Assumes nothing.
use Prim.Native.Nat.{ℕ, zero, suc, ◌-◌}
use mathlib.Core.Bool.{Bool, true, false, ◌&&◌, cond}
use mathlib.Core.List.{List, [], ◌∷◌, ◌++◌}
use mathlib.Core.Path.{◌≡◌, refl}
use native.Mathlib.Omega.{arith}
use lib.Dec.{eqb, ltb}
use lib.ListN.{length, drop, get_or}
use borrow.Author.Tests.{ltb-true}
use Rattle.item_spec.proofs.Tests.{by-test, and_left, and_right}
use Rattle.item_spec.specs.Reader.{bytes}
use Rattle.item_spec.specs.Write.{digits_in, number_text}
use Rattle.read_spec.specs.Place.{up_to_lf, line_start}
use Rattle.sitting_shown.specs.declared.Among.TheVariants as among
use Rattle.sitting_shown.specs.Readable.{Each, Printable, AlwaysPrintable}
use Rattle.sitting_shown.proofs.Readable.{each_append, each_map, always-printable}
use Rattle.std.specs.declared.option.Option.{Option}
use Rattle.std.specs.declared.option.Option.TheVariants.{Some, None}
use Rattle.page_spec.specs.declared.Found.{Found}
use Rattle.page_spec.specs.Line.{line_of, widest, first_bytes, line_count}
use Rattle.page_spec.specs.Words.{words_text}
use Rattle.page_spec.specs.Piece.{Piece, fixed, number, seen, words, piece_text, page_text, when, each}
use Rattle.page_spec.specs.Style.{look_in_colour, look_of_text, look_of_candidates, look_of_parts, look_in_print}
use Rattle.page_spec.specs.Page.{groups, filter_rule, head_begin, heading, top, count_row, counts, foot, row_begin, left_note, end_note, line_row, line_rows, begins, cell_piece, report_byte, report_rows, opening, mark_line, instruction_line, sides, signs, body, candidate, unreadable}
use Rattle.page_spec.specs.Ascii.{Ascii, InAscii, TopsAreAscii, CountsAreAscii, CandidatesAreAscii, UnreadableAreAscii, FeetAreAscii}
use Rattle.page_spec.proofs.Claims.{Digit, digits-digits, each_take, each-drop, each_line}
use Rattle.page_spec.proofs.Texts.{text-append}

-- ---- pieces

abbrev all_ascii : List ℕ → Bool
all_ascii [] = true
all_ascii (b ∷ s) = ltb b 128 && all_ascii s

all_ascii_each : (s : List ℕ) → all_ascii s ≡ true → Each Ascii s
all_ascii_each [] e = tt
all_ascii_each (b ∷ s) e = (ltb-true b 128 (and_left (ltb b 128) (all_ascii s) e), all_ascii_each s (and_right (ltb b 128) (all_ascii s) e))

number-ascii : (v : ℕ) → Each Ascii (number_text v)
unfolding number_text
number-ascii v = each_map Digit Ascii (λ b h. omega (arith, h.1)) (digits_in 20 v) (digits-digits 20 v)

seen-ascii : (s : List ℕ) → Each Ascii (piece_text (seen s))
unfolding piece_text AlwaysPrintable
seen-ascii s = each_map Printable Ascii (λ b h. omega (arith, h.1)) (piece_text (seen s)) (always-printable among.Markup s)

words-told : all_ascii words_text ≡ true
unfolding words_text
words-told = refl

words-ascii : (k : ℕ) → Each Ascii (first_bytes words_text k)
unfolding first_bytes line_of
words-ascii k =
    each_take Ascii widest (up_to_lf (drop (line_start k words_text) words_text))
    (each_line Ascii (drop (line_start k words_text) words_text) (each-drop Ascii (line_start k words_text) words_text (all_ascii_each words_text words-told)))

-- a constant is looked at
abbrev looked : Piece → Bool
looked (fixed s) = all_ascii (bytes s)
looked (number n) = true
looked (seen s) = true
looked (words k) = true

piece-ascii : (p : Piece) → looked p ≡ true → Each Ascii (piece_text p)
unfolding piece_text
piece-ascii (fixed s) e = all_ascii_each (bytes s) e
piece-ascii (number n) e = number-ascii n
piece-ascii (seen s) e = seen-ascii s
piece-ascii (words k) e = words-ascii k

-- ---- pieces one after the other

next : (p : Piece) (ps : List Piece) → looked p ≡ true → InAscii ps → InAscii (p ∷ ps)
unfolding page_text
next p ps e h = each_append Ascii (piece_text p) (page_text ps) (piece-ascii p e) h

abbrev all_looked : List Piece → Bool
all_looked [] = true
all_looked (p ∷ ps) = looked p && all_looked ps

told : (ps : List Piece) → all_looked ps ≡ true → InAscii ps
unfolding page_text
told [] e = tt
told (p ∷ ps) e = next p ps (and_left (looked p) (all_looked ps) e) (told ps (and_right (looked p) (all_looked ps) e))

and_then : (ps qs : List Piece) → InAscii ps → InAscii qs → InAscii (ps ++ qs)
and_then ps qs h g = rw (text-append ps qs) (each_append Ascii (page_text ps) (page_text qs) h g)

if-so : (b : Bool) (ps : List Piece) → InAscii ps → InAscii (when b ps)
if-so true ps h = h
if-so false ps h = told [] refl

every : (f : ℕ → List Piece) (n : ℕ) → ((k : ℕ) → InAscii (f k)) → InAscii (each f n)
unfolding each
every f zero h = told [] refl
every f (suc n) h = and_then (each f n) (f n) (every f n h) (h n)

either : (b : Bool) (ps qs : List Piece) → InAscii ps → InAscii qs → InAscii (cond b ps qs)
either true ps qs h g = h
either false ps qs h g = g

-- ---- the top

rule-ascii : (k : ℕ) → InAscii (filter_rule k)
unfolding filter_rule
rule-ascii k = told (filter_rule k) refl

pub tops-are-ascii : TopsAreAscii
unfolding TopsAreAscii top head_begin look_in_colour look_of_text look_of_candidates look_of_parts look_in_print heading
tops-are-ascii title sheet start times judge =
    and_then (head_begin title) _ (told (head_begin title) refl)
    (and_then look_in_colour _ (told look_in_colour refl)
    (and_then look_of_text _ (told look_of_text refl)
    (and_then (each filter_rule groups) _ (every filter_rule groups rule-ascii)
    (and_then look_of_candidates _ (told look_of_candidates refl)
    (and_then look_of_parts _ (told look_of_parts refl)
    (and_then look_in_print _ (told look_in_print refl) (told (heading title sheet start times judge) refl)))))))

count-ascii : (k n : ℕ) → InAscii (count_row k n)
unfolding count_row
count-ascii k n = if-so (ltb 0 n) _ (told _ refl)

pub counts-are-ascii : CountsAreAscii
unfolding CountsAreAscii counts
counts-are-ascii total c =
    next _ _ refl
    (next _ _ refl
    (next _ _ refl
    (next _ _ refl
    (and_then (each (λ k. count_row k (get_or c k 0)) groups) _ (every (λ k. count_row k (get_or c k 0)) groups (λ k. count-ascii k (get_or c k 0))) (told _ refl)))))

pub feet-are-ascii : FeetAreAscii
unfolding FeetAreAscii foot
feet-are-ascii total = told (foot total) refl

-- ---- the lines of an answer, and the report

begin-ascii : (b : Bool) → looked (row_begin b) ≡ true
begin-ascii true = refl
begin-ascii false = refl

line-ascii : (a : List ℕ) (at n : ℕ) → InAscii (line_row a at n)
unfolding line_row left_note end_note
line-ascii a at n =
    next _ _ (begin-ascii (eqb n at))
    (next _ _ refl
    (next _ _ refl
    (next _ _ refl
    (and_then (left_note (length (line_of a (n - 1)) - widest)) _ (if-so (ltb 0 (length (line_of a (n - 1)) - widest)) _ (told _ refl))
    (and_then (end_note (eqb n (line_count a))) _ (if-so (eqb n (line_count a)) _ (told _ refl)) (told _ refl))))))

lines-ascii : (a : List ℕ) (at : ℕ) → InAscii (line_rows a at)
unfolding line_rows
lines-ascii a at = every _ 10 (λ i. if-so (ltb i (line_count a - (at - 7))) _ (line-ascii a at _))

cell-ascii : (b : ℕ) → looked (cell_piece b) ≡ true
unfolding cell_piece
cell-ascii b =
    by-test (eqb b 10)
    (λ e. rw (e, cell_piece))
    (λ e. by-test (eqb b 61) (λ f. rw (e, f, cell_piece)) (λ f. by-test (eqb b 44) (λ g. rw (e, f, g, cell_piece)) (λ g. rw (e, f, g, cell_piece))))

report-ascii : (r : List ℕ) → InAscii (report_rows r)
unfolding report_rows report_byte
report-ascii r =
    every _ (length r) (λ i. and_then (when (begins r i) _) _ (if-so (begins r i) _ (told _ refl)) (next _ _ (cell-ascii (get_or r i 0)) (told [] refl)))

-- ---- a candidate

opening-ascii : (k : ℕ) (name : List ℕ) (group : ℕ) → InAscii (opening k name group)
unfolding opening
opening-ascii k name group = told (opening k name group) refl

signs-ascii : InAscii signs
unfolding signs
signs-ascii = told signs refl

mark-ascii : (m : Option ℕ) → InAscii (mark_line m)
unfolding mark_line
mark-ascii (Some m) = told _ refl
mark-ascii None = told _ refl

instruction-ascii : (s : List ℕ) (n k : ℕ) → InAscii (instruction_line s n k)
unfolding instruction_line
instruction-ascii s n k = if-so (ltb k n) _ (told _ refl)

sides-ascii : (a : List ℕ) (at : ℕ) (r : List ℕ) → InAscii (sides a at r)
unfolding sides
sides-ascii a at r =
    next _ _ refl
    (next _ _ refl
    (next _ _ refl
    (and_then (line_rows a at) _ (lines-ascii a at)
    (next _ _ refl
    (next _ _ refl
    (and_then (report_rows r) _ (report-ascii r) (told _ refl)))))))

body-ascii : (f : Found) (s a r : List ℕ) → InAscii (body f s a r)
unfolding body
body-ascii f s a r =
    either (eqb f.group 0) _ _ (told _ refl)
    (and_then (instruction_line s f.program f.next) _ (instruction-ascii s f.program f.next) (and_then (sides a f.line r) _ (sides-ascii a f.line r) signs-ascii))

pub candidates-are-ascii : CandidatesAreAscii
unfolding CandidatesAreAscii candidate
candidates-are-ascii k name f s a r =
    and_then (opening k name f.group) _ (opening-ascii k name f.group) (and_then (mark_line f.mark) _ (mark-ascii f.mark) (body-ascii f s a r))

pub unreadable-are-ascii : UnreadableAreAscii
unfolding UnreadableAreAscii unreadable
unreadable-are-ascii k name = and_then (opening k name 40) _ (opening-ascii k name 40) signs-ascii
