-- The page: its top with the counts by outcome, each candidate, its foot.
use Rattle.std.specs.Prelude.{ℕ, ◌+◌, ◌-◌, Bool, true, false, ◌||◌, cond, List, [], ◌∷◌, ◌++◌, eqb, ltb, length, get_or}
use Rattle.std.specs.declared.option.Option.{Option}
use Rattle.std.specs.declared.option.Option.TheVariants.{Some, None}
use Rattle.item_spec.specs.Reader.{byte}
use Rattle.page_spec.specs.declared.Found.{Found}
use Rattle.page_spec.specs.Line.{line_of, widest, first_bytes, line_count}
use Rattle.page_spec.specs.Piece.{Piece, fixed, number, seen, words, when, each}
use Rattle.page_spec.specs.Style.{look_in_colour, look_of_text, look_of_candidates, look_of_parts, look_in_print}

-- ---- the top

-- the groups of candidates: the refusals up to 38, and done, unfinished, unreadable
abbrev pub groups : ℕ
groups = 41

-- where a group's row is followed as a link, the other candidates are not shown
unfoldable pub filter_rule : ℕ → List Piece
filter_rule k =
    fixed "header:has(#g" ∷ number k ∷ fixed ":target)~main article:not(.g" ∷ number k ∷ fixed "){display:none}\n" ∷ []

-- no script, no image, nothing from elsewhere
unfoldable pub head_begin : List ℕ → List Piece
head_begin title =
    fixed "<!DOCTYPE html>\n<html lang=\"en\">\n<head>\n<meta charset=\"utf-8\">\n"
    ∷ fixed "<meta name=\"viewport\" content=\"width=device-width, initial-scale=1\">\n"
    ∷ fixed "<meta http-equiv=\"Content-Security-Policy\" content=\"default-src 'none'; style-src 'unsafe-inline'\">\n"
    ∷ fixed "<title>Markers' page: "
    ∷ seen title
    ∷ fixed "</title>\n"
    ∷ []

-- the paper's sums, the judge's version, how many candidates
unfoldable pub heading : List ℕ → List ℕ → List ℕ → List ℕ → List ℕ → List Piece
heading title sheet start times judge =
    seen title
    ∷ fixed "</h1>\n<p class=\"seal\">sheet "
    ∷ seen sheet
    ∷ fixed "<br>start "
    ∷ seen start
    ∷ fixed "<br>times "
    ∷ seen times
    ∷ fixed "<br>judge "
    ∷ seen judge
    ∷ fixed "</p>\n"
    ∷ []

unfoldable pub top : List ℕ → List ℕ → List ℕ → List ℕ → List ℕ → List Piece
top title sheet start times judge =
    head_begin title
    ++ (look_in_colour
    ++ (look_of_text ++ (each filter_rule groups ++ (look_of_candidates ++ (look_of_parts ++ (look_in_print ++ heading title sheet start times judge))))))

-- how many candidates a group has, as a link to them; none where it has none
unfoldable pub count_row : ℕ → ℕ → List Piece
count_row k n =
    when (ltb 0 n)
    (fixed "<tr id=\"g"
    ∷ number k
    ∷ fixed "\"><td class=\"n\">"
    ∷ number n
    ∷ fixed "</td><td><a href=\"#g"
    ∷ number k
    ∷ fixed "\">"
    ∷ words k
    ∷ fixed "</a></td></tr>\n"
    ∷ [])

unfoldable pub counts : ℕ → List ℕ → List Piece
counts total c =
    fixed "<nav aria-label=\"Candidates by outcome\">\n<table class=\"counts\"><caption>Answers: "
    ∷ number total
    ∷ fixed "</caption>\n<thead><tr><th scope=\"col\">Answers</th>"
    ∷ fixed "<th scope=\"col\">Outcome (follow a link to see these alone)</th></tr></thead>\n<tbody>\n"
    ∷ (each (λ k. count_row k (get_or c k 0)) groups
    ++ (fixed "</tbody></table>\n<p class=\"filters\"><a href=\"#all\">Show all candidates</a></p>\n</nav>\n</header>\n<main id=\"all\">\n" ∷ []))

unfoldable pub foot : ℕ → List Piece
foot total = fixed "</main>\n<footer><p>End of the page. Answers: " ∷ number total ∷ fixed "</p></footer>\n</body>\n</html>\n" ∷ []

-- ---- the lines of an answer

abbrev pub row_begin : Bool → Piece
row_begin true = fixed "<tr class=\"at\"><th scope=\"row\">"
row_begin false = fixed "<tr><th scope=\"row\">"

unfoldable pub left_note : ℕ → List Piece
left_note k = when (ltb 0 k) (fixed " <i>and " ∷ number k ∷ fixed " bytes more</i>" ∷ [])

unfoldable pub end_note : Bool → List Piece
end_note b = when b (fixed " <i>the text ends here</i>" ∷ [])

-- line n of the answer, from 1; the line `at` is the offending one
unfoldable pub line_row : List ℕ → ℕ → ℕ → List Piece
line_row a at n =
    row_begin (eqb n at)
    ∷ number n
    ∷ fixed "</th><td>"
    ∷ seen (first_bytes a (n - 1))
    ∷ (left_note (length (line_of a (n - 1)) - widest)
    ++ (end_note (eqb n (line_count a))
    ++ (fixed "</td></tr>\n" ∷ [])))

-- ten lines, as far as there are so many: "six lines before the offending one and three after"
unfoldable pub line_rows : List ℕ → ℕ → List Piece
line_rows a at = each (λ i. when (ltb i (line_count a - (at - 7))) (line_row a at (at - 7 + i + 1))) 10

-- ---- the report, a row for each line and a cell for each item

-- byte i begins a line
unfoldable pub begins : List ℕ → ℕ → Bool
begins r i = eqb i 0 || eqb (get_or r (i - 1) 0) (byte "\n")

unfoldable pub cell_piece : ℕ → Piece
cell_piece b =
    elim (eqb b (byte "\n")) [
      | true ↦ fixed "</td></tr>\n"
      | false ↦ elim (eqb b (byte "=")) [
        | true ↦ fixed "</th><td>"
        | false ↦ elim (eqb b (byte ",")) [ true ↦ fixed "</td><td>" | false ↦ seen (b ∷ []) ]
      ]
    ]

unfoldable pub report_byte : Bool → ℕ → List Piece
report_byte first b = when first (fixed "<tr><th scope=\"row\">" ∷ []) ++ (cell_piece b ∷ [])

unfoldable pub report_rows : List ℕ → List Piece
report_rows r = each (λ i. report_byte (begins r i) (get_or r i 0)) (length r)

-- ---- a candidate

-- candidate k of the page, by its name
unfoldable pub opening : ℕ → List ℕ → ℕ → List Piece
opening k name group =
    fixed "<article class=\"g"
    ∷ number group
    ∷ fixed "\" aria-labelledby=\"c"
    ∷ number k
    ∷ fixed "\">\n<h2 id=\"c"
    ∷ number k
    ∷ fixed "\">"
    ∷ seen name
    ∷ fixed "</h2>\n<p class=\"why\">"
    ∷ words group
    ∷ fixed "</p>\n"
    ∷ []

unfoldable pub mark_line : Option ℕ → List Piece
mark_line (Some m) = fixed "<p>mark " ∷ number m ∷ fixed "</p>\n" ∷ []
mark_line None = []

-- the program's lines are the sheet's last: where the instruction after the first k of n stands
unfoldable pub next_line : List ℕ → ℕ → ℕ → ℕ
next_line s n k = line_count s - (n - k)

unfoldable pub instruction_line : List ℕ → ℕ → ℕ → List Piece
instruction_line s n k =
    when (ltb k n)
    (fixed "<p>Instructions done: "
    ∷ number k
    ∷ fixed " of "
    ∷ number n
    ∷ fixed ". The next one, line "
    ∷ number (next_line s n k)
    ∷ fixed " of the sheet: <code>"
    ∷ seen (first_bytes s (next_line s n k - 1))
    ∷ fixed "</code></p>\n"
    ∷ [])

-- the answer's lines beside the report
unfoldable pub sides : List ℕ → ℕ → List ℕ → List Piece
sides a at r =
    fixed "<div class=\"two\">\n<table class=\"lines\"><caption>The answer, at line "
    ∷ number at
    ∷ fixed "</caption>\n<tbody>\n"
    ∷ (line_rows a at
    ++ (fixed "</tbody></table>\n<table class=\"state\"><caption>The report. instance: id, type, marked, running, ended, queue; "
    ∷ fixed "connection: user, use port, provider, provide port</caption>\n<tbody>\n"
    ∷ (report_rows r
    ++ (fixed "</tbody></table>\n</div>\n" ∷ []))))

-- boxes for two signatures
unfoldable pub signs : List Piece
signs =
    fixed "<div class=\"signs\">\n<p><b>Marker 1</b>&#9744; agreed &#9744; queried; name, date, signature:</p>\n"
    ∷ fixed "<p><b>Marker 2</b>&#9744; agreed &#9744; queried; name, date, signature:</p>\n</div>\n</article>\n"
    ∷ []

-- one that is done has no more than its mark
unfoldable pub body : Found → List ℕ → List ℕ → List ℕ → List Piece
body f s a r =
    cond (eqb f.group 0) (fixed "</article>\n" ∷ []) (instruction_line s f.program f.next ++ (sides a f.line r ++ signs))

unfoldable pub candidate : ℕ → List ℕ → Found → List ℕ → List ℕ → List ℕ → List Piece
candidate k name f s a r = opening k name f.group ++ (mark_line f.mark ++ body f s a r)

unfoldable pub unreadable : ℕ → List ℕ → List Piece
unreadable k name = opening k name 40 ++ signs
