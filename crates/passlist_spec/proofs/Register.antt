-- A register's text: its lines are the head and the rows that were written, the list is theirs, and it is taken.
-- Assumes nothing.
use Prim.Native.Nat.{ℕ, ◌<◌}
use mathlib.Core.Bool.{Bool, true, false, ◌&&◌, ◌||◌, not}
use mathlib.Core.List.{List, [], ◌∷◌, ◌++◌, append_assoc, append-nil}
use mathlib.Core.Path.{◌≡◌, refl, sym, ap, ◌∙◌, subst}
use mathlib.Core.Logic.{◌≢◌}
use lib.Dec.{eqb, leb, lit<}
use Rattle.std.specs.Bool.{then_some}
use Rattle.item_spec.specs.Reader.{bytes}
use Rattle.item_spec.specs.Read.{key, number_from, one_form}
use Rattle.item_spec.specs.Write.{only_if}
use Rattle.item_spec.proofs.Tests.{by-test}
use Rattle.start_spec.specs.Paper.{Paper}
use Rattle.judge_spec.specs.Judged.{lent_bytes}
use Rattle.timing_spec.specs.Timed.{timed}
use Rattle.sitting_shown.specs.Shown.{cell}
use Rattle.sitting_shown.specs.Readable.{Each}
use Rattle.outcome_spec.specs.declared.Outcome.{Outcome}
use Rattle.outcome_spec.specs.declared.Outcome.TheVariants.{Done, Unfinished, Refused, Fault, OfPaper}
use Rattle.outcome_spec.specs.Outcome.{outcome_of}
use Rattle.register_spec.specs.Row.{row_of}
use Rattle.register_spec.specs.Text.{head_text, cells_after, further_cells, row_text}
use Rattle.register_spec.specs.Claims.{EachCell}
use Rattle.register_spec.proofs.Cells.{Within, cells-within, name-within}
use Rattle.passlist_spec.specs.declared.Pass.{Pass}
use Rattle.passlist_spec.specs.declared.Standing.TheVariants as stands
use Rattle.passlist_spec.specs.Row.{past_cell, said_cell, three_cells, mark_or, over, last_mark, number_cells, row_says}
use Rattle.passlist_spec.specs.Standing.{standing, passed_line}
use Rattle.passlist_spec.specs.Listed.{place_of, none_counted, counts_text, lines_from, counted_all}
use Rattle.passlist_spec.specs.Whole.{stands_as, passed_lines, AllRows, IsRegister, ListsExactly, TakenExactly}
use Rattle.passlist_spec.specs.Claims.{Candidate, sat, absent, name_of, candidate_text, rows_of, register_of, joined, pass_for, is_done, passed, names_text, NamedAsRegistered, RegistersAreListed, AllJudged, RegistersAreTaken}
use Rattle.passlist_spec.proofs.Few.{marks-few}
use Rattle.passlist_spec.proofs.Read.{named_in, cell-past, name-of, standing_for, row-stands, named-as-registered}
use Rattle.passlist_spec.proofs.Whole.{lists-exactly, taken-exactly}

-- ---- lines

-- bytes within a line are put to what it has so far
taken : (so xs t : List ℕ) → Each Within xs → lines_from so (xs ++ t) ≡ lines_from (so ++ xs) t
unfolding lines_from
taken so [] t h = ap (λ (l : List ℕ). lines_from l t) (sym (append-nil so))
taken so (b ∷ xs) t h =
    rw (h.0.1, lines_from) (taken (so ++ (b ∷ [])) xs t h.1 ∙ ap (λ (l : List ℕ). lines_from l t) (append_assoc so (b ∷ []) xs))

-- cells to the line's end
line_of : (so t : List ℕ) (cs : List (List ℕ)) → EachCell (Each Within) cs → lines_from so (further_cells cs ++ t) ≡ (so ++ further_cells cs) ∷ lines_from [] t
unfolding lines_from further_cells
line_of so t [] h = refl
line_of so t (c ∷ cs) h =
    ap (lines_from (so ++ (44 ∷ []))) (append_assoc c (further_cells cs) t)
    ∙ taken (so ++ (44 ∷ [])) c (further_cells cs ++ t) h.0
    ∙ line_of (so ++ (44 ∷ []) ++ c) t cs h.1
    ∙ ap (λ (l : List ℕ). l ∷ lines_from [] t)
    (append_assoc (so ++ (44 ∷ [])) c (further_cells cs) ∙ append_assoc so (44 ∷ []) (c ++ further_cells cs))

row-line : (name t : List ℕ) (cs : List (List ℕ)) → EachCell (Each Within) cs
    → lines_from [] (cell name ++ further_cells cs ++ t) ≡ (cell name ++ further_cells cs) ∷ lines_from [] t
row-line name t cs h =
    ap (lines_from []) (append_assoc (cell name) (further_cells cs) t)
    ∙ taken [] (cell name) (further_cells cs ++ t) (name-within name)
    ∙ line_of (cell name) t cs h

no-mark-within : EachCell (Each Within) (bytes "absent" ∷ [] ∷ [] ∷ [] ∷ [] ∷ [] ∷ [] ∷ [] ∷ [])
no-mark-within = (((refl, refl), ((refl, refl), ((refl, refl), ((refl, refl), ((refl, refl), ((refl, refl), tt)))))), (tt, (tt, (tt, (tt, (tt, (tt, (tt, tt))))))))

module _ (s : Paper) (b : Bool) (x : List ℕ) where
  candidate-line : (c : Candidate) (t : List ℕ) → lines_from [] (candidate_text s b x c ++ t) ≡ candidate_text s b x c ∷ lines_from [] t
  unfolding row_text
  candidate-line (sat name a) t = row-line name t (cells_after (row_of s b x a)) (cells-within (row_of s b x a))
  candidate-line (absent name) t = row-line name t _ no-mark-within

  rows_are : (cs : List Candidate) → lines_from [] (joined (rows_of s b x cs)) ≡ rows_of s b x cs
  unfolding rows_of joined lines_from
  rows_are [] = refl
  rows_are (c ∷ cs) = candidate-line c (joined (rows_of s b x cs)) ∙ ap (◌∷◌ (candidate_text s b x c)) (rows_are cs)

head-line : (t : List ℕ) → lines_from [] (head_text ++ t) ≡ head_text ∷ lines_from [] t
unfolding lines_from head_text
head-line t = refl

register-lines : (s : Paper) (b : Bool) (x : List ℕ) (cs : List Candidate) → lines_from [] (joined (register_of s b x cs)) ≡ register_of s b x cs
unfolding joined
register-lines s b x cs = head-line (joined (rows_of s b x cs)) ∙ ap (◌∷◌ head_text) (rows_are s b x cs)

-- ---- who passed

-- by the outcome and the mark
passes-by : (b : Bool) (o : Outcome) (n m : ℕ) → eqb 0 (place_of (standing_for (pass_for b n) o (then_some b m))) ≡ is_done o && (not b || leb n m)
passes-by true Done n m = by-test (leb n m) (λ e. rw e) (λ e. rw e)
passes-by true Unfinished n m = refl
passes-by true Refused n m = refl
passes-by true Fault n m = refl
passes-by true OfPaper n m = refl
passes-by false Done n m = refl
passes-by false Unfinished n m = refl
passes-by false Refused n m = refl
passes-by false Fault n m = refl
passes-by false OfPaper n m = refl

absent-stands : (p : Pass) (name : List ℕ) → standing p (cell name ++ further_cells (bytes "absent" ∷ [] ∷ [] ∷ [] ∷ [] ∷ [] ∷ [] ∷ [] ∷ [])) ≡ stands.Absent
unfolding standing row_says further_cells said_cell key number_cells three_cells past_cell last_mark mark_or one_form number_from over
absent-stands p name = rw (cell-past _ (cell name) (bytes "absent,,,,,,,\n") (named_in name), row_says, standing)

module _ (s : Paper) (x : List ℕ) (n : ℕ) where
  sat-stands : (b : Bool) (name a : List ℕ) → stands_as (pass_for b n) stands.Passed (row_text name (row_of s b x a)) ≡ passed s b x n (sat name a)
  unfolding row_of
  sat-stands true name a =
      rw (row-stands (pass_for true n) name (row_of s true x a) (marks-few s a x lent_bytes)) (passes-by true (outcome_of s a) n (timed s a x lent_bytes).mark)
  sat-stands false name a =
      rw (row-stands (pass_for false n) name (row_of s false x a) tt) (passes-by false (outcome_of s a) n 0)

  stands-so : (b : Bool) (c : Candidate) → stands_as (pass_for b n) stands.Passed (candidate_text s b x c) ≡ passed s b x n c
  stands-so b (sat name a) = sat-stands b name a
  stands-so b (absent name) = rw (absent-stands (pass_for b n) name)

  named-so : (b : Bool) (c : Candidate) → passed_line (candidate_text s b x c) ≡ bytes "candidate=" ++ cell (name_of c) ++ bytes "\n"
  unfolding passed_line NamedAsRegistered further_cells
  named-so b (sat name a) = rw (named-as-registered name (row_of s b x a))
  named-so b (absent name) = rw (name-of (cell name) (bytes "absent,,,,,,,\n") (named_in name))

  names : (b : Bool) (cs : List Candidate) → passed_lines (pass_for b n) (rows_of s b x cs) ≡ names_text s b x n cs
  unfolding passed_lines names_text rows_of
  names b [] = refl
  names b (c ∷ cs) = rw (stands-so b c, named-so b c) (ap (◌++◌ (only_if (passed s b x n c) (bytes "candidate=" ++ cell (name_of c) ++ bytes "\n"))) (names b cs))

pub registers-are-listed : RegistersAreListed
unfolding RegistersAreListed ListsExactly
registers-are-listed s b x n cs =
    lists-exactly (pass_for b n) (joined (register_of s b x cs)) (rows_of s b x cs) (register-lines s b x cs)
    ∙ ap (λ (l : List ℕ). l ++ counts_text (counted_all (pass_for b n) none_counted (register_of s b x cs))) (names s x n b cs)

-- ---- what is taken

few-by : (b : Bool) (o : Outcome) (n m : ℕ) → o ≢ OfPaper → place_of (standing_for (pass_for b n) o (then_some b m)) < 6
few-by true Done n m h = by-test (leb n m) (λ e. rw e (lit< tt)) (λ e. rw e (lit< tt))
few-by true Unfinished n m h = lit< tt
few-by true Refused n m h = lit< tt
few-by true Fault n m h = lit< tt
few-by true OfPaper n m h = absurd (h refl)
few-by false Done n m h = lit< tt
few-by false Unfinished n m h = lit< tt
few-by false Refused n m h = lit< tt
few-by false Fault n m h = lit< tt
few-by false OfPaper n m h = absurd (h refl)

module _ (s : Paper) (x : List ℕ) (n : ℕ) where
  sat-few : (b : Bool) (name a : List ℕ) → outcome_of s a ≢ OfPaper → place_of (standing (pass_for b n) (row_text name (row_of s b x a))) < 6
  unfolding row_of
  sat-few true name a h =
      rw (row-stands (pass_for true n) name (row_of s true x a) (marks-few s a x lent_bytes)) (few-by true (outcome_of s a) n (timed s a x lent_bytes).mark h)
  sat-few false name a h = rw (row-stands (pass_for false n) name (row_of s false x a) tt) (few-by false (outcome_of s a) n 0 h)

  all-few : (b : Bool) (cs : List Candidate) → AllJudged s cs → AllRows (pass_for b n) (rows_of s b x cs)
  unfolding rows_of
  all-few b [] h = tt
  all-few b (sat name a ∷ cs) h = (sat-few b name a h.0, all-few b cs h.1)
  all-few b (absent name ∷ cs) h = (rw (absent-stands (pass_for b n) name) (lit< tt), all-few b cs h)

pub registers-are-taken : RegistersAreTaken
unfolding RegistersAreTaken TakenExactly
registers-are-taken s b x n cs h =
    (taken-exactly (pass_for b n) (joined (register_of s b x cs))).1
    (subst (IsRegister (pass_for b n)) (sym (register-lines s b x cs)) (refl, all-few s x n b cs h))
