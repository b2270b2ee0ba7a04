-- All markup of a page is that of its constant pieces.
-- Assumes nothing.
use Prim.Native.Nat.{ℕ, zero, suc, ◌/◌, ◌≤◌}
use mathlib.Core.Bool.{Bool, true, false, ◌&&◌, not}
use mathlib.Core.List.{List, [], ◌∷◌, ◌++◌}
use mathlib.Core.Path.{◌≡◌, refl, sym, ap, ◌∙◌}
use native.Mathlib.Omega.{arith}
use lib.Dec.{eqb, ltb}
use lib.ListN.{length, take, drop}
use borrow.Author.Tests.{ne_eqb, ltb-true, not-true}
use Rattle.item_spec.proofs.Tests.{by-test, and_left, and_right}
use Rattle.item_spec.specs.Reader.{bytes}
use Rattle.item_spec.specs.Write.{digits_in, number_text}
use Rattle.read_spec.specs.Place.{up_to_lf, line_start}
use Rattle.sitting_shown.specs.declared.Among.TheVariants as among
use Rattle.sitting_shown.specs.Shown.{quote, markup, more}
use Rattle.sitting_shown.specs.Readable.{Each, NothingMore}
use Rattle.sitting_shown.proofs.Readable.{each_append, each_map, nothing-more}
use Rattle.page_spec.specs.Line.{line_of, widest, first_bytes}
use Rattle.page_spec.specs.Words.{words_text}
use Rattle.page_spec.specs.Piece.{fixed, number, seen, words, piece_text, page_text}
use Rattle.page_spec.specs.Claims.{only_markup, constants, NoOtherIsMarkup, MarkupIsConstant}

abbrev Plain : ℕ → Type 0
Plain b = markup b ≡ false

-- ---- numbers

abbrev pub Digit : ℕ → Type 0
Digit b = (48 ≤ b) × (b ≤ 57)

pub digits-digits : (n v : ℕ) → Each Digit (digits_in n v)
unfolding digits_in
digits-digits zero v = tt
digits-digits (suc n) v =
    by-test (ltb v 10)
    (λ e. let h = ltb-true v 10 e in rw (e, digits_in) ((omega arith, omega arith), tt))
    (λ e. rw (e, digits_in) (each_append Digit (digits_in n (v / 10)) _ (digits-digits n (v / 10)) ((omega arith, omega arith), tt)))

digit-plain : (b : ℕ) → Digit b → Plain b
unfolding markup quote
digit-plain b h =
    rw (
      ne_eqb b 38 (λ e. omega (arith, e, h.0)),
      ne_eqb b 60 (λ e. omega (arith, e, h.1)),
      ne_eqb b 62 (λ e. omega (arith, e, h.1)),
      ne_eqb b 34 (λ e. omega (arith, e, h.0)),
      ne_eqb b 39 (λ e. omega (arith, e, h.0)),
    )

number-plain : (v : ℕ) → Each Plain (number_text v)
unfolding number_text
number-plain v = each_map Digit Plain digit-plain (digits_in 20 v) (digits-digits 20 v)

-- ---- words

pub each_take : (P : ℕ → Type 0) (n : ℕ) (s : List ℕ) → Each P s → Each P (take n s)
each_take P zero s h = tt
each_take P (suc n) [] h = tt
each_take P (suc n) (b ∷ s) h = (h.0, each_take P n s h.1)

pub each-drop : (P : ℕ → Type 0) (n : ℕ) (s : List ℕ) → Each P s → Each P (drop n s)
each-drop P zero s h = h
each-drop P (suc n) [] h = tt
each-drop P (suc n) (b ∷ s) h = each-drop P n s h.1

pub each_line : (P : ℕ → Type 0) (s : List ℕ) → Each P s → Each P (up_to_lf s)
unfolding up_to_lf
each_line P [] h = tt
each_line P (b ∷ s) h = by-test (eqb b 10) (λ e. rw (e, up_to_lf) tt) (λ e. rw (e, up_to_lf) (h.0, each_line P s h.1))

abbrev all_plain : List ℕ → Bool
all_plain [] = true
all_plain (b ∷ s) = not (markup b) && all_plain s

all-each : (s : List ℕ) → all_plain s ≡ true → Each Plain s
all-each [] e = tt
all-each (b ∷ s) e =
    (not-true (markup b) (and_left (not (markup b)) (all_plain s) e), all-each s (and_right (not (markup b)) (all_plain s) e))

words-told : all_plain words_text ≡ true
unfolding words_text markup quote
words-told = refl

words-plain : (k : ℕ) → Each Plain (first_bytes words_text k)
unfolding first_bytes line_of
words-plain k =
    each_take Plain widest (up_to_lf (drop (line_start k words_text) words_text))
    (each_line Plain (drop (line_start k words_text) words_text) (each-drop Plain (line_start k words_text) words_text (all-each words_text words-told)))

-- ---- bytes of others

seen_plain : (s : List ℕ) → Each Plain (piece_text (seen s))
unfolding piece_text NothingMore more
seen_plain s = nothing-more among.Markup s

-- ---- a page

pub no-other-is-markup : NoOtherIsMarkup
unfolding NoOtherIsMarkup piece_text constants
no-other-is-markup (fixed s) e = absurd (omega (arith, ap length e))
no-other-is-markup (number n) e = number-plain n
no-other-is-markup (seen s) e = seen_plain s
no-other-is-markup (words k) e = words-plain k

only-append : (s t : List ℕ) → only_markup (s ++ t) ≡ only_markup s ++ only_markup t
unfolding only_markup
only-append [] t = refl
only-append (b ∷ s) t = by-test (markup b) (λ e. rw (e, only_markup) (ap (◌∷◌ b) (only-append s t))) (λ e. rw (e, only_markup) (only-append s t))

only_none : (s : List ℕ) → Each Plain s → only_markup s ≡ []
unfolding only_markup
only_none [] h = refl
only_none (b ∷ s) h = rw (h.0, only_markup) (only_none s h.1)

-- a piece without markup adds none
skips : (s t : List ℕ) → Each Plain s → only_markup (s ++ t) ≡ only_markup t
skips s t h = only-append s t ∙ ap (λ (l : List ℕ). l ++ only_markup t) (only_none s h)

pub markup-is-constant : MarkupIsConstant
unfolding MarkupIsConstant page_text constants piece_text
markup-is-constant [] = refl
markup-is-constant (fixed s ∷ ps) =
    only-append (bytes s) (page_text ps)
    ∙ ap (◌++◌ (only_markup (bytes s))) (markup-is-constant ps)
    ∙ sym (only-append (bytes s) (page_text (constants ps)))
markup-is-constant (number n ∷ ps) = skips (number_text n) (page_text ps) (number-plain n) ∙ markup-is-constant ps
markup-is-constant (seen s ∷ ps) = skips (piece_text (seen s)) (page_text ps) (seen_plain s) ∙ markup-is-constant ps
markup-is-constant (words k ∷ ps) = skips (first_bytes words_text k) (page_text ps) (words-plain k) ∙ markup-is-constant ps
