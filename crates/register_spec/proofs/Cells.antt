-- What a row's cells are made of: no comma and no line's end, and no first byte that a spreadsheet would work out.
-- Assumes nothing.
use Prim.Native.Nat.{ℕ, zero, suc, ◌/◌, ◌≤◌}
use mathlib.Core.Bool.{true, false, true≢false}
use mathlib.Core.List.{List, [], ◌∷◌}
use mathlib.Core.Path.{◌≡◌, refl}
use native.Mathlib.Omega.{arith}
use lib.Dec.{ltb, eqb}
use borrow.Author.Tests.{ne_eqb, ltb-true}
use Rattle.item_spec.proofs.Tests.{by-test}
use Rattle.item_spec.specs.Write.{digits_in, number_text}
use Rattle.std.specs.Bool.{then_some}
use Rattle.std.specs.declared.option.Option.{Option}
use Rattle.std.specs.declared.option.Option.TheVariants.{Some, None}
use Rattle.model.specs.declared.Concerned.{Concerned}
use Rattle.model.specs.declared.Concerned.TheVariants.{NoPort, UsePort}
use Rattle.sitting_shown.specs.Shown.{separator, markup, quote, formula, cell}
use Rattle.sitting_shown.specs.Readable.{Each, Printable, First, CellsArePrintable, CellsAreWhole, NoFormula}
use Rattle.sitting_shown.proofs.Readable.{each_append, each_map, cells-are-whole, cells-are-printable, no-formula}
use Rattle.outcome_spec.specs.declared.Outcome.{Outcome}
use Rattle.outcome_spec.specs.declared.Outcome.TheVariants.{Done, Unfinished, Refused, Fault, OfPaper}
use Rattle.outcome_spec.specs.Outcome.{outcome_text}
use Rattle.register_spec.specs.declared.Row.{Row}
use Rattle.register_spec.specs.Text.{port_cell, pointed, walked, number_cell, cells_after, unreadable_cells}
use Rattle.register_spec.specs.Claims.{EachCell, NoCellIsWorkedOut}

-- neither a comma nor a line's end
abbrev pub Within : ℕ → Type 0
Within b = (eqb b 44 ≡ false) × (eqb b 10 ≡ false)

abbrev pub Digit : ℕ → Type 0
Digit b = (48 ≤ b) × (b ≤ 57)

-- ---- numbers

pub digits-digits : (n v : ℕ) → Each Digit (digits_in n v)
unfolding digits_in
digits-digits zero v = tt
digits-digits (suc n) v =
    by-test (ltb v 10)
    (λ e. let h = ltb-true v 10 e in rw (e, digits_in) ((omega arith, omega arith), tt))
    (λ e. rw (e, digits_in) (each_append Digit (digits_in n (v / 10)) _ (digits-digits n (v / 10)) ((omega arith, omega arith), tt)))

number-within : (v : ℕ) → Each Within (number_text v)
unfolding number_text
number-within v = each_map Digit Within (λ b h. (ne_eqb b 44 (λ e. omega (arith, e, h.0)), ne_eqb b 10 (λ e. omega (arith, e, h.0)))) (digits_in 20 v) (digits-digits 20 v)

digit-formula : (b : ℕ) → Digit b → formula b ≡ false
unfolding formula separator markup quote
digit-formula b h =
    rw (
      ne_eqb b 61 (λ e. omega (arith, e, h.1)),
      ne_eqb b 43 (λ e. omega (arith, e, h.0)),
      ne_eqb b 45 (λ e. omega (arith, e, h.0)),
      ne_eqb b 64 (λ e. omega (arith, e, h.1)),
      ne_eqb b 44 (λ e. omega (arith, e, h.0)),
      ne_eqb b 59 (λ e. omega (arith, e, h.1)),
      ne_eqb b 38 (λ e. omega (arith, e, h.0)),
      ne_eqb b 60 (λ e. omega (arith, e, h.1)),
      ne_eqb b 62 (λ e. omega (arith, e, h.1)),
      ne_eqb b 34 (λ e. omega (arith, e, h.0)),
      ne_eqb b 39 (λ e. omega (arith, e, h.0)),
    )

first-in : (P Q : ℕ → Type 0) → ((b : ℕ) → P b → Q b) → (s : List ℕ) → Each P s → First Q s
first-in P Q f [] h = tt
first-in P Q f (b ∷ s) h = f b h.0

number-plain : (v : ℕ) → First (λ b. formula b ≡ false) (number_text v)
unfolding number_text
number-plain v = first-in Digit (λ b. formula b ≡ false) digit-formula (digits_in 20 v) (digits-digits 20 v)

-- ---- each cell, of either property

-- what numbers and the outcome's words have, the cells after the name have
module _ (P : List ℕ → Type 0) (none : P []) (number : (v : ℕ) → P (number_text v)) (word : (o : Outcome) → P (outcome_text o)) where
  number-cell : (m : Option ℕ) → P (number_cell m)
  number-cell (Some n) = number n
  number-cell None = none

  port-cell : (q : Concerned) → P (port_cell q)
  port-cell NoPort = none
  port-cell (UsePort q) = number q

  pub each-cell : (r : Row) → EachCell P (cells_after r)
  each-cell r = (
    word r.outcome,
    (
      number r.number,
      (
        port-cell r.port,
        (
          number-cell (then_some (pointed r.outcome) r.line),
          (
            number-cell (then_some (walked r.outcome) r.accepted),
            (
              number-cell (then_some (walked r.outcome) r.next),
              (
                number r.program,
                (
                  number-cell r.mark,
                  tt,
                ),
              ),
            ),
          ),
        ),
      ),
    ),
  )

word-within : (o : Outcome) → Each Within (outcome_text o)
word-within Done = ((refl, refl), ((refl, refl), ((refl, refl), ((refl, refl), tt))))
word-within Unfinished = ((refl, refl), ((refl, refl), ((refl, refl), ((refl, refl), ((refl, refl), ((refl, refl), ((refl, refl), ((refl, refl), ((refl, refl), ((refl, refl), tt))))))))))
word-within Refused = ((refl, refl), ((refl, refl), ((refl, refl), ((refl, refl), ((refl, refl), ((refl, refl), ((refl, refl), tt)))))))
word-within Fault = ((refl, refl), ((refl, refl), ((refl, refl), ((refl, refl), ((refl, refl), tt)))))
word-within OfPaper = ((refl, refl), ((refl, refl), ((refl, refl), ((refl, refl), ((refl, refl), tt)))))

pub cells-within : (r : Row) → EachCell (Each Within) (cells_after r)
cells-within = each-cell (Each Within) tt number-within word-within

pub unreadable-within : EachCell (Each Within) unreadable_cells
unreadable-within = (((refl, refl), ((refl, refl), ((refl, refl), ((refl, refl), ((refl, refl), ((refl, refl), ((refl, refl), ((refl, refl), ((refl, refl), ((refl, refl), tt)))))))))), (tt, (tt, (tt, (tt, (tt, (tt, (tt, tt))))))))

word-plain : (o : Outcome) → First (λ b. formula b ≡ false) (outcome_text o)
unfolding formula separator markup quote
word-plain Done = refl
word-plain Unfinished = refl
word-plain Refused = refl
word-plain Fault = refl
word-plain OfPaper = refl

-- ---- the name

name-part : (s : List ℕ) → Each (λ b. separator b ≡ false) s → Each Printable s → Each Within s
unfolding separator
name-part [] h p = tt
name-part (b ∷ s) h p = (
  (
    by-test (eqb b 44) (λ e. absurd-so (rw e at h.0)) (λ e. e),
    ne_eqb b 10 (λ e. omega (arith, e, p.0.0)),
  ),
  name-part s h.1 p.1,
)
  where
    absurd-so : true ≡ false → eqb b 44 ≡ false
    absurd-so z = absurd (true≢false z)

pub name-within : (name : List ℕ) → Each Within (cell name)
unfolding CellsAreWhole CellsArePrintable
name-within name = name-part (cell name) (cells-are-whole name) (cells-are-printable name)

pub no-cell-is-worked-out : NoCellIsWorkedOut
unfolding NoCellIsWorkedOut NoFormula
no-cell-is-worked-out name r = (no-formula name, each-cell (First (λ b. formula b ≡ false)) tt number-plain word-plain r)
