-- What reading a whole text answers, as one function of it: the number of the refusal, or 0, the place, and the value.
use Rattle.std.specs.Prelude.{ℕ, ◌-◌, List, true, false, length, ◌≡◌}
use Rattle.read_spec.specs.Limits.{length_ok}
use Rattle.read_spec.specs.Lines.{Run, Lines, on, stop}
use Rattle.item_spec.specs.Refusal.{number_of}
use Rattle.item_spec.specs.declared.Refusal.{Refusal}
use Rattle.read_lines.specs.declared.LineFault.{LineFault}
use Rattle.std.specs.declared.result.Result.{Result}
use Rattle.std.specs.declared.result.Result.TheVariants.{Ok, Err}
use Rattle.read_chain.specs.declared.Place.{Place}

pub record Whole (A : Type 0) : Type 0 where
  pub refused : ℕ
  pub place : ℕ
  pub value : A

-- the place is where the rest starts: the line at fault, or the text's end; beside a refusal nothing is handed out
abbrev pub outcome : {A : Type 0} → A → List ℕ → Run A → Whole A
outcome none s (on a r) = record { refused = 0; place = length s - length r; value = a }
outcome none s (stop k r) = record { refused = k; place = length s - length r; value = none }

-- "a text is too long": 1, at its start; then the lines
unfoldable pub whole : {A : Type 0} → A → Lines A → List ℕ → Whole A
whole none m s = elim (length_ok (length s)) [ true ↦ outcome none s (m s) | false ↦ record { refused = 1; place = 0; value = none } ]

-- what r says beside a value
abbrev pub beside : {A : Type 0} → Place → A → Whole A
beside r a = record { refused = r.refused; place = r.place; value = a }

-- the number and the place of a reading
abbrev pub place_of : Result ℕ (LineFault Refusal) → Place
place_of (Ok at) = record { refused = 0; place = at }
place_of (Err f) = record { refused = number_of f.refusal; place = f.at }

-- the same where c tells a number of each refusal that may be meant
abbrev pub PlaceOf : {R : Type 0} → (R → ℕ → Type 0) → Result ℕ (LineFault R) → Place → Type 0
PlaceOf c (Ok at) p = p ≡ record { refused = 0; place = at }
PlaceOf c (Err f) p = c f.refusal p.refused × (p.place ≡ f.at)

-- the value a of a reading: nothing of it beside a refusal
abbrev pub kept : {A : Type 0} → A → Result ℕ (LineFault Refusal) → A → A
kept none (Ok at) a = a
kept none (Err f) a = none
