-- What reading a start answers, as one function of the sheet's first number, the depth, the tables and the text, and that no other outcome fits.
use Rattle.std.specs.Prelude.{ℕ, ◌-◌, ◌<◌, ◌^◌, min, List, true, false, ◌≡◌, length, replicate}
use Rattle.item_spec.specs.Refusal.{too_long}
use Rattle.model.specs.declared.Tables.{Tables}
use Rattle.model.specs.declared.Begun.{Begun}
use Rattle.model.specs.declared.Configuration.{Configuration}
use Rattle.model.specs.Empty.{start, none_begun}
use Rattle.read_spec.specs.Lines.{Run, on, stop, Lines, run_on}
use Rattle.rules_spec.specs.PushB.{depth_of}
use Rattle.start_spec.specs.Text.{start_length_ok, Outset, start_lines}
use Rattle.start_spec.specs.Served.{unserved_at_start, some_unserved}
use Rattle.read_chain.specs.declared.Place.{Place}
use Rattle.read_chain.specs.Whole.{Whole, beside}
use Rattle.words.specs.Rows.{word}
use Rattle.words.specs.Words.{begun_in, state_in}

-- what a queue may hold: the depth, and no more than the eight slots of an instance. The depth of a sheet that is read is at most eight.
unfoldable pub queue_room : ℕ → Tables → ℕ
queue_room default t = min (depth_of default t) 8

-- the lines of a start that is not too long
unfoldable pub short_start : Lines (Unit {0})
short_start s = elim (start_length_ok (length s)) [ true ↦ on tt s | false ↦ stop too_long s ]

unfoldable pub start_run : ℕ → ℕ → Tables → Lines Outset
start_run e d t s = run_on (short_start s) (λ _. start_lines e d t)

-- what had been pushed, with these queues
abbrev pub with_begun_queue : Begun → List ℕ → Begun
with_begun_queue b q = record { queue = q; last = b.last }

-- the configuration, and what had been pushed: its queues, and the last tickets
abbrev pub shown : Outset → Configuration × Begun
shown x = (x.0, record { queue = x.0.queue; last = x.1 })

-- the number of the refusal, or 0, the place, and where the paper starts: nothing up and nothing pushed beside a refusal
abbrev pub came_to : Tables → List ℕ → Run Outset → Whole (Configuration × Begun)
came_to t s (on x r) =
    elim (some_unserved t x.0) [
      | true ↦ record { refused = unserved_at_start; place = 0; value = (start, none_begun) }
      | false ↦ record { refused = 0; place = length s - length r; value = shown x }
    ]
came_to t s (stop k r) = record { refused = k; place = length s - length r; value = (start, none_begun) }

unfoldable pub start_read : ℕ → ℕ → Tables → List ℕ → Whole (Configuration × Begun)
start_read e d t s = came_to t s (start_run e d t s)

-- so many words of a state, the first of 32 bits, and so many of what had been pushed
pub record Sized (ws bs : List ℕ) : Type 0 where
  pub state : length ws ≡ 930
  pub first : word ws 0 < 2 ^ 32
  pub begun : length bs ≡ 288

-- no other outcome and no other words fit what `fill_start` promises, w
unfoldable pub NoOtherStart : Type 0
NoOtherStart =
    (w : Whole (Configuration × Begun)) (r q : Place) (ws vs bs cs : List ℕ)
    → Sized ws bs
    → Sized vs cs
    → beside r (state_in ws, begun_in bs) ≡ w
    → beside q (state_in vs, begun_in cs) ≡ w
    → (r ≡ q) × (ws ≡ vs) × (bs ≡ cs)

-- beside a refusal all words are 0
unfoldable pub NoStateLeft : Type 0
NoStateLeft =
    (e d : ℕ) (t : Tables) (s : List ℕ) (r : Place) (ws bs : List ℕ)
    → Sized ws bs
    → beside r (state_in ws, begun_in bs) ≡ start_read e d t s
    → (r.refused ≡ 0 → ⊥)
    → (ws ≡ replicate 930 0) × (bs ≡ replicate 288 0)
