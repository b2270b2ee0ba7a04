-- That no other outcome and no other words fit the promise of a start, and that beside a refusal the words are all 0.
-- Assumes nothing.
use Prim.Native.Nat.{ℕ, ◌+◌, ◌-◌, ◌*◌, ◌≤◌, ◌<◌}
use mathlib.Core.List.{List}
use mathlib.Core.Path.{◌≡◌, refl, sym, ap, ◌∙◌}
use mathlib.Core.Logic.{by_cases}
use native.Mathlib.Omega.{arith}
use native.Mathlib.Decide.{dec_lt}
use lib.ListN.{length, get_or, length-replicate}
use lib.Seq.{ext_get_or}
use borrow.Author.Tests.{lt-ltb}
use Rattle.item_spec.proofs.Tests.{by-test}
use Rattle.model.specs.declared.Tables.{Tables}
use Rattle.model.specs.declared.Begun.{Begun}
use Rattle.model.specs.declared.Configuration.{Configuration}
use Rattle.model.specs.Empty.{start, none_begun}
use Rattle.model.specs.View.{list_of}
use Rattle.read_spec.specs.Lines.{Run, on, stop}
use Rattle.read_chain.specs.Whole.{Whole}
use Rattle.words.specs.Rows.{word}
use Rattle.words.specs.Words.{begun_in}
use Rattle.words.proofs.InState.{start-in}
use Rattle.words.proofs.InTexts.{begun-slot-at, begun-last-at, none-begun}
use Rattle.words.proofs.Whole.{state-words}
use Rattle.start_spec.specs.Text.{Outset}
use Rattle.start_spec.specs.Served.{some_unserved}
use Rattle.read_start.specs.Start.{start_run, came_to, start_read, NoOtherStart, NoStateLeft}

-- every word of what had been pushed is told
begun-words : (bs cs : List ℕ) → length bs ≡ 288 → length cs ≡ 288 → begun_in bs ≡ begun_in cs → bs ≡ cs
unfolding list_of
begun-words bs cs a b e = ext_get_or 0 bs cs (a ∙ sym b) (λ m h. by_cases (dec_lt m 256) (slot m) (λ l. last m (omega arith) (omega (arith, a))))
  where
    in-slot : (ws : List ℕ) (m : ℕ) → m < 256 → get_or (begun_in ws).queue m 0 ≡ word ws m
    in-slot ws m h = begun-slot-at ws m ∙ rw (lt-ltb m 256 h) (ap (word ws) (let q : 0 + m * 1 + 0 ≡ m = omega arith in q))

    slot : (m : ℕ) → m < 256 → word bs m ≡ word cs m
    slot m h = sym (in-slot bs m h) ∙ ap (λ (x : Begun). get_or x.queue m 0) e ∙ in-slot cs m h

    in-last : (ws : List ℕ) (m : ℕ) → m < 32 → get_or (begun_in ws).last m 0 ≡ word ws (256 + m)
    in-last ws m h = begun-last-at ws m ∙ rw (lt-ltb m 32 h) (ap (word ws) (let q : 256 + m * 1 + 0 ≡ 256 + m = omega arith in q))

    last : (m : ℕ) → 256 ≤ m → m < 288 → word bs m ≡ word cs m
    last m l h =
        let q : 256 + (m - 256) ≡ m = omega arith in
        rw (← q) (sym (in-last bs (m - 256) (omega arith)) ∙ ap (λ (x : Begun). get_or x.last (m - 256) 0) e ∙ in-last cs (m - 256) (omega arith))

pub start-once : NoOtherStart
unfolding NoOtherStart
start-once w r q ws vs bs cs g h e f =
    let same = e ∙ sym f in (
      ap (λ (x : Whole (Configuration × Begun)). record { refused = x.refused; place = x.place }) same,
      state-words ws vs g.state h.state g.first h.first (ap (λ (x : Whole (Configuration × Begun)). x.value.0) same),
      begun-words bs cs g.begun h.begun (ap (λ (x : Whole (Configuration × Begun)). x.value.1) same),
    )

came-empty : (t : Tables) (s : List ℕ) (z : Run Outset) → ((came_to t s z).refused ≡ 0 → ⊥) → (came_to t s z).value ≡ (start, none_begun)
came-empty t s (on x r) n = by-test (some_unserved t x.0) (λ e. rw (e, came_to) refl) (λ e. absurd (n (rw (e, came_to) refl)))
came-empty t s (stop k r) n = refl

pub no-state-left : NoStateLeft
unfolding NoStateLeft start_read
no-state-left e d t s r ws bs fits is n =
    let empty = ap (λ (x : Whole (Configuration × Begun)). x.value) is ∙ came-empty t s (start_run e d t s) (λ z. n (ap (λ (x : Whole (Configuration × Begun)). x.refused) is ∙ z)) in (
      state-words ws _ fits.state (length-replicate {A = ℕ} 930 0) fits.first (omega arith) (ap (λ (x : Configuration × Begun). x.0) empty ∙ sym start-in),
      begun-words bs _ fits.begun (length-replicate {A = ℕ} 288 0) (ap (λ (x : Configuration × Begun). x.1) empty ∙ sym (none-begun 288)),
    )
