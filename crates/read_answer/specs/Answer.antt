-- What reading an answer answers, as one function of the text, and that no other outcome fits.
use Rattle.std.specs.Prelude.{ℕ, List, ◌≡◌, length, replicate}
use Rattle.model.specs.declared.Answer.{Answer}
use Rattle.model.specs.Empty.{no_answer}
use Rattle.read_spec.specs.Lines.{Lines}
use Rattle.read_spec.specs.Texts.{answer}
use Rattle.read_chain.specs.declared.Place.{Place}
use Rattle.read_chain.specs.Chain.{shortly}
use Rattle.read_chain.specs.Whole.{Whole, whole, beside}
use Rattle.words.specs.Words.{answer_in}

-- the lines of an answer that is not too long
abbrev pub answer_lines : Lines Answer
answer_lines = shortly answer

-- the number of the refusal, or 0, the place, and the answer: none beside a refusal
abbrev pub answer_read : List ℕ → Whole Answer
answer_read s = whole no_answer answer s

-- no other outcome and no other words fit the promise
unfoldable pub NoOtherAnswer : Type 0
NoOtherAnswer = (s : List ℕ) (r q : Place) (ws vs : List ℕ) → length ws ≡ 3073 → length vs ≡ 3073
    → beside r (answer_in ws) ≡ answer_read s → beside q (answer_in vs) ≡ answer_read s → (r ≡ q) × (ws ≡ vs)

-- beside a refusal all words are 0
unfoldable pub NoWordsLeft : Type 0
NoWordsLeft = (s : List ℕ) (r : Place) (ws : List ℕ) → length ws ≡ 3073 → beside r (answer_in ws) ≡ answer_read s → (r.refused ≡ 0 → ⊥) → ws ≡ replicate 3073 0
