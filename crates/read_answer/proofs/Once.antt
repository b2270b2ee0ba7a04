-- That no other answer fits the promise of a step line, and no other outcome and no other words that of an answer's text.
-- Assumes nothing.
use Prim.Native.Nat.{ℕ}
use mathlib.Core.Path.{refl, sym, ap, ◌∙◌}
use lib.ListN.{length-replicate}
use Rattle.model.specs.declared.Answer.{Answer}
use Rattle.model.specs.Empty.{no_answer}
use Rattle.read_items.specs.Reads.{past, fault, NoOther}
use Rattle.read_items.proofs.Once.{no_other, refusal_by, refusal-back}
use Rattle.read_spec.specs.Texts.{answer}
use Rattle.read_chain.specs.Whole.{Whole}
use Rattle.read_chain.proofs.Chain.{nothing-beside}
use Rattle.words.proofs.InTexts.{no_answer_is}
use Rattle.words.proofs.Whole.{answer-words}
use Rattle.read_answer.specs.Says.{step_says}
use Rattle.read_answer.specs.Answer.{NoOtherAnswer, NoWordsLeft}
use Rattle.std.specs.declared.result.Result.TheVariants.{Ok, Err}

pub step-once : NoOther step_says
step-once =
    no_other step_says
    (elim [ past x n ↦ Ok (record { verb = x.verb; id = x.id; number = x.number }, n) | fault k ↦ Err (refusal_by k) ])
    (elim [ Ok (x, n) ↦ refl | Err r ↦ ap Err (refusal-back r) ])

pub answer-once : NoOtherAnswer
unfolding NoOtherAnswer
answer-once s r q ws vs a b e f =
    let g = e ∙ sym f in
    (ap (λ (x : Whole Answer). record { refused = x.refused; place = x.place }) g, answer-words ws vs a b (ap (λ (x : Whole Answer). x.value) g))

pub no-words-left : NoWordsLeft
unfolding NoWordsLeft
no-words-left s r ws a e n =
    answer-words ws _ a (length-replicate {A = ℕ} 3073 0)
    (ap (λ (x : Whole Answer). x.value) e ∙ nothing-beside no_answer answer s (λ z. n (ap (λ (x : Whole Answer). x.refused) e ∙ z)) ∙ sym no_answer_is)
