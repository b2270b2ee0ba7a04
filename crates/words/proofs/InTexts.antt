-- A row of the program or of the answer put is one instruction or step, and words that are all 0 say none.
-- Assumes nothing.
use mathlib.Core.Path.{◌≡◌, refl}
use mathlib.Core.Logic.{inl, inr}
use mathlib.Core.List.{List, [], ◌∷◌}
use Prim.Native.Nat.{ℕ}
use native.Mathlib.Omega.{arith}
use lib.ListN.{length, set, get_or, replicate}
use lib.Seq.{get_or-set_same, get_or-set_other}
use Rattle.model.specs.declared.Instruction.{Instruction}
use Rattle.model.specs.declared.Step.{Step}
use Rattle.model.specs.Empty.{none_begun, no_instruction, no_step, no_program, no_answer}
use Rattle.model.specs.View.{list_of}
use Rattle.read_spec.specs.Fill.{with_instruction, with_step}
use Rattle.words.specs.Rows.{word, row_at, puts, puts_in}
use Rattle.words.specs.Words.{instruction_in, program_in, begun_in, program_from, step_in, answer_in}
use Rattle.words.specs.Parts.{instruction_of, step_of, with_instructions, with_edition, with_begun_slot, with_last, with_steps}
use Rattle.areas.proofs.Areas.{no_word}
use Rattle.words.proofs.Rows.{in-far, rows-put, rows-far, rows_same, rows_at, rows_none}

module _ (ws : List ℕ) (n : ℕ) where
  pub step-at : (get : Step → ℕ) → get (step_in n []) ≡ get no_step → get (get_or (answer_in ws).steps n no_step) ≡ get (step_in n (row_at ws 0 1024 3 n))
  unfolding answer_in
  step-at get e = rows_at step_in 0 1024 3 no_step get ws n e

  pub step-put : (a b d : ℕ) → length ws ≡ 3073 → answer_in (puts_in ws 0 1024 3 n 0 (a ∷ b ∷ d ∷ [])) ≡ with_step (answer_in ws) n (step_of a b d)
  unfolding answer_in with_step puts list_of
  step-put a b d full i = record {
    steps = rows-put step_in 0 1024 3 no_step ws (a ∷ b ∷ d ∷ []) n 0 (omega arith) (omega arith) i;
    count = in-far ws (a ∷ b ∷ d ∷ []) 0 1024 3 n 0 (omega arith) 3072 (inr (omega arith)) i;
  }

  pub instruction-at : (get : Instruction → ℕ) → get (instruction_in n []) ≡ get no_instruction
      → get (get_or (program_in ws).instructions n no_instruction) ≡ get (instruction_in n (row_at ws 0 256 5 n))
  unfolding program_in
  instruction-at get e = rows_at instruction_in 0 256 5 no_instruction get ws n e

  pub instruction-put : (a b d e f : ℕ) → length ws ≡ 1282
      → program_in (puts_in ws 0 256 5 n 0 (a ∷ b ∷ d ∷ e ∷ f ∷ [])) ≡ with_instruction (program_in ws) n (instruction_of a b d e f)
  unfolding program_in with_instruction puts list_of
  instruction-put a b d e f full i = record {
    instructions = rows-put instruction_in 0 256 5 no_instruction ws (a ∷ b ∷ d ∷ e ∷ f ∷ []) n 0 (omega arith) (omega arith) i;
    count = in-far ws (a ∷ b ∷ d ∷ e ∷ f ∷ []) 0 256 5 n 0 (omega arith) 1280 (inr (omega arith)) i;
    begun = none_begun;
    edition = in-far ws (a ∷ b ∷ d ∷ e ∷ f ∷ []) 0 256 5 n 0 (omega arith) 1281 (inr (omega arith)) i;
  }

pub no_answer_is : answer_in (replicate 3073 0) ≡ no_answer
unfolding answer_in no_answer
no_answer_is i = record { steps = rows_none step_in no_step 0 1024 3 3073 (λ k. refl) i; count = no_word 3073 3072 i }

pub answer-count : (ws : List ℕ) (n : ℕ) → length ws ≡ 3073 → answer_in (set ws 3072 n) ≡ with_steps (answer_in ws) n
unfolding answer_in
answer-count ws n full i = record {
  steps = rows_same step_in 0 1024 3 ws (set ws 3072 n) (λ m l h. get_or-set_other ws 3072 m n 0 (λ z. omega arith)) i;
  count = get_or-set_same ws 3072 n 0 (omega arith) i;
}

pub no_program_is : program_in (replicate 1282 0) ≡ no_program
unfolding program_in no_program
no_program_is i = record { begun = none_begun; instructions = rows_none instruction_in no_instruction 0 256 5 1282 (λ k. refl) i; count = no_word 1282 1280 i; edition = no_word 1282 1281 i }

pub program-count : (ws : List ℕ) (n : ℕ) → length ws ≡ 1282 → program_in (set ws 1280 n) ≡ with_instructions (program_in ws) n
unfolding program_in
program-count ws n full i = record {
  instructions = rows_same instruction_in 0 256 5 ws (set ws 1280 n) (λ m l h. get_or-set_other ws 1280 m n 0 (λ z. omega arith)) i;
  count = get_or-set_same ws 1280 n 0 (omega arith) i;
  begun = none_begun;
  edition = get_or-set_other ws 1280 1281 n 0 (λ z. omega arith) i;
}

pub program-edition : (ws : List ℕ) (n : ℕ) → length ws ≡ 1282 → program_in (set ws 1281 n) ≡ with_edition (program_in ws) n
unfolding program_in
program-edition ws n full i = record {
  instructions = rows_same instruction_in 0 256 5 ws (set ws 1281 n) (λ m l h. get_or-set_other ws 1281 m n 0 (λ z. omega arith)) i;
  count = get_or-set_other ws 1281 1280 n 0 (λ z. omega arith) i;
  begun = none_begun;
  edition = get_or-set_same ws 1281 n 0 (omega arith) i;
}

-- ---- what had been pushed before

pub begun-slot-at : (ws : List ℕ) (n : ℕ) → get_or (begun_in ws).queue n 0 ≡ word (row_at ws 0 256 1 n) 0
unfolding begun_in
begun-slot-at ws n = rows_at (λ k r. word r 0) 0 256 1 0 (λ (x : ℕ). x) ws n refl

pub begun-last-at : (ws : List ℕ) (n : ℕ) → get_or (begun_in ws).last n 0 ≡ word (row_at ws 256 32 1 n) 0
unfolding begun_in
begun-last-at ws n = rows_at (λ k r. word r 0) 256 32 1 0 (λ (x : ℕ). x) ws n refl

pub begun-slot-put : (ws : List ℕ) (n x : ℕ) → length ws ≡ 288 → begun_in (puts_in ws 0 256 1 n 0 (x ∷ [])) ≡ with_begun_slot (begun_in ws) n x
unfolding begun_in puts list_of
begun-slot-put ws n x full j = record {
  queue = rows-put (λ k r. word r 0) 0 256 1 0 ws (x ∷ []) n 0 (omega arith) (omega arith) j;
  last = rows-far (λ k r. word r 0) 256 32 1 ws (x ∷ []) 0 256 1 n 0 (omega arith) (inr (omega arith)) j;
}

pub begun-last-put : (ws : List ℕ) (n x : ℕ) → length ws ≡ 288 → begun_in (puts_in ws 256 32 1 n 0 (x ∷ [])) ≡ with_last (begun_in ws) n x
unfolding begun_in puts list_of
begun-last-put ws n x full j = record {
  queue = rows-far (λ k r. word r 0) 0 256 1 ws (x ∷ []) 256 32 1 n 0 (omega arith) (inl (omega arith)) j;
  last = rows-put (λ k r. word r 0) 256 32 1 0 ws (x ∷ []) n 0 (omega arith) (omega arith) j;
}

pub none-begun : (m : ℕ) → begun_in (replicate m 0) ≡ none_begun
unfolding begun_in none_begun
none-begun m j = record { queue = rows_none (λ k r. word r 0) 0 0 256 1 m (λ k. refl) j; last = rows_none (λ k r. word r 0) 0 256 32 1 m (λ k. refl) j }

-- where nothing had been, it is the program alone
pub from-none : (ws : List ℕ) (m : ℕ) → program_from ws (replicate m 0) ≡ program_in ws
unfolding program_in
from-none ws m j = record { edition = (program_in ws).edition; begun = none-begun m j; instructions = (program_in ws).instructions; count = (program_in ws).count }
