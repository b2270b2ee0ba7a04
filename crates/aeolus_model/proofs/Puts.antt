-- One word put into its area changes what the words say in one field of one row; words that are all 0 say nothing.
-- Assumes nothing.
use mathlib.Core.Path.{◌≡◌, sym, ap, ◌∙◌}
use mathlib.Core.Logic.{inl, inr, by_cases}
use mathlib.Core.Bool.{cond}
use mathlib.Core.List.{List}
use Prim.Native.Nat.{ℕ, ◌+◌, ◌*◌, ◌≤◌, ◌<◌}
use native.Mathlib.Omega.{arith}
use native.Mathlib.Decide.{dec_lt}
use lib.Dec.{eqb}
use lib.ListN.{length, set, replicate}
use lib.Seq.{set-set}
use borrow.Author.Tests.{le-ltb}
use Rattle.areas.specs.Area.{put_in, cell, rows}
use Rattle.areas.proofs.Areas.{length-put-in, put_same, word-beside, area-beside, area-put, row-at, row_put, cell-put, rows-beside, list-out, no_word, no_words, no_rows}
use Rattle.aeolus_model.specs.declared.Step.{Step}
use Rattle.aeolus_model.specs.Model.{no_universe, nothing, type_of, with_type, with_count, with_states, with_initial, with_interfaces, with_provides, with_requires, with_name, with_to, with_number, number_place, with_present, with_kind, with_state, with_bound}
use Rattle.aeolus_model.specs.Action.{no_step, no_plan, step_of, with_step, with_steps}
use Rattle.aeolus_model.specs.Words.{type_from, universe_in, step_from, plan_in, configuration_in}

-- ---- a universe

-- the fields of a type are its words
pub type_at : (ws : List ℕ) (k : ℕ) → type_of (universe_in ws) k ≡ type_from (cell ws 0 16 k)
unfolding universe_in
type_at ws k = row-at ws 0 16 type_from k

type-only : (φ ψ : ℕ → ℕ) → ((f : ℕ) → f < 5 → φ f ≡ ψ f) → type_from φ ≡ type_from ψ
type-only φ ψ e = rw (e 0 (omega arith), e 1 (omega arith), e 2 (omega arith), e 3 (omega arith), e 4 (omega arith))

module _ (ws : List ℕ) (full : length ws ≡ 12881) where
  -- one field of a type
  type_put : (c k x : ℕ) → c < 5 → universe_in (put_in ws (0 + c * 16) 16 k x) ≡ with_type (universe_in ws) k (type_from (λ f. cond (eqb f c) x (cell ws 0 16 k f)))
  unfolding universe_in
  type_put c k x few i = record {
    count = word-beside ws (0 + c * 16) 16 k x 12880 (inr (omega arith)) i;
    types = row_put ws 0 16 type_from c k x (omega arith) i;
    names = area-beside ws (0 + c * 16) 16 k x 80 256 (inr (omega arith)) i;
    to = area-beside ws (0 + c * 16) 16 k x 336 256 (inr (omega arith)) i;
    numbers = area-beside ws (0 + c * 16) 16 k x 592 12288 (inr (omega arith)) i;
  }

  pub states-put : (k x : ℕ) → universe_in (put_in ws 0 16 k x) ≡ with_states (universe_in ws) k x
  unfolding with_states
  states-put k x = type_put 0 k x (omega arith) ∙ ap (with_type (universe_in ws) k) (rw (type_at ws k))

  pub initial-put : (k x : ℕ) → universe_in (put_in ws 16 16 k x) ≡ with_initial (universe_in ws) k x
  unfolding with_initial
  initial-put k x = type_put 1 k x (omega arith) ∙ ap (with_type (universe_in ws) k) (rw (type_at ws k))

  pub interfaces-put : (k x : ℕ) → universe_in (put_in ws 32 16 k x) ≡ with_interfaces (universe_in ws) k x
  unfolding with_interfaces
  interfaces-put k x = type_put 2 k x (omega arith) ∙ ap (with_type (universe_in ws) k) (rw (type_at ws k))

  pub provides-put : (k x : ℕ) → universe_in (put_in ws 48 16 k x) ≡ with_provides (universe_in ws) k x
  unfolding with_provides
  provides-put k x = type_put 3 k x (omega arith) ∙ ap (with_type (universe_in ws) k) (rw (type_at ws k))

  pub requires-put : (k x : ℕ) → universe_in (put_in ws 64 16 k x) ≡ with_requires (universe_in ws) k x
  unfolding with_requires
  requires-put k x = type_put 4 k x (omega arith) ∙ ap (with_type (universe_in ws) k) (rw (type_at ws k))

  -- what stands after the types: so many words from b on
  types-beside : (b n k x : ℕ) → 80 ≤ b → rows (put_in ws b n k x) 0 16 type_from ≡ rows ws 0 16 type_from
  types-beside b n k x h = rows-beside ws 0 16 type_from 5 b n k x (inr (omega arith)) type-only

  pub name-put : (k j x : ℕ) → universe_in (put_in ws 80 256 (k * 16 + j) x) ≡ with_name (universe_in ws) k j x
  unfolding universe_in with_name
  name-put k j x i = record {
    count = word-beside ws 80 256 (k * 16 + j) x 12880 (inr (omega arith)) i;
    types = types-beside 80 256 (k * 16 + j) x (omega arith) i;
    names = area-put ws 80 256 (k * 16 + j) x (omega arith) i;
    to = area-beside ws 80 256 (k * 16 + j) x 336 256 (inr (omega arith)) i;
    numbers = area-beside ws 80 256 (k * 16 + j) x 592 12288 (inr (omega arith)) i;
  }

  pub to-put : (k q x : ℕ) → universe_in (put_in ws 336 256 (k * 16 + q) x) ≡ with_to (universe_in ws) k q x
  unfolding universe_in with_to
  to-put k q x i = record {
    count = word-beside ws 336 256 (k * 16 + q) x 12880 (inr (omega arith)) i;
    types = types-beside 336 256 (k * 16 + q) x (omega arith) i;
    names = area-beside ws 336 256 (k * 16 + q) x 80 256 (inl (omega arith)) i;
    to = area-put ws 336 256 (k * 16 + q) x (omega arith) i;
    numbers = area-beside ws 336 256 (k * 16 + q) x 592 12288 (inr (omega arith)) i;
  }

  pub number_put : (k q m j x : ℕ) → universe_in (put_in ws 592 12288 (number_place k q m j) x) ≡ with_number (universe_in ws) k q m j x
  unfolding universe_in with_number
  number_put k q m j x i = record {
    count = word-beside ws 592 12288 (number_place k q m j) x 12880 (inr (omega arith)) i;
    types = types-beside 592 12288 (number_place k q m j) x (omega arith) i;
    names = area-beside ws 592 12288 (number_place k q m j) x 80 256 (inl (omega arith)) i;
    to = area-beside ws 592 12288 (number_place k q m j) x 336 256 (inl (omega arith)) i;
    numbers = area-put ws 592 12288 (number_place k q m j) x (omega arith) i;
  }

  pub count-put : (x : ℕ) → universe_in (set ws 12880 x) ≡ with_count (universe_in ws) x
  unfolding universe_in with_count
  count-put x i = record {
    count = put_same ws 12880 1 0 x (omega arith) (omega arith) i;
    types = types-beside 12880 1 0 x (omega arith) i;
    names = area-beside ws 12880 1 0 x 80 256 (inl (omega arith)) i;
    to = area-beside ws 12880 1 0 x 336 256 (inl (omega arith)) i;
    numbers = area-beside ws 12880 1 0 x 592 12288 (inl (omega arith)) i;
  }

pub universe-none : universe_in (replicate 12881 0) ≡ no_universe
unfolding universe_in no_universe
universe-none i = record {
  count = no_word 12881 12880 i;
  types = no_rows 12881 0 16 type_from i;
  names = no_words 12881 80 256 i;
  to = no_words 12881 336 256 i;
  numbers = no_words 12881 592 12288 i;
}

-- ---- a plan

pub step_in : (ws : List ℕ) (n : ℕ) → step_of (plan_in ws) n ≡ step_from (cell ws 0 1024 n)
unfolding plan_in
step_in ws n = row-at ws 0 1024 step_from n

module _ (ws : List ℕ) (full : length ws ≡ 4097) where
  pub steps-put : (x : ℕ) → plan_in (set ws 4096 x) ≡ with_steps (plan_in ws) x
  unfolding plan_in with_steps
  steps-put x i = record {
    steps = rows-beside ws 0 1024 step_from 4 4096 1 0 x (inr (omega arith)) step-only i;
    count = put_same ws 4096 1 0 x (omega arith) (omega arith) i;
  }
    where
      step-only : (φ ψ : ℕ → ℕ) → ((f : ℕ) → f < 4 → φ f ≡ ψ f) → step_from φ ≡ step_from ψ
      step-only φ ψ e = rw (e 0 (omega arith), e 1 (omega arith), e 2 (omega arith), e 3 (omega arith))

  -- the four words of a step, one after the other
  module _ (n : ℕ) (s : Step) where
    abbrev w1 : List ℕ
    w1 = put_in ws 0 1024 n s.verb

    abbrev w2 : List ℕ
    w2 = put_in w1 1024 1024 n s.first

    abbrev w3 : List ℕ
    w3 = put_in w2 2048 1024 n s.second

    abbrev w4 : List ℕ
    w4 = put_in w3 3072 1024 n s.third

    l1 : length w1 ≡ 4097
    l1 = length-put-in ws 0 1024 n s.verb ∙ full

    l2 : length w2 ≡ 4097
    l2 = length-put-in w1 1024 1024 n s.first ∙ l1

    l3 : length w3 ≡ 4097
    l3 = length-put-in w2 2048 1024 n s.second ∙ l2

    own : (f : ℕ) → n < 1024
        → cell w3 0 1024 n f ≡ cond (eqb f 2) s.second (cond (eqb f 1) s.first (cond (eqb f 0) s.verb (cell ws 0 1024 n f)))
    own f h =
        cell-put w2 0 1024 step_from 2 n s.second (omega (arith, l2)) f h
        ∙ ap (cond (eqb f 2) s.second) (cell-put w1 0 1024 step_from 1 n s.first (omega (arith, l1)) f h
        ∙ ap (cond (eqb f 1) s.first) (cell-put ws 0 1024 step_from 0 n s.verb (omega (arith, full)) f h))

    row : n < 1024 → step_from (λ f. cond (eqb f 3) s.third (cell w3 0 1024 n f)) ≡ s
    row h i = record { verb = own 0 h i; first = own 1 h i; second = own 2 h i; third = s.third }

    steps-same : rows w4 0 1024 step_from ≡ set (rows ws 0 1024 step_from) n s
    steps-same =
        by_cases (dec_lt n 1024)
        (λ h.
        row_put w3 0 1024 step_from 3 n s.third (omega (arith, l3)) ∙ ap (set (rows w3 0 1024 step_from) n) (row h)
        ∙ ap (λ (ss : List Step). set ss n s) (row_put w2 0 1024 step_from 2 n s.second (omega (arith, l2)))
        ∙ set-set (rows w2 0 1024 step_from) n (step_from (λ f. cond (eqb f 2) s.second (cell w2 0 1024 n f))) s
        ∙ ap (λ (ss : List Step). set ss n s) (row_put w1 0 1024 step_from 1 n s.first (omega (arith, l1)))
        ∙ set-set (rows w1 0 1024 step_from) n (step_from (λ f. cond (eqb f 1) s.first (cell w1 0 1024 n f))) s
        ∙ ap (λ (ss : List Step). set ss n s) (row_put ws 0 1024 step_from 0 n s.verb (omega (arith, full)))
        ∙ set-set (rows ws 0 1024 step_from) n (step_from (λ f. cond (eqb f 0) s.verb (cell ws 0 1024 n f))) s)
        (λ h. let m : 1024 ≤ n = omega arith in rw (le-ltb n 1024 m) (sym (list-out 1024 _ no_step n s m)))

    pub step-put : plan_in w4 ≡ with_step (plan_in ws) n s
    unfolding plan_in with_step
    step-put i = record {
      steps = steps-same i;
      count = (word-beside w3 3072 1024 n s.third 4096 (inr (omega arith)) ∙ word-beside w2 2048 1024 n s.second 4096 (inr (omega arith))
          ∙ word-beside w1 1024 1024 n s.first 4096 (inr (omega arith)) ∙ word-beside ws 0 1024 n s.verb 4096 (inr (omega arith))) i;
    }

pub plan-none : plan_in (replicate 4097 0) ≡ no_plan
unfolding plan_in no_plan
plan-none i = record { steps = no_rows 4097 0 1024 step_from i; count = no_word 4097 4096 i }

-- ---- a configuration

module _ (ws : List ℕ) (full : length ws ≡ 577) where
  pub present-put : (x : ℕ) → configuration_in (set ws 576 x) ≡ with_present (configuration_in ws) x
  unfolding configuration_in with_present
  present-put x i = record {
    present = put_same ws 576 1 0 x (omega arith) (omega arith) i;
    kinds = area-beside ws 576 1 0 x 0 32 (inl (omega arith)) i;
    states = area-beside ws 576 1 0 x 32 32 (inl (omega arith)) i;
    bound = area-beside ws 576 1 0 x 64 512 (inl (omega arith)) i;
  }

  pub kind-put : (z x : ℕ) → configuration_in (put_in ws 0 32 z x) ≡ with_kind (configuration_in ws) z x
  unfolding configuration_in with_kind
  kind-put z x i = record {
    present = word-beside ws 0 32 z x 576 (inr (omega arith)) i;
    kinds = area-put ws 0 32 z x (omega arith) i;
    states = area-beside ws 0 32 z x 32 32 (inr (omega arith)) i;
    bound = area-beside ws 0 32 z x 64 512 (inr (omega arith)) i;
  }

  pub state-put : (z x : ℕ) → configuration_in (put_in ws 32 32 z x) ≡ with_state (configuration_in ws) z x
  unfolding configuration_in with_state
  state-put z x i = record {
    present = word-beside ws 32 32 z x 576 (inr (omega arith)) i;
    kinds = area-beside ws 32 32 z x 0 32 (inl (omega arith)) i;
    states = area-put ws 32 32 z x (omega arith) i;
    bound = area-beside ws 32 32 z x 64 512 (inr (omega arith)) i;
  }

  pub bound-put : (n x : ℕ) → configuration_in (put_in ws 64 512 n x) ≡ with_bound (configuration_in ws) n x
  unfolding configuration_in with_bound
  bound-put n x i = record {
    present = word-beside ws 64 512 n x 576 (inr (omega arith)) i;
    kinds = area-beside ws 64 512 n x 0 32 (inl (omega arith)) i;
    states = area-beside ws 64 512 n x 32 32 (inl (omega arith)) i;
    bound = area-put ws 64 512 n x (omega arith) i;
  }

pub configuration-none : configuration_in (replicate 577 0) ≡ nothing
unfolding configuration_in nothing
configuration-none i = record { present = no_word 577 576 i; kinds = no_words 577 0 32 i; states = no_words 577 32 32 i; bound = no_words 577 64 512 i }
