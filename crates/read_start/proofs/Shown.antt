-- The slots of what was pushed, as far as they were shown.
-- Assumes nothing.
use mathlib.Core.List.{List}
use mathlib.Core.Path.{◌≡◌, refl, sym, ap, ◌∙◌}
use mathlib.Core.Logic.{by_cases}
use Prim.Native.Nat.{ℕ, ◌+◌, ◌≤◌, ◌<◌}
use native.Mathlib.Omega.{arith}
use native.Mathlib.Decide.{ℕ_discrete}
use lib.ListN.{length, get_or, set, length-set}
use lib.Seq.{ext_get_or, get_or-set_same, get_or-set_other}
use Rattle.model.specs.declared.Begun.{Begun}
use Rattle.model.proofs.View.{length-list}
use Rattle.words.specs.Words.{begun_in, state_in}

-- the slots up to n are those of the state
pub record Shown (state old now : List ℕ) (n : ℕ) : Type 0 where
  pub many : n ≤ 256
  pub wide : length (begun_in now).queue ≡ 256
  pub same : (r : ℕ) → r < n → get_or (begun_in now).queue r 0 ≡ get_or (state_in state).queue r 0
  pub last : (begun_in now).last ≡ (begun_in old).last

wide-begun : (ws : List ℕ) → length (begun_in ws).queue ≡ 256
unfolding begun_in
wide-begun ws = length-list 256 _

wide-state : (ws : List ℕ) → length (state_in ws).queue ≡ 256
unfolding state_in
wide-state ws = length-list 256 _

pub start-shown : (state old : List ℕ) → Shown state old old 0
start-shown state old = record { many = omega arith; wide = wide-begun old; same = λ r h. absurd (omega arith); last = refl }

-- one slot more
pub one-shown : (state old now next : List ℕ) (n : ℕ) → Shown state old now n → n < 256
    → begun_in next ≡ record { queue = set (begun_in now).queue n (get_or (state_in state).queue n 0); last = (begun_in now).last } → Shown state old next (n + 1)
one-shown state old now next n h l e = record {
  many = omega arith;
  wide = ap (λ (b : Begun). length b.queue) e ∙ length-set (begun_in now).queue n (get_or (state_in state).queue n 0) ∙ h.wide;
  same = λ r k. ap (λ (b : Begun). get_or b.queue r 0) e ∙ by_cases (ℕ_discrete r n)
      (λ q. rw q (get_or-set_same (begun_in now).queue n (get_or (state_in state).queue n 0) 0 (omega (arith, h.wide))))
      (λ q. get_or-set_other (begun_in now).queue n r (get_or (state_in state).queue n 0) 0 q ∙ h.same r (omega arith));
  last = ap (λ (b : Begun). b.last) e ∙ h.last;
}

pub all_shown : (state old now : List ℕ) (n : ℕ) → Shown state old now n → 256 ≤ n → begun_in now ≡ record { queue = (state_in state).queue; last = (begun_in old).last }
all_shown state old now n h l i = record {
  queue = ext_get_or 0 (begun_in now).queue (state_in state).queue (h.wide ∙ sym (wide-state state)) (λ r k. h.same r (omega (arith, h.wide, k, l))) i;
  last = h.last i;
}
