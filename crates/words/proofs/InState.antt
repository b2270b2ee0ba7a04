-- A row of the state put is one instance, one queue slot or one server, and words that are all 0 are the start.
-- Assumes nothing.
use mathlib.Core.Path.{◌≡◌, refl, sym, ap, ◌∙◌}
use mathlib.Core.Logic.{inl, inr, ◌≢◌, by_cases}
use mathlib.Core.Bool.{Bool, true, false, or-false, or-true, and-true, and-false}
use mathlib.Core.List.{List, [], ◌∷◌}
use Prim.Native.Nat.{ℕ, ◌+◌, ◌≤◌, ◌<◌}
use native.Mathlib.Omega.{arith}
use native.Mathlib.Decide.{dec_lt}
use lib.ListN.{length, set, get_or, replicate, length-set}
use lib.Seq.{get_or-set_same, get_or-set_other}
use borrow.Author.Tests.{eq-eqb, ne_eqb}
use Rattle.sets.specs.Mask.{member, only}
use Rattle.sets.proofs.Laws.{member-past, member-with, member-without, member-only}
use Rattle.model.specs.declared.Instance.{Instance}
use Rattle.model.specs.declared.Configuration.{Configuration}
use Rattle.model.specs.Empty.{absent, start}
use Rattle.model.specs.View.{instance, server, list_of, put, with_queue, with_servers, with_done}
use Rattle.model.proofs.View.{past_end, put-past, put-twice, list_at, length-list}
use Rattle.rules_spec.specs.Instance.{with_queued}
use Rattle.words.specs.Rows.{word, row, row_at, rows, puts, puts_in}
use Rattle.words.specs.Words.{instance_in, state_in}
use Rattle.words.specs.Parts.{with_sets, bare, with_slot, with_server, changed}
use Rattle.areas.proofs.Areas.{list_put, no_word}
use Rattle.words.proofs.Rows.{in-far, rows-put, rows-far, rows_same, rows_at, rows_none}

-- ---- fields

module _ (ws : List ℕ) where
  pub instance-at : (i : ℕ) (get : Instance → ℕ) → get (instance_in (word ws 0) i []) ≡ get absent
      → get (instance (state_in ws) i) ≡ get (instance_in (word ws 0) i (row_at ws 1 32 5 i))
  unfolding state_in
  instance-at i get e = rows_at (instance_in (word ws 0)) 1 32 5 absent get ws i e

  pub present-in : (i : ℕ) → i < 32 → (instance (state_in ws) i).present ≡ member i (word ws 0)
  unfolding state_in
  present-in i h = ap (λ (v : Instance). v.present) (list_at 32 (λ k. instance_in (word ws 0) k (row ws 1 5 k)) absent i h)

  pub instance-past : (i : ℕ) → 32 ≤ i → instance (state_in ws) i ≡ absent
  unfolding state_in
  instance-past i h = past_end (rows (instance_in (word ws 0)) ws 1 32 5) absent (length-list 32 (λ k. instance_in (word ws 0) k (row ws 1 5 k))) h

  pub present-past : (i : ℕ) → 32 ≤ i → (instance (state_in ws) i).present ≡ false
  present-past i h = ap (λ (v : Instance). v.present) (instance-past i h)

  pub slot_at : (n : ℕ) → get_or (state_in ws).queue n 0 ≡ word (row_at ws 161 256 1 n) 0
  unfolding state_in
  slot_at n = rows_at (λ k r. word r 0) 161 256 1 0 (λ (x : ℕ). x) ws n refl

  pub server-at : (n : ℕ) → server (state_in ws).servers n ≡ word (row_at ws 417 512 1 n) 0
  unfolding state_in
  server-at n = rows_at (λ k r. word r 0) 417 512 1 0 (λ (x : ℕ). x) ws n refl

  pub servers-length : length (state_in ws).servers ≡ 512
  unfolding state_in
  servers-length = length-list 512 (λ k. word (row ws 417 1 k) 0)

-- ---- an instance put

module _ (ws : List ℕ) (i : ℕ) where
  -- past the last instance nothing is put, so what is put matters before it alone
  put-here : (v w : Instance) → (i < 32 → v ≡ w) → put (state_in ws) i v ≡ put (state_in ws) i w
  unfolding state_in
  put-here v w e = by_cases (dec_lt i 32) (λ h. ap (put (state_in ws) i) (e h)) (λ h. none v h ∙ sym (none w h))
    where
      none : (u : Instance) → (i < 32 → ⊥) → put (state_in ws) i u ≡ state_in ws
      none u h = put-past (state_in ws) i u (rw (length-list 32 (λ k. instance_in (word ws 0) k (row ws 1 5 k))) (omega arith))

  own : i < 32 → instance (state_in ws) i ≡ instance_in (word ws 0) i (row ws 1 5 i)
  unfolding state_in
  own h = list_at 32 (λ k. instance_in (word ws 0) k (row ws 1 5 k)) absent i h

  module _ (full : length ws ≡ 930) where
    row_put : (f : ℕ) (xs : List ℕ) → f + length xs ≤ 5
        → state_in (puts_in ws 1 32 5 i f xs) ≡ put (state_in ws) i (instance_in (word ws 0) i (puts (row ws 1 5 i) f xs))
    unfolding state_in put
    row_put f xs l j = record {
      instances = (ap (λ (m : ℕ). rows (instance_in m) (puts_in ws 1 32 5 i f xs) 1 32 5) (in-far ws xs 1 32 5 i f l 0 (inl (omega arith)))
          ∙ rows-put (instance_in (word ws 0)) 1 32 5 absent ws xs i f l (omega arith)) j;
      queue = rows-far (λ k r. word r 0) 161 256 1 ws xs 1 32 5 i f l (inr (omega arith)) j;
      servers = rows-far (λ k r. word r 0) 417 512 1 ws xs 1 32 5 i f l (inr (omega arith)) j;
      done = in-far ws xs 1 32 5 i f l 929 (inr (omega arith)) j;
    }

    pub sets-put : (m r e : ℕ) → state_in (puts_in ws 1 32 5 i 1 (m ∷ r ∷ e ∷ [])) ≡ put (state_in ws) i (with_sets (instance (state_in ws) i) m r e)
    unfolding puts list_of
    sets-put m r e =
        row_put 1 (m ∷ r ∷ e ∷ []) (omega arith)
        ∙ put-here _ (with_sets (instance (state_in ws) i) m r e) (λ h. sym (ap (λ (v : Instance). with_sets v m r e) (own h)))

    pub queued-put : (n : ℕ) → state_in (puts_in ws 1 32 5 i 4 (n ∷ [])) ≡ put (state_in ws) i (with_queued (instance (state_in ws) i) n)
    unfolding puts list_of with_queued
    queued-put n =
        row_put 4 (n ∷ []) (omega arith)
        ∙ put-here _ (with_queued (instance (state_in ws) i) n) (λ h. sym (ap (λ (v : Instance). with_queued v n) (own h)))

    -- the whole row, where the set of those present has i or not
    pub bare-put : (k m : ℕ) → state_in (puts_in ws 1 32 5 i 0 (k ∷ m ∷ 0 ∷ 0 ∷ 0 ∷ [])) ≡ put (state_in ws) i (bare (member i (word ws 0)) k m)
    unfolding puts list_of
    bare-put k m = row_put 0 (k ∷ m ∷ 0 ∷ 0 ∷ 0 ∷ []) (omega arith)

    -- the set of those present is m, which differs from what it was in i alone
    pub present-put : (m : ℕ) → ((j : ℕ) → j < 32 → j ≢ i → member j m ≡ member j (word ws 0))
        → state_in (set ws 0 m) ≡ put (state_in ws) i (instance_in m i (row ws 1 5 i))
    unfolding state_in put
    present-put m e j = record {
      instances = (ap (λ (n : ℕ). rows (instance_in n) us 1 32 5) (get_or-set_same ws 0 m 0 (omega arith))
          ∙ rows_same (instance_in m) 1 32 5 ws us (λ n l h. far n (omega arith))
          ∙ list_put 32 (λ k. instance_in (word ws 0) k (row ws 1 5 k)) absent (λ k. instance_in m k (row ws 1 5 k)) i
          (λ k h d. ap (λ (b : Bool). with-present b k) (e k h d))) j;
      queue = rows_same (λ k r. word r 0) 161 256 1 ws us (λ n l h. far n (omega arith)) j;
      servers = rows_same (λ k r. word r 0) 417 512 1 ws us (λ n l h. far n (omega arith)) j;
      done = far 929 (omega arith) j;
    }
      where
        us : List ℕ
        us = set ws 0 m

        far : (n : ℕ) → 0 < n → word us n ≡ word ws n
        far n h = get_or-set_other ws 0 n m 0 (λ z. omega arith)

        with-present : Bool → ℕ → Instance
        with-present b k = record { present = b; kind = word (row ws 1 5 k) 0; marked = word (row ws 1 5 k) 1; running = word (row ws 1 5 k) 2; ended = word (row ws 1 5 k) 3; queued = word (row ws 1 5 k) 4 }

-- ---- the set of those present

changed-other : (m i : ℕ) (here : Bool) (j : ℕ) → j < 32 → j ≢ i → member j (changed m i here) ≡ member j m
changed-other m i true j h d = member-with j i m h ∙ rw (ne_eqb j i d) (or-false (member j m))
changed-other m i false j h d = member-without j m (only i) h ∙ rw (member-only j i h, ne_eqb j i d) (and-true (member j m))

changed-own : (m i : ℕ) (here : Bool) → i < 32 → member i (changed m i here) ≡ here
changed-own m i true h = member-with i i m h ∙ rw (eq-eqb i i refl) (or-true (member i m))
changed-own m i false h = member-without i m (only i) h ∙ rw (member-only i i h, eq-eqb i i refl) (and-false (member i m))

pub instance-put : (ws : List ℕ) (i k m : ℕ) (here : Bool) → length ws ≡ 930
    → state_in (puts_in (set ws 0 (changed (word ws 0) i here)) 1 32 5 i 0 (k ∷ m ∷ 0 ∷ 0 ∷ 0 ∷ [])) ≡ put (state_in ws) i (bare here k m)
instance-put ws i k m here full =
    bare-put us i (length-set ws 0 new ∙ full) k m
    ∙ put-here us i (bare (member i (word us 0)) k m) (bare here k m)
    (λ h. ap (λ (b : Bool). bare b k m) (ap (member i) (get_or-set_same ws 0 new 0 (omega arith)) ∙ changed-own (word ws 0) i here h))
    ∙ ap (λ (c : Configuration). put c i (bare here k m)) (present-put ws i full new (changed-other (word ws 0) i here))
    ∙ put-twice (state_in ws) i (instance_in new i (row ws 1 5 i)) (bare here k m)
  where
    new : ℕ
    new = changed (word ws 0) i here

    us : List ℕ
    us = set ws 0 new

-- ---- a slot, a server and the number of instructions done put

module _ (ws : List ℕ) (full : length ws ≡ 930) where
  pub slot-put : (n x : ℕ) → state_in (puts_in ws 161 256 1 n 0 (x ∷ [])) ≡ with_slot (state_in ws) n x
  unfolding state_in with_queue puts list_of
  slot-put n x j = record {
    instances = (ap (λ (m : ℕ). rows (instance_in m) (puts_in ws 161 256 1 n 0 (x ∷ [])) 1 32 5) (in-far ws (x ∷ []) 161 256 1 n 0 (omega arith) 0 (inl (omega arith)))
        ∙ rows-far (instance_in (word ws 0)) 1 32 5 ws (x ∷ []) 161 256 1 n 0 (omega arith) (inl (omega arith))) j;
    queue = rows-put (λ k r. word r 0) 161 256 1 0 ws (x ∷ []) n 0 (omega arith) (omega arith) j;
    servers = rows-far (λ k r. word r 0) 417 512 1 ws (x ∷ []) 161 256 1 n 0 (omega arith) (inr (omega arith)) j;
    done = in-far ws (x ∷ []) 161 256 1 n 0 (omega arith) 929 (inr (omega arith)) j;
  }

  pub server-put : (s x : ℕ) → state_in (puts_in ws 417 512 1 s 0 (x ∷ [])) ≡ with_server (state_in ws) s x
  unfolding state_in with_servers puts list_of
  server-put s x j = record {
    instances = (ap (λ (m : ℕ). rows (instance_in m) (puts_in ws 417 512 1 s 0 (x ∷ [])) 1 32 5) (in-far ws (x ∷ []) 417 512 1 s 0 (omega arith) 0 (inl (omega arith)))
        ∙ rows-far (instance_in (word ws 0)) 1 32 5 ws (x ∷ []) 417 512 1 s 0 (omega arith) (inl (omega arith))) j;
    queue = rows-far (λ k r. word r 0) 161 256 1 ws (x ∷ []) 417 512 1 s 0 (omega arith) (inl (omega arith)) j;
    servers = rows-put (λ k r. word r 0) 417 512 1 0 ws (x ∷ []) s 0 (omega arith) (omega arith) j;
    done = in-far ws (x ∷ []) 417 512 1 s 0 (omega arith) 929 (inr (omega arith)) j;
  }

  pub done-put : (x : ℕ) → state_in (set ws 929 x) ≡ with_done (state_in ws) x
  unfolding state_in with_done
  done-put x j = record {
    instances = (ap (λ (m : ℕ). rows (instance_in m) us 1 32 5) (far 0 (omega arith)) ∙ rows_same (instance_in (word ws 0)) 1 32 5 ws us (λ n b h. far n (omega arith))) j;
    queue = rows_same (λ k r. word r 0) 161 256 1 ws us (λ n b h. far n (omega arith)) j;
    servers = rows_same (λ k r. word r 0) 417 512 1 ws us (λ n b h. far n (omega arith)) j;
    done = get_or-set_same ws 929 x 0 (omega arith) j;
  }
    where
      us : List ℕ
      us = set ws 929 x

      far : (n : ℕ) → n < 929 → word us n ≡ word ws n
      far n h = get_or-set_other ws 929 n x 0 (λ z. omega arith)

-- ---- the start

pub start-in : state_in (replicate 930 0) ≡ start
unfolding state_in start
start-in j = record {
  instances = (ap (λ (m : ℕ). rows (instance_in m) (replicate 930 0) 1 32 5) (no_word 930 0) ∙ rows_none (instance_in 0) absent 1 32 5 930 none) j;
  queue = rows_none (λ k r. word r 0) 0 161 256 1 930 (λ k. refl) j;
  servers = rows_none (λ k r. word r 0) 0 417 512 1 930 (λ k. refl) j;
  done = no_word 930 929 j;
}
  where
    none : (k : ℕ) → instance_in 0 k (replicate 5 0) ≡ absent
    none k = ap (λ (b : Bool). record { present = b; kind = 0; marked = 0; running = 0; ended = 0; queued = 0 }) (member-past 0 k 0 (omega arith) (omega arith))
