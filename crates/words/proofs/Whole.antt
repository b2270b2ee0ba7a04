-- What the words say is every word of them: arrays that say the same are the same.
-- Assumes nothing.
use mathlib.Core.Path.{◌≡◌, refl, sym, ap, ◌∙◌, subst}
use mathlib.Core.Logic.{by_cases}
use mathlib.Core.List.{List, [], ◌∷◌}
use Prim.Native.Nat.{ℕ, zero, suc, ◌+◌, ◌-◌, ◌*◌, ◌/◌, ◌%◌, ◌^◌, ◌≤◌, ◌<◌}
use native.Mathlib.Nat.{mod-lt, div-add-mod', div-lt_iff_lt-mul}
use native.Mathlib.Omega.{arith}
use native.Mathlib.Decide.{ℕ_discrete, dec_lt}
use lib.ListN.{length, get_or}
use lib.Seq.{ext_get_or}
use Rattle.sets.proofs.Laws.{same-members}
use Rattle.model.specs.declared.ComponentType.{ComponentType}
use Rattle.model.specs.declared.Tables.{Tables}
use Rattle.model.specs.declared.Instruction.{Instruction}
use Rattle.model.specs.declared.Program.{Program}
use Rattle.model.specs.declared.Step.{Step}
use Rattle.model.specs.declared.Answer.{Answer}
use Rattle.model.specs.declared.Instance.{Instance}
use Rattle.model.specs.declared.Configuration.{Configuration}
use Rattle.model.specs.Empty.{no_type, no_instruction, no_step, absent}
use Rattle.model.specs.View.{list_of}
use Rattle.model.proofs.View.{list_at}
use Rattle.words.specs.Rows.{word, row, rows, column}
use Rattle.words.specs.Words.{type_in, tables_in, instruction_in, program_in, step_in, answer_in, instance_in, state_in}

module _ (ws vs : List ℕ) where
  abbrev Same : ℕ → Type 0
  Same n = word ws n ≡ word vs n

  -- a word of an area is word f of row k
  in_area : (at n w : ℕ) → 0 < w → ((k f : ℕ) → k < n → f < w → Same (at + k * w + f)) → (m : ℕ) → at ≤ m → m < at + n * w → Same m
  in_area at n w some e m l h =
      subst Same (let d = div-add-mod' (m - at) w in let s : at + (m - at) / w * w + (m - at) % w ≡ m = omega arith in s)
      (e ((m - at) / w) ((m - at) % w) ((div-lt_iff_lt-mul some).1 (omega arith)) (mod-lt (m - at) some))

  -- rows of records that are the same
  module _ {A : Type 0} (make : ℕ → List ℕ → A) (other : ℕ → List ℕ → A) (d : A) (at n w : ℕ) (e : rows make ws at n w ≡ rows other vs at n w) where
    row_same : (k : ℕ) → k < n → make k (row ws at w k) ≡ other k (row vs at w k)
    row_same k h =
        sym (list_at n (λ j. make j (row ws at w j)) d k h) ∙ ap (λ (xs : List A). get_or xs k d) e ∙ list_at n (λ j. other j (row vs at w j)) d k h

    -- where a record says its row
    in-records : 0 < w → (back : A → List ℕ) → ((k : ℕ) → back (make k (row ws at w k)) ≡ row ws at w k) → ((k : ℕ) → back (other k (row vs at w k)) ≡ row vs at w k)
        → (m : ℕ) → at ≤ m → m < at + n * w → Same m
    in-records some back p q =
        in_area at n w some
        (λ k f h l. sym (list_at w (λ g. word ws (at + k * w + g)) 0 f l) ∙ ap (λ (r : List ℕ). word r f) (sym (p k) ∙ ap back (row_same k h) ∙ q k)
        ∙ list_at w (λ g. word vs (at + k * w + g)) 0 f l)

  in-columns : (at n w : ℕ) → 0 < w → ((f : ℕ) → f < w → column ws at n w f ≡ column vs at n w f) → (m : ℕ) → at ≤ m → m < at + n * w → Same m
  in-columns at n w some e =
      in_area at n w some
      (λ k f h l. sym (list_at w (λ g. word ws (at + k * w + g)) 0 f l) ∙ row_same (λ k r. word r f) (λ k r. word r f) 0 at n w (e f l) k h
      ∙ list_at w (λ g. word vs (at + k * w + g)) 0 f l)

  -- an area of single words
  in_one : (at n : ℕ) → column ws at n 1 0 ≡ column vs at n 1 0 → (m : ℕ) → at ≤ m → m < at + n → Same m
  in_one at n e m l h = in-columns at n 1 (omega arith) one m l (omega arith)
    where
      one : (f : ℕ) → f < 1 → column ws at n 1 f ≡ column vs at n 1 f
      one zero h = e
      one (suc f) h = absurd (omega arith)

  whole : (n : ℕ) → length ws ≡ n → length vs ≡ n → ((m : ℕ) → m < n → Same m) → ws ≡ vs
  whole n a b e = ext_get_or 0 ws vs (a ∙ sym b) (λ m h. e m (rw a at h))

  -- n rows, and then one word
  counted : {A : Type 0} (make : ℕ → List ℕ → A) (d : A) (n w : ℕ) → 0 < w → length ws ≡ n * w + 1 → length vs ≡ n * w + 1
      → rows make ws 0 n w ≡ rows make vs 0 n w → Same (n * w)
      → (back : A → List ℕ) → ((k : ℕ) → back (make k (row ws 0 w k)) ≡ row ws 0 w k) → ((k : ℕ) → back (make k (row vs 0 w k)) ≡ row vs 0 w k) → ws ≡ vs
  counted make d n w some a b e last back p q =
      whole (n * w + 1) a b
      (λ m h. by_cases (dec_lt m (n * w)) (λ l. in-records make make d 0 n w e some back p q m (omega arith) (omega arith))
      (λ l. subst Same (let s : n * w ≡ m = omega arith in s) last))

  pub answer-words : length ws ≡ 3073 → length vs ≡ 3073 → answer_in ws ≡ answer_in vs → ws ≡ vs
  unfolding answer_in list_of
  answer-words a b e =
      counted step_in no_step 1024 3 (omega arith) a b (ap (λ (x : Answer). x.steps) e) (ap (λ (x : Answer). x.count) e)
      (λ (x : Step). x.verb ∷ x.id ∷ x.number ∷ []) (λ k. refl) (λ k. refl)

  pub program-words : length ws ≡ 1282 → length vs ≡ 1282 → program_in ws ≡ program_in vs → ws ≡ vs
  unfolding program_in list_of
  program-words a b e =
      whole 1282 a b
      (λ m h. by_cases (dec_lt m 1280)
      (λ l. in-records instruction_in instruction_in no_instruction 0 256 5 (ap (λ (x : Program). x.instructions) e) (omega arith)
      (λ (x : Instruction). x.verb ∷ x.id ∷ x.number ∷ x.provider ∷ x.provideport ∷ []) (λ k. refl) (λ k. refl) m (omega arith) (omega arith))
      (λ l. by_cases (dec_lt m 1281)
      (λ k. subst Same (let s : 1280 ≡ m = omega arith in s) (ap (λ (x : Program). x.count) e))
      (λ k. subst Same (let s : 1281 ≡ m = omega arith in s) (ap (λ (x : Program). x.edition) e))))

  module _ (a : length ws ≡ 2002) (b : length vs ≡ 2002) (e : tables_in ws ≡ tables_in vs) where
    ends : (f : ℕ) → f < 2 → column ws 0 512 2 f ≡ column vs 0 512 2 f
    unfolding tables_in
    ends zero h = ap (λ (x : Tables). x.transitions.source) e
    ends (suc zero) h = ap (λ (x : Tables). x.transitions.destination) e
    ends (suc (suc f)) h = absurd (omega arith)

    groups : (f : ℕ) → f < 3 → column ws 1024 256 3 f ≡ column vs 1024 256 3 f
    unfolding tables_in
    groups zero h = ap (λ (x : Tables). x.ports.uses) e
    groups (suc zero) h = ap (λ (x : Tables). x.ports.places) e
    groups (suc (suc zero)) h = ap (λ (x : Tables). x.ports.transitions) e
    groups (suc (suc (suc f))) h = absurd (omega arith)

    in-types : (m : ℕ) → 1920 ≤ m → m < 2000 → Same m
    unfolding tables_in list_of
    in-types =
        in-records type_in type_in no_type 1920 16 5 (ap (λ (x : Tables). x.types) e) (omega arith)
        (λ (x : ComponentType). x.places ∷ x.initial ∷ x.transitions ∷ x.behaviors ∷ x.ports ∷ []) (λ k. refl) (λ k. refl)

    pub tables-words : ws ≡ vs
    unfolding tables_in
    tables-words =
        whole 2002 a b
        (λ m h. by_cases (dec_lt m 1024) (in-columns 0 512 2 (omega arith) ends m (omega arith))
        (λ l0. by_cases (dec_lt m 1792) (in-columns 1024 256 3 (omega arith) groups m (omega arith))
        (λ l1. by_cases (dec_lt m 1920) (in_one 1792 128 (ap (λ (x : Tables). x.behaviors) e) m (omega arith))
        (λ l2. by_cases (dec_lt m 2000) (in-types m (omega arith))
        (λ l3. by_cases (ℕ_discrete m 2000)
        (λ z. subst Same (sym z) (ap (λ (x : Tables). x.depth) e))
        (λ z. subst Same (let s : 2001 ≡ m = omega arith in s) (ap (λ (x : Tables). x.count) e)))))))

  -- the set of those present is of 32 members, as a word is
  module _ (a : length ws ≡ 930) (b : length vs ≡ 930) (s : word ws 0 < 2 ^ 32) (t : word vs 0 < 2 ^ 32) (e : state_in ws ≡ state_in vs) where
    instances-same : rows (instance_in (word ws 0)) ws 1 32 5 ≡ rows (instance_in (word vs 0)) vs 1 32 5
    unfolding state_in
    instances-same = ap (λ (x : Configuration). x.instances) e

    present-same : Same 0
    present-same =
        same-members 32 (word ws 0) (word vs 0) s t
        (λ i h. ap (λ (v : Instance). v.present) (row_same (instance_in (word ws 0)) (instance_in (word vs 0)) absent 1 32 5 instances-same i h))

    in-instances : (m : ℕ) → 1 ≤ m → m < 161 → Same m
    unfolding list_of
    in-instances =
        in-records (instance_in (word ws 0)) (instance_in (word vs 0)) absent 1 32 5 instances-same (omega arith)
        (λ (v : Instance). v.kind ∷ v.marked ∷ v.running ∷ v.ended ∷ v.queued ∷ []) (λ k. refl) (λ k. refl)

    pub state-words : ws ≡ vs
    unfolding state_in
    state-words =
        whole 930 a b
        (λ m h. by_cases (ℕ_discrete m 0) (λ z. subst Same (sym z) present-same)
        (λ l0. by_cases (dec_lt m 161) (in-instances m (omega arith))
        (λ l1. by_cases (dec_lt m 417) (in_one 161 256 (ap (λ (x : Configuration). x.queue) e) m (omega arith))
        (λ l2. by_cases (dec_lt m 929) (in_one 417 512 (ap (λ (x : Configuration). x.servers) e) m (omega arith))
        (λ l3. subst Same (let q : 929 ≡ m = omega arith in q) (ap (λ (x : Configuration). x.done) e))))))
