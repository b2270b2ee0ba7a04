-- Instance by instance and slot by slot, what is left are the names.
-- Assumes nothing.
use Prim.Native.Nat.{ℕ, zero, suc, ◌+◌, ◌≤◌}
use mathlib.Core.List.{List, [], ◌∷◌, map}
use mathlib.Core.Path.{◌≡◌, refl, sym, ap, ◌∙◌}
use native.Mathlib.Omega.{arith}
use native.Mathlib.Numerals.{add-one}
use native.Mathlib.Nat.{zero-add}
use lib.ListN.{length, get_or, set, replicate, get_or-replicate}
use lib.Seq.{ext_get_or}
use Rattle.model.specs.declared.Instance.{Instance}
use Rattle.model.specs.declared.Configuration.{Configuration}
use Rattle.model.specs.Empty.{absent}
use Rattle.model.specs.View.{instance, put, with_queue}
use Rattle.model.proofs.View.{length-list}
use Rattle.rules_spec.specs.Closing.{zeroed}
use Rattle.rules_spec.proofs.Closing.{length-zeroed, zeroed-inside}
use Rattle.foretell_spec.specs.Names.{quiet, names_of}
use Rattle.words.specs.Rows.{word, row}
use Rattle.words.specs.Words.{instance_in, state_in}
use Rattle.foretell_lib.specs.Quiet.{quiet_below}

-- the first i of a list quieted
unfoldable quieted : ℕ → List Instance → List Instance
quieted zero l = l
quieted (suc i) [] = []
quieted (suc i) (v ∷ l) = quiet v ∷ quieted i l

quieted-next : (i : ℕ) (l : List Instance) → set (quieted i l) i (quiet (get_or (quieted i l) i absent)) ≡ quieted (suc i) l
unfolding quieted
quieted-next zero [] = refl
quieted-next zero (v ∷ l) = refl
quieted-next (suc i) [] = refl
quieted-next (suc i) (v ∷ l) = ap (◌∷◌ (quiet v)) (quieted-next i l)

quieted-all : (i : ℕ) (l : List Instance) → length l ≤ i → quieted i l ≡ map quiet l
unfolding quieted
quieted-all zero [] h = refl
quieted-all zero (v ∷ l) h = absurd (omega arith)
quieted-all (suc i) [] h = refl
quieted-all (suc i) (v ∷ l) h = ap (◌∷◌ (quiet v)) (quieted-all i l (omega arith))

abbrev with_instances : Configuration → List Instance → Configuration
with_instances c vs = record { instances = vs; queue = c.queue; servers = c.servers; done = c.done }

below-is : (i : ℕ) (c : Configuration) → quiet_below i c ≡ with_instances c (quieted i c.instances)
unfolding quiet_below put quieted
below-is zero c = refl
below-is (suc i) c = rw (below-is i c) (ap (with_instances c) (quieted-next i c.instances))

pub quiet-start : (c : Configuration) → c ≡ quiet_below 0 c
unfolding quiet_below
quiet-start c = refl

-- one instance more, by the words of its name
pub quiet-more : (c d : Configuration) (i : ℕ) → d ≡ quiet_below i c → put d i (quiet (instance d i)) ≡ quiet_below (i + 1) c
unfolding quiet_below
quiet-more c d i e = rw (e, add-one i)

all-zero : (q : List ℕ) → length q ≡ 256 → zeroed q 0 256 ≡ replicate 256 0
all-zero q h =
    ext_get_or 0 (zeroed q 0 256) (replicate 256 0) (length-zeroed q 0 256 ∙ h)
    (λ j l. zeroed-inside q 0 256 j (omega arith) (omega (arith, length-zeroed q 0 256, h)) ∙ sym (get_or-replicate 256 j 0 0 (omega (arith, length-zeroed q 0 256, h))))

pub names-kept : (c d : Configuration) → length c.instances ≡ 32 → length c.queue ≡ 256 → d ≡ quiet_below 32 c → with_queue d (zeroed d.queue 0 256) ≡ names_of c
unfolding with_queue names_of
names-kept c d h l e = rw (e, below-is 32 c, quieted-all 32 c.instances (omega (arith, h)), all-zero c.queue l)

pub slot-start : (c : Configuration) → c ≡ with_queue c (zeroed c.queue 0 0)
unfolding with_queue zeroed
slot-start c = refl

pub slot-more : (c d : Configuration) (n : ℕ) → d ≡ with_queue c (zeroed c.queue 0 n) → with_queue d (set d.queue n 0) ≡ with_queue c (zeroed c.queue 0 (n + 1))
unfolding with_queue zeroed
slot-more c d n e = rw (e, add-one n, zero-add n)

-- the state that words say has 32 instances and 256 slots
pub instances-length : (ws : List ℕ) → length (state_in ws).instances ≡ 32
unfolding state_in
instances-length ws = length-list 32 (λ k. instance_in (word ws 0) k (row ws 1 5 k))

pub queue-length : (ws : List ℕ) → length (state_in ws).queue ≡ 256
unfolding state_in
queue-length ws = length-list 256 (λ k. word (row ws 161 1 k) 0)
