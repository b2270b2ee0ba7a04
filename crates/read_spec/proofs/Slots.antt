-- The arrays that a text fills, line by line: a run of lines writes the slots from a place on and leaves those before (`runs-fill`),
-- and so the rows of one type leave those of the types before (`rows_more`).
-- Assumes nothing.
use Prim.Native.Nat.{ℕ, suc, ◌+◌, ◌*◌, ◌<◌, ◌≤◌}
use mathlib.Core.List.{List}
use mathlib.Core.Logic.{⊎_elim}
use mathlib.Core.Path.{◌≡◌, refl, ap, sym, subst, ◌∙◌}
use native.Mathlib.Nat.{suc-mul, mul-le-mul_right}
use native.Mathlib.Omega.{arith}
use lib.ListN.{length, get_or, set, length-set}
use lib.Seq.{get_or-set_same, get_or-set_other}
use Rattle.sets.proofs.Laws.{below-cases}
use Rattle.item_spec.specs.Reader.{Reader}
use Rattle.model.specs.declared.ComponentType.{ComponentType}
use Rattle.model.specs.declared.Transitions.{Transitions}
use Rattle.model.specs.declared.Ports.{Ports}
use Rattle.model.specs.declared.Instruction.{Instruction}
use Rattle.model.specs.declared.Program.{Program}
use Rattle.model.specs.declared.Step.{Step}
use Rattle.model.specs.declared.Answer.{Answer}
use Rattle.model.specs.Empty.{no_type, none_begun, no_instruction, no_step}
use Rattle.read_spec.specs.Lines.{run_on, line, each, hand_on}
use Rattle.read_spec.specs.Fill.{with_transition, with_port, with_instruction, with_step}
use Rattle.read_spec.proofs.Rests.{Reads, Runs, runs_then, runs-give, runs-line, runs-each}

-- G has slots of A, as many as `size` where it is Sized
pub record Slots (G A : Type 0) : Type 1 where
  pub size : ℕ
  pub at : G → ℕ → A
  pub put : G → ℕ → A → G
  pub Sized : G → Type 0

-- what is put into a slot stands there, and in no other
pub record Sound {G A : Type 0} (S : Slots G A) : Type 0 where
  pub keeps : (g : G) (j : ℕ) (v : A) → S.Sized g → S.Sized (S.put g j v)
  pub same : (g : G) (j : ℕ) (v : A) → S.Sized g → j < S.size → S.at (S.put g j v) j ≡ v
  pub other : (g : G) (j l : ℕ) (v : A) → (l ≡ j → ⊥) → S.at (S.put g j v) l ≡ S.at g l

-- g is g₀ with the slots from lo up to hi written, each with Q
pub record Filled {G A : Type 0} (S : Slots G A) (Q : A → Type 0) (g₀ : G) (lo hi : ℕ) (g : G) : Type 0 where
  pub up : lo ≤ hi
  pub sized : S.Sized g
  pub below : (j : ℕ) → j < lo → S.at g j ≡ S.at g₀ j
  pub rows : (j : ℕ) → lo ≤ j → j < hi → Q (S.at g j)

module _ {G A : Type 0} (S : Slots G A) (ok : Sound S) (Q : A → Type 0) where
  pub filled_none : (lo : ℕ) (g : G) → S.Sized g → Filled S Q g lo lo g
  filled_none lo g z = record { up = omega arith; sized = z; below = λ j l. refl; rows = λ j a b. absurd (omega arith) }

  pub filled_more : (lo hi : ℕ) (g₀ g : G) (v : A) → hi < S.size → Q v → Filled S Q g₀ lo hi g → Filled S Q g₀ lo (suc hi) (S.put g hi v)
  filled_more lo hi g₀ g v l q w = record {
    up = omega (arith, w.up);
    sized = ok.keeps g hi v w.sized;
    below = λ j h. ok.other g hi j v (λ z. omega (arith, w.up)) ∙ w.below j h;
    rows = λ j a b. ⊎_elim
        (λ z. subst Q (sym (ap (S.at (S.put g hi v)) z ∙ ok.same g hi v w.sized l)) q)
        (λ h. subst Q (sym (ok.other g hi j v (λ z. omega arith))) (w.rows j a h))
        (below-cases b);
  }

  -- as many lines as there are slots from lo up to lo + n
  pub runs-fill : (m : Reader A) → Reads Q m → (n lo : ℕ) (g : G) → lo + n ≤ S.size → S.Sized g →
      Runs (Filled S Q g lo (lo + n)) (each (λ j h. λ s. run_on (line m s) (λ v. hand_on (S.put h j v))) n lo g)
  runs-fill m reads n lo g l z =
      runs-each _ (λ j h. Filled S Q g lo j h) (lo + n)
      (λ j h b w. runs_then (runs-line reads) (λ v q. runs-give (filled_more lo j g h v (omega arith) q w)))
      n lo g refl (filled_none lo g z)

-- ---- the arrays of the two texts
set_same : {A : Type 0} (l : List A) (n j : ℕ) (a d : A) → length l ≡ n → j < n → get_or (set l j a) j d ≡ a
set_same l n j a d e h = get_or-set_same l j a d (omega arith)

-- one list of G; `Also` is what no slot touches
abbrev column : {G A : Type 0} → ℕ → A → (G → List A) → (G → ℕ → A → G) → (G → Type 0) → Slots G A
column n d list put Also = record { size = n; at = λ g j. get_or (list g) j d; put = put; Sized = λ g. (length (list g) ≡ n) × Also g }

column-sound : {G A : Type 0} (n : ℕ) (d : A) (list : G → List A) (put : G → ℕ → A → G) (Also : G → Type 0) →
    ((g : G) (j : ℕ) (a : A) → list (put g j a) ≡ set (list g) j a) → ((g : G) (j : ℕ) (a : A) → Also g → Also (put g j a)) → Sound (column n d list put Also)
column-sound n d list put Also is also = record {
  keeps = λ g j a z. (ap length (is g j a) ∙ length-set (list g) j a ∙ z.0, also g j a z.1);
  same = λ g j a z h. ap (λ l. get_or l j d) (is g j a) ∙ set_same (list g) n j a d z.0 h;
  other = λ g j x a h. ap (λ l. get_or l x d) (is g j a) ∙ get_or-set_other (list g) j x a d h;
}

abbrev list_slots : {A : Type 0} → ℕ → A → Slots (List A) A
list_slots n d = column n d (λ l. l) set (λ _. Unit {0})

list-sound : {A : Type 0} (n : ℕ) (d : A) → Sound (list_slots n d)
list-sound n d = column-sound n d (λ l. l) set _ (λ _ _ _. refl) (λ _ _ _ z. z)

abbrev pub type_slots : Slots (List ComponentType) ComponentType
type_slots = list_slots 16 no_type

pub types-sound : Sound type_slots
types-sound = list-sound 16 no_type

abbrev pub behavior_slots : Slots (List ℕ) ℕ
behavior_slots = list_slots 128 0

pub behaviors-sound : Sound behavior_slots
behaviors-sound = list-sound 128 0

-- of a program and of an answer of n lines
abbrev pub instruction_slots : ℕ → ℕ → Slots Program Instruction
instruction_slots e n = column 256 no_instruction (λ p. p.instructions) with_instruction (λ p. (p.edition ≡ e) × (p.count ≡ n) × (p.begun ≡ none_begun))

pub instructions-sound : (e n : ℕ) → Sound (instruction_slots e n)
unfolding with_instruction
instructions-sound e n = column-sound _ no_instruction (λ p. p.instructions) with_instruction _ (λ _ _ _. refl) (λ _ _ _ z. z)

abbrev pub step_slots : ℕ → Slots Answer Step
step_slots n = column 1024 no_step (λ a. a.steps) with_step (λ a. a.count ≡ n)

pub steps-sound : (n : ℕ) → Sound (step_slots n)
unfolding with_step
steps-sound n = column-sound _ no_step (λ a. a.steps) with_step _ (λ _ _ _. refl) (λ _ _ _ z. z)

-- source and destination
abbrev pub transition_slots : Slots Transitions (ℕ × ℕ)
transition_slots = record {
  size = 512;
  at = λ xs j. (get_or xs.source j 0, get_or xs.destination j 0);
  put = λ xs j y. with_transition xs j y.0 y.1;
  Sized = λ xs. (length xs.source ≡ 512) × (length xs.destination ≡ 512);
}

pub transitions-sound : Sound transition_slots
unfolding with_transition
transitions-sound = record {
  keeps = λ xs j y z. (length-set xs.source j y.0 ∙ z.0, length-set xs.destination j y.1 ∙ z.1);
  same = λ xs j y z h i. (set_same xs.source 512 j y.0 0 z.0 h i, set_same xs.destination 512 j y.1 0 z.1 h i);
  other = λ xs j x y h i. (get_or-set_other xs.source j x y.0 0 h i, get_or-set_other xs.destination j x y.1 0 h i);
}

-- kind, places and transitions
abbrev pub port_slots : Slots Ports (ℕ × ℕ × ℕ)
port_slots = record {
  size = 256;
  at = λ qs j. (get_or qs.uses j 0, get_or qs.places j 0, get_or qs.transitions j 0);
  put = λ qs j y. with_port qs j y.0 y.1 y.2;
  Sized = λ qs. (length qs.uses ≡ 256) × (length qs.places ≡ 256) × (length qs.transitions ≡ 256);
}

pub ports-sound : Sound port_slots
unfolding with_port
ports-sound = record {
  keeps = λ qs j y z. (length-set qs.uses j y.0 ∙ z.0, length-set qs.places j y.1 ∙ z.1, length-set qs.transitions j y.2 ∙ z.2);
  same = λ qs j y z h i. (set_same qs.uses 256 j y.0 0 z.0 h i, set_same qs.places 256 j y.1 0 z.1 h i, set_same qs.transitions 256 j y.2 0 z.2 h i);
  other = λ qs j x y h i. (get_or-set_other qs.uses j x y.0 0 h i, get_or-set_other qs.places j x y.1 0 h i, get_or-set_other qs.transitions j x y.2 0 h i);
}

-- ---- the rows of the first i types: type q has as many as its count, from q * w on, each as Row asks in that type
pub record Rows {G A : Type 0} (S : Slots G A) (w : ℕ) (count : ComponentType → ℕ) (Row : ComponentType → A → Type 0) (ks : List ComponentType) (g : G) (i : ℕ) : Type 0 where
  pub sized : S.Sized g
  pub each : (q x : ℕ) → q < i → x < count (type_slots.at ks q) → Row (type_slots.at ks q) (S.at g (q * w + x))

module _ {G A : Type 0} (S : Slots G A) (w : ℕ) (count : ComponentType → ℕ) (Row : ComponentType → A → Type 0) (ks : List ComponentType) where
  pub rows_none : (g : G) → S.Sized g → Rows S w count Row ks g 0
  rows_none g z = record { sized = z; each = λ q x l. absurd (omega arith) }

  -- type i and its rows are written: those of the types before stay
  module _ (k : ComponentType) (g₀ g : G) (i : ℕ) (z : type_slots.Sized ks) (h : i < 16) (few : (q : ℕ) → q < i → count (type_slots.at ks q) ≤ w)
      (old : Rows S w count Row ks g₀ i) (new : Filled S (Row k) g₀ (i * w) (i * w + count k) g) where
    pub rows_more : Rows S w count Row (set ks i k) g (suc i)
    rows_more = record { sized = new.sized; each = λ q x l b. ⊎_elim (last q x b) (before q x b) (below-cases l) }
      where
        last : (q x : ℕ) → x < count (type_slots.at (set ks i k) q) → q ≡ i → Row (type_slots.at (set ks i k) q) (S.at g (q * w + x))
        last q x b e =
            let it : type_slots.at (set ks i k) q ≡ k = ap (type_slots.at (set ks i k)) e ∙ types-sound.same ks i k z h in
            rw (it, e) (new.rows (i * w + x) (omega arith) (omega (arith, ap count it)))

        before : (q x : ℕ) → x < count (type_slots.at (set ks i k) q) → q < i → Row (type_slots.at (set ks i k) q) (S.at g (q * w + x))
        before q x b l =
            let it : type_slots.at (set ks i k) q ≡ type_slots.at ks q = types-sound.other ks i q k (λ e. omega arith) in
            let below : q * w + x < i * w = omega (arith, few q l, mul-le-mul_right w l, suc-mul q w, ap count it) in
            rw (it, new.below (q * w + x) below) (old.each q x l (rw it at b))
