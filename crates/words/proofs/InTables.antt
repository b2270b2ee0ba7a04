-- A row of the tables put is one type, one transition, one behavior or one port, and words that are all 0 say no table.
-- Assumes nothing.
use mathlib.Core.Path.{◌≡◌, refl, ◌∙◌}
use mathlib.Core.Logic.{inl, inr}
use mathlib.Core.List.{List, [], ◌∷◌}
use Prim.Native.Nat.{ℕ, ◌+◌, ◌*◌, ◌≤◌, ◌<◌}
use native.Mathlib.Omega.{arith}
use lib.ListN.{length, set, get_or, replicate, length-set}
use lib.Seq.{get_or-set_same, get_or-set_other}
use Rattle.model.specs.declared.ComponentType.{ComponentType}
use Rattle.model.specs.Empty.{no_type, no_tables}
use Rattle.model.specs.View.{type_of, list_of}
use Rattle.read_spec.specs.Fill.{with_transition, with_port}
use Rattle.words.specs.Rows.{word, row_at, rows, column, puts, puts_in}
use Rattle.words.specs.Words.{type_in, tables_in}
use Rattle.words.specs.Parts.{with_head, with_ends, with_behavior, with_group, with_kind, type_of_words}
use Rattle.areas.proofs.Areas.{no_word}
use Rattle.words.proofs.Rows.{Apart, in-far, rows-put, rows-far, rows_same, rows_at, rows_none}

pub type_at : (ws : List ℕ) (k : ℕ) (get : ComponentType → ℕ) → get (type_in k []) ≡ get no_type → get (type_of (tables_in ws) k) ≡ get (type_in k (row_at ws 1920 16 5 k))
unfolding tables_in
type_at ws k get e = rows_at type_in 1920 16 5 no_type get ws k e

-- a column's word
pub column-at : (ws : List ℕ) (at n w f k : ℕ) → get_or (column ws at n w f) k 0 ≡ word (row_at ws at n w k) f
column-at ws at n w f k = rows_at (λ j r. word r f) at n w 0 (λ (x : ℕ). x) ws k refl

-- words put into rows from `there` on
module _ (ws xs : List ℕ) (full : length ws ≡ 2002) (there m v k g : ℕ) (fits : g + length xs ≤ v) where
  abbrev vs : List ℕ
  vs = puts_in ws there m v k g xs

  column-far : (at n w f : ℕ) → Apart at (n * w) there (m * v) → column vs at n w f ≡ column ws at n w f
  column-far at n w f a = rows-far (λ j r. word r f) at n w ws xs there m v k g fits a

  column-put : (f : ℕ) → there + m * v ≤ length ws → column vs there m v f ≡ set (column ws there m v f) k (word (puts (list_of v (λ f. word ws (there + k * v + f))) g xs) f)
  column-put f l = rows-put (λ j r. word r f) there m v 0 ws xs k g fits l

  beside : (n : ℕ) → there + m * v ≤ n → word vs n ≡ word ws n
  beside n l = in-far ws xs there m v k g fits n (inr l)

  types-far : Apart 1920 80 there (m * v) → rows type_in vs 1920 16 5 ≡ rows type_in ws 1920 16 5
  types-far a = rows-far type_in 1920 16 5 ws xs there m v k g fits a

module _ (ws : List ℕ) (full : length ws ≡ 2002) (j : ℕ) where
  pub ends-put : (a b : ℕ) → tables_in (puts_in ws 0 512 2 j 0 (a ∷ b ∷ [])) ≡ with_ends (tables_in ws) j a b
  unfolding tables_in with_transition puts list_of
  ends-put a b i = record {
    depth = beside ws xs full 0 512 2 j 0 (omega arith) 2000 (omega arith) i;
    count = beside ws xs full 0 512 2 j 0 (omega arith) 2001 (omega arith) i;
    types = types-far ws xs full 0 512 2 j 0 (omega arith) (inr (omega arith)) i;
    transitions = record { source = column-put ws xs full 0 512 2 j 0 (omega arith) 0 (omega arith) i; destination = column-put ws xs full 0 512 2 j 0 (omega arith) 1 (omega arith) i };
    behaviors = far 1792 128 1 0 (inr (omega arith)) i;
    ports = record { uses = far 1024 256 3 0 (inr (omega arith)) i; places = far 1024 256 3 1 (inr (omega arith)) i; transitions = far 1024 256 3 2 (inr (omega arith)) i };
  }
    where
      xs : List ℕ
      xs = a ∷ b ∷ []

      far : (at n w f : ℕ) → Apart at (n * w) 0 1024 → column (puts_in ws 0 512 2 j 0 xs) at n w f ≡ column ws at n w f
      far = column-far ws xs full 0 512 2 j 0 (omega arith)

  pub port-put : (u a b : ℕ) → tables_in (puts_in ws 1024 256 3 j 0 (u ∷ a ∷ b ∷ [])) ≡ with_group (tables_in ws) j u a b
  unfolding tables_in with_port puts list_of
  port-put u a b i = record {
    depth = beside ws xs full 1024 256 3 j 0 (omega arith) 2000 (omega arith) i;
    count = beside ws xs full 1024 256 3 j 0 (omega arith) 2001 (omega arith) i;
    types = types-far ws xs full 1024 256 3 j 0 (omega arith) (inr (omega arith)) i;
    transitions = record { source = far 0 512 2 0 (inl (omega arith)) i; destination = far 0 512 2 1 (inl (omega arith)) i };
    behaviors = far 1792 128 1 0 (inr (omega arith)) i;
    ports = record { uses = put 0 i; places = put 1 i; transitions = put 2 i };
  }
    where
      xs : List ℕ
      xs = u ∷ a ∷ b ∷ []

      far : (at n w f : ℕ) → Apart at (n * w) 1024 768 → column (puts_in ws 1024 256 3 j 0 xs) at n w f ≡ column ws at n w f
      far = column-far ws xs full 1024 256 3 j 0 (omega arith)

      put : (f : ℕ) → column (puts_in ws 1024 256 3 j 0 xs) 1024 256 3 f ≡ set (column ws 1024 256 3 f) j (word (puts (list_of 3 (λ f. word ws (1024 + j * 3 + f))) 0 xs) f)
      put f = column-put ws xs full 1024 256 3 j 0 (omega arith) f (omega arith)

  pub behavior-put : (x : ℕ) → tables_in (puts_in ws 1792 128 1 j 0 (x ∷ [])) ≡ with_behavior (tables_in ws) j x
  unfolding tables_in puts list_of
  behavior-put x i = record {
    depth = beside ws (x ∷ []) full 1792 128 1 j 0 (omega arith) 2000 (omega arith) i;
    count = beside ws (x ∷ []) full 1792 128 1 j 0 (omega arith) 2001 (omega arith) i;
    types = types-far ws (x ∷ []) full 1792 128 1 j 0 (omega arith) (inr (omega arith)) i;
    transitions = record { source = far 0 512 2 0 (inl (omega arith)) i; destination = far 0 512 2 1 (inl (omega arith)) i };
    behaviors = column-put ws (x ∷ []) full 1792 128 1 j 0 (omega arith) 0 (omega arith) i;
    ports = record { uses = far 1024 256 3 0 (inl (omega arith)) i; places = far 1024 256 3 1 (inl (omega arith)) i; transitions = far 1024 256 3 2 (inl (omega arith)) i };
  }
    where
      far : (at n w f : ℕ) → Apart at (n * w) 1792 128 → column (puts_in ws 1792 128 1 j 0 (x ∷ [])) at n w f ≡ column ws at n w f
      far = column-far ws (x ∷ []) full 1792 128 1 j 0 (omega arith)

  pub type_put : (a b d e g : ℕ) → tables_in (puts_in ws 1920 16 5 j 0 (a ∷ b ∷ d ∷ e ∷ g ∷ [])) ≡ with_kind (tables_in ws) j (type_of_words a b d e g)
  unfolding tables_in puts list_of
  type_put a b d e g i = record {
    depth = beside ws xs full 1920 16 5 j 0 (omega arith) 2000 (omega arith) i;
    count = beside ws xs full 1920 16 5 j 0 (omega arith) 2001 (omega arith) i;
    types = rows-put type_in 1920 16 5 no_type ws xs j 0 (omega arith) (omega arith) i;
    transitions = record { source = far 0 512 2 0 (inl (omega arith)) i; destination = far 0 512 2 1 (inl (omega arith)) i };
    behaviors = far 1792 128 1 0 (inl (omega arith)) i;
    ports = record { uses = far 1024 256 3 0 (inl (omega arith)) i; places = far 1024 256 3 1 (inl (omega arith)) i; transitions = far 1024 256 3 2 (inl (omega arith)) i };
  }
    where
      xs : List ℕ
      xs = a ∷ b ∷ d ∷ e ∷ g ∷ []

      far : (at n w f : ℕ) → Apart at (n * w) 1920 80 → column (puts_in ws 1920 16 5 j 0 xs) at n w f ≡ column ws at n w f
      far = column-far ws xs full 1920 16 5 j 0 (omega arith)

pub no-tables : tables_in (replicate 2002 0) ≡ no_tables
unfolding tables_in no_tables list_of
no-tables i = record {
  depth = no_word 2002 2000 i;
  count = no_word 2002 2001 i;
  types = rows_none type_in no_type 1920 16 5 2002 (λ k. refl) i;
  transitions = record { source = none 0 512 2 0 refl i; destination = none 0 512 2 1 refl i };
  behaviors = none 1792 128 1 0 refl i;
  ports = record { uses = none 1024 256 3 0 refl i; places = none 1024 256 3 1 refl i; transitions = none 1024 256 3 2 refl i };
}
  where
    none : (at n w f : ℕ) → word (replicate w 0) f ≡ 0 → column (replicate 2002 0) at n w f ≡ replicate n 0
    none at n w f e = rows_none (λ k r. word r f) 0 at n w 2002 (λ k. e)

pub tables-head : (ws : List ℕ) (d n : ℕ) → length ws ≡ 2002 → tables_in (set (set ws 2000 d) 2001 n) ≡ with_head (tables_in ws) d n
unfolding tables_in
tables-head ws d n full i = record {
  depth = (get_or-set_other (set ws 2000 d) 2001 2000 n 0 (λ z. omega arith) ∙ get_or-set_same ws 2000 d 0 (omega arith)) i;
  count = get_or-set_same (set ws 2000 d) 2001 n 0 (rw (length-set ws 2000 d) (omega arith)) i;
  types = rows_same type_in 1920 16 5 ws us (λ m l h. far m (omega arith)) i;
  transitions = record {
    source = same 0 512 2 0 (omega arith) i;
    destination = same 0 512 2 1 (omega arith) i;
  };
  behaviors = same 1792 128 1 0 (omega arith) i;
  ports = record {
    uses = same 1024 256 3 0 (omega arith) i;
    places = same 1024 256 3 1 (omega arith) i;
    transitions = same 1024 256 3 2 (omega arith) i;
  };
}
  where
    us : List ℕ
    us = set (set ws 2000 d) 2001 n

    far : (k : ℕ) → k < 2000 → word us k ≡ word ws k
    far k h = get_or-set_other (set ws 2000 d) 2001 k n 0 (λ z. omega arith) ∙ get_or-set_other ws 2000 k d 0 (λ z. omega arith)

    same : (at n w f : ℕ) → at + n * w ≤ 2000 → column us at n w f ≡ column ws at n w f
    same at n w f l = rows_same (λ k r. word r f) at n w ws us (λ m b h. far m (omega arith))
