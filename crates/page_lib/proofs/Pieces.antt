-- Pieces written one after the other, by calls and by a loop.
-- Assumes nothing.
use Prim.Native.Nat.{ℕ, ◌+◌, ◌≤◌, ◌<◌}
use mathlib.Core.Bool.{Bool, true, false}
use mathlib.Core.List.{List, [], ◌∷◌, ◌++◌}
use mathlib.Core.Path.{◌≡◌}
use native.Mathlib.Omega.{arith}
use Rattle.write_items.specs.Written.{Written}
use Rattle.write_items.proofs.Laws.{none, then}
use Rattle.page_spec.specs.Piece.{Piece, piece_text, page_text, when, each}
use Rattle.page_spec.proofs.Texts.{text-append, each_more}

-- ---- calls

pub end : (old : List ℕ) (a : ℕ) → Written old (page_text []) old a a
unfolding page_text
end old a = none old a

pub one : (p : Piece) (ps : List Piece) {old mid new : List ℕ} {a b c : ℕ} → Written old (piece_text p) mid a b → Written mid (page_text ps) new b c → Written old (page_text (p ∷ ps)) new a c
unfolding page_text
one p ps w v = then w v

pub more : (ps qs : List Piece) {old mid new : List ℕ} {a b c : ℕ} → Written old (page_text ps) mid a b → Written mid (page_text qs) new b c → Written old (page_text (ps ++ qs)) new a c
more ps qs w v = rw (text-append ps qs) (then w v)

-- ---- where a test holds

pub when-so : {b : Bool} (ps : List Piece) {old new : List ℕ} {a c : ℕ} → b ≡ true → Written old (page_text ps) new a c → Written old (page_text (when b ps)) new a c
when-so ps e w = rw e w

pub when-not : {b : Bool} (ps : List Piece) (old : List ℕ) (a : ℕ) → b ≡ false → Written old (page_text (when b ps)) old a a
when-not ps old a e = rw e (end old a)

-- ---- a loop

-- the first k of n are written
pub record Pieces (f : ℕ → List Piece) (n k : ℕ) (old new : List ℕ) (from to : ℕ) : Type 0 where
  pub up : k ≤ n
  pub written : Written old (page_text (each f k)) new from to

pub pieces_none : {f : ℕ → List Piece} {n : ℕ} (old : List ℕ) (a : ℕ) → Pieces f n 0 old old a a
unfolding each
pieces_none old a = record { up = omega arith; written = end old a }

pub pieces_more : {f : ℕ → List Piece} {n k : ℕ} {old mid new : List ℕ} {a b c : ℕ} → Pieces f n k old mid a b → k < n → Written mid (page_text (f k)) new b c → Pieces f n (k + 1) old new a c
pieces_more {f} {n} {k} h l v = record { up = omega arith; written = rw (each_more f k) (then h.written v) }

pub pieces-all : {f : ℕ → List Piece} {n k : ℕ} {old new : List ℕ} {a b : ℕ} → Pieces f n k old new a b → n ≤ k → Written old (page_text (each f n)) new a b
pieces-all {n = n} {k = k} h l = let e : n ≡ k = omega (arith, h.up) in rw e h.written
