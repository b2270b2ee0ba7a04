-- Laws of `Written`: nothing written, a byte, one writer after another, a writer in the free part, and where all has room.
-- Assumes nothing.
use Prim.Native.Nat.{ℕ, zero, suc, ◌+◌, ◌-◌, ◌≤◌, ◌<◌}
use mathlib.Core.Path.{◌≡◌, ap, sym, ◌∙◌, subst}
use mathlib.Core.List.{List, [], ◌∷◌, ◌++◌, append_assoc, append-nil}
use mathlib.Core.Logic.{by_cases}
use native.Mathlib.Omega.{arith}
use native.Mathlib.Numerals.{add-one}
use native.Mathlib.Decide.{dec_lt}
use lib.ListN.{length, take, drop, set, length-append, length-take, length-drop, take-append-drop, drop_of_length-le}
use lib.Seq.{set_split, take_all, take-nil, take_at, drop-append-add, drop-drop, append_snoc}
use mir.Syntax.{w64}
use mir.Val.{Fits}
use mir.Facts.{Fits-le}
use Rattle.write_items.specs.Written.{Written}

-- ---- lists

split : (old : List ℕ) (a : ℕ) → take a old ++ [] ++ drop a old ≡ old
split old a = ap (λ (l : List ℕ). l ++ drop a old) (append-nil (take a old)) ∙ take-append-drop a old

-- the first bytes of a whole: those of its front, and as many of the rest as are left
cut : (n : ℕ) (xs ys : List ℕ) → take n (xs ++ ys) ≡ take n xs ++ take (n - length xs) ys
cut zero xs ys = ap (λ (k : ℕ). take k ys) (let e : 0 ≡ 0 - length xs = omega arith in e)
cut (suc n) [] ys = ap (λ (k : ℕ). take k ys) (let e : suc n ≡ suc n - 0 = omega arith in e)
cut (suc n) (x ∷ xs) ys =
    let e : n - length xs ≡ suc n - suc (length xs) = omega arith in
    ap (◌∷◌ x) (cut n xs ys ∙ ap (λ (k : ℕ). take n xs ++ take k ys) e)

-- past the end nothing is written
gone : (old bytes : List ℕ) (a b : ℕ) → length old ≤ a → b ≡ a → take a old ++ take (length old - a) bytes ++ drop b old ≡ old
gone old bytes a b h e = let z : length old - a ≡ 0 = omega arith in rw (z, e) (split old a)

-- ---- one writer

pub none : (old : List ℕ) (a : ℕ) → Written old [] old a a
none old a = record { to_is = omega arith; new_is = rw (take-nil {A = ℕ} (length old - a)) (sym (split old a)) }

pub all_past : (old bytes : List ℕ) (a : ℕ) → length old ≤ a → Written old bytes old a a
all_past old bytes a h = record { to_is = omega arith; new_is = sym (gone old bytes a a h (omega arith)) }

module _ (old : List ℕ) (a b : ℕ) where
  pub byte-stored : a < length old → Written old (b ∷ []) (set old a b) a (a + 1)
  byte-stored h = record {
    to_is = omega arith;
    new_is = set_split old a b h
        ∙ rw (take_all (length old - a) (b ∷ []) (omega arith), add-one a) (sym (append_snoc (take a old) b (drop (suc a) old)));
  }

past : {old xs mid : List ℕ} {a b : ℕ} → Written old xs mid a b → length old ≤ a → mid ≡ old
past {old} {xs} {mid} {a} {b} w h = w.new_is ∙ gone old xs a b h (omega (arith, w.to_is))

module _ {old xs mid : List ℕ} {a b : ℕ} (w : Written old xs mid a b) where
  pub length-written : length mid ≡ length old
  length-written = rw w.new_is (simp (length-append, length-take, length-drop) (omega (arith, w.to_is)))

  abbrev front : List ℕ
  front = take a old ++ take (length old - a) xs

  front_length : a ≤ length old → length front ≡ b
  front_length h = simp (length-append, length-take) (omega (arith, w.to_is))

  -- what stands from b on is as it was
  kept : a ≤ length old → (c : ℕ) → b ≤ c → drop c mid ≡ drop c old
  kept h c l =
      let e : length front + (c - b) ≡ c = omega (arith, front_length h) in
      let f : b + (c - b) ≡ c = omega arith in
      ap (drop c) w.new_is
      ∙ subst (λ (k : ℕ). drop k (front ++ drop b old) ≡ drop (c - b) (drop b old)) e (drop-append-add front (drop b old) (c - b))
      ∙ drop-drop (c - b) b old
      ∙ ap (λ (k : ℕ). drop k old) f

  -- a second writer goes on where the first one ended
  pub then : {ys end : List ℕ} {c : ℕ} → Written mid ys end b c → Written old (xs ++ ys) end a c
  then {ys} {end} {c} v = record {
    to_is = simp length-append (omega (arith, w.to_is, v.to_is, length-written));
    new_is = by_cases (dec_lt (length old) a) beyond room;
  }
    where
      beyond : length old < a → end ≡ take a old ++ take (length old - a) (xs ++ ys) ++ drop c old
      beyond h =
          past v (omega (arith, w.to_is, length-written))
          ∙ past w (omega arith)
          ∙ sym (gone old (xs ++ ys) a c (omega arith) (omega (arith, w.to_is, v.to_is, length-written)))

      room : (length old < a → ⊥) → end ≡ take a old ++ take (length old - a) (xs ++ ys) ++ drop c old
      room h =
          let e : length mid - b ≡ length old - a - length xs = omega (arith, w.to_is, length-written) in
          v.new_is
          ∙ ap (λ (l : List ℕ). l ++ take (length mid - b) ys ++ drop c mid)
          (ap (take b) w.new_is ∙ take_at front (drop b old) b (front_length (omega arith)))
          ∙ ap (λ (k : ℕ). front ++ take k ys ++ drop c mid) e
          ∙ ap (λ (l : List ℕ). front ++ take (length old - a - length xs) ys ++ l) (kept (omega arith) c (omega (arith, v.to_is)))
          ∙ ap (λ (l : List ℕ). l ++ drop c old)
          (append_assoc (take a old) (take (length old - a) xs) (take (length old - a - length xs) ys)
          ∙ ap (◌++◌ (take a old)) (sym (cut (length old - a) xs ys)))

  pub within : a ≤ length old → b ≤ length old
  within h = omega (arith, w.to_is)

  -- where the bytes have room, they are all written
  pub fits : a + length xs ≤ length old → (b ≡ a + length xs) × (mid ≡ take a old ++ xs ++ drop (a + length xs) old)
  fits h =
      let e : b ≡ a + length xs = omega (arith, w.to_is) in
      (e, w.new_is ∙ rw (e, take_all (length old - a) xs (omega arith)))

-- the same from the start of the buffer
pub fits_all : {old xs new : List ℕ} {b : ℕ} → Written old xs new 0 b → length xs ≤ length old → (b ≡ length xs) × (new ≡ xs ++ drop (length xs) old)
fits_all {old} {xs} w h =
    let e : 0 + length xs ≡ length xs = omega arith in
    let f = fits w (rw e h) in (f.0 ∙ e, f.1 ∙ ap (λ (k : ℕ). xs ++ drop k old) e)

-- ---- a writer in the part that is free

-- what `&mut t[a..]` lends, and the whole when it is back at l
abbrev pub free : ℕ → List ℕ → List ℕ
free a l = take (length l - a) (drop a l)

abbrev pub back : ℕ → List ℕ → List ℕ → List ℕ
back a mid l = take a mid ++ (l ++ drop (length mid - a) (drop a mid))

-- a writer at the start of that part is a writer at a
part : {mid ys end : List ℕ} {a b : ℕ} → a ≤ length mid → Written (free a mid) ys end 0 b → Written mid ys (back a mid end) a (a + b)
part {mid} {ys} {end} {a} {b} h v =
    let same : free a mid ≡ drop a mid = take_all (length mid - a) (drop a mid) (simp length-drop (omega arith)) in
    let left : length (free a mid) ≡ length mid - a = rw same (length-drop a mid) in
    let left-all : length (free a mid) - 0 ≡ length mid - a = omega (arith, left) in
    record {
      to_is = omega (arith, v.to_is, left);
      new_is =
          ap (λ (l : List ℕ). take a mid ++ (end ++ l)) (drop_of_length-le (drop a mid) {i = length mid - a} (simp length-drop (omega arith)))
          ∙ ap (◌++◌ (take a mid))
          (append-nil end
          ∙ v.new_is
          ∙ ap (λ (k : ℕ). take k ys ++ drop b (free a mid)) left-all
          ∙ ap (◌++◌ (take (length mid - a) ys)) (ap (drop b) same ∙ drop-drop b a mid))
          ∙ sym (append_assoc (take a mid) (take (length mid - a) ys) (drop (a + b) mid));
    }

module _ {old xs mid ys end : List ℕ} {a b : ℕ} (w : Written old xs mid 0 a) (v : Written (free a mid) ys end 0 b) where
  -- a second writer goes on in the part that the first one left free
  pub next : Written old (xs ++ ys) (back a mid end) 0 (a + b)
  next = then w (part (rw (length-written w) (within w (omega arith))) v)

-- the bytes used are a number that a length is
pub used-fits : {old xs mid : List ℕ} {a : ℕ} → Written old xs mid 0 a → Fits w64 (length old) → Fits w64 a
used-fits w f = Fits-le (within w (omega arith)) f
