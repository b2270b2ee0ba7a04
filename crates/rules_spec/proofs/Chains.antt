-- The old list of connections: which stand in it, and what appending one and removing one make of it.
-- Assumes nothing.
use mathlib.Core.Path.{◌≡◌, refl, sym, ap, ◌∙◌}
use mathlib.Core.Logic.{◌⊎◌, inl, inr, ◌≢◌, by_cases}
use mathlib.Core.Bool.{Bool, true, false, false≢true}
use Prim.Native.Nat.{ℕ, suc, ◌-◌, ◌≤◌, ◌<◌}
use native.Mathlib.Omega.{arith}
use native.Mathlib.Decide.{dec_lt}
use lib.ListN.{length}
use lib.Seq.{get_or-set_same, get_or-set_other}
use borrow.Author.Tests.{eq-eqb}
use Rattle.sets.proofs.Laws.{any_none, any_some}
use Rattle.sets.proofs.Lowest.{lowest-holds}
use Rattle.model.specs.declared.Connection.{Connection}
use Rattle.model.specs.Empty.{no_connection}
use Rattle.rules_spec.specs.Ports.{is_of}
use Rattle.rules_spec.specs.DCon.{same_connection}
use Rattle.rules_spec.specs.Listed.{Chain, linked, in_list, place_of, appended, removed, InList}
use Rattle.rules_spec.proofs.Closing.{closed-outside, closed-inside}
use Rattle.rules_spec.proofs.Connections.{same-is}

module _ (x : Chain) (p : Connection → Bool) where
  pub some-linked : (in_list x).some p ≡ true → (k : Connection) × InList x k × (p k ≡ true)
  unfolding in_list
  some-linked e = let r = any_some x.count (λ l. p (linked x l)) e in (linked x r.0, (r.0, r.1.0, refl), r.1.1)

  pub linked-none : (k : Connection) → (in_list x).some p ≡ false → InList x k → p k ≡ false
  unfolding in_list
  linked-none k e j = sym (ap p j.2) ∙ any_none x.count (λ l. p (linked x l)) e j.0 j.1

abbrev pub user : Connection → ℕ
user k = k.user

abbrev pub port : Connection → ℕ
port k = k.useport

-- a use port has one connection at most
abbrev pub Once : Chain → Type 0
Once x = (l m : ℕ) → l < x.count → m < x.count → user (linked x l) ≡ user (linked x m) → port (linked x l) ≡ port (linked x m) → l ≡ m

-- ---- appended

module _ (x : Chain) (k : Connection) where
  append-old : (l : ℕ) → l < x.count → linked (appended x k) l ≡ linked x l
  unfolding appended
  append-old l h = get_or-set_other x.list x.count l k no_connection (λ e. omega arith)

  pub append-keeps : (j : Connection) → InList x j → InList (appended x k) j
  unfolding appended
  append-keeps j (l, h, e) = (l, omega arith, append-old l h ∙ e)

  module _ (room : x.count < length x.list) where
    append-new : (l : ℕ) → l ≡ x.count → linked (appended x k) l ≡ k
    unfolding appended
    append-new l e = ap (linked (appended x k)) e ∙ get_or-set_same x.list x.count k no_connection room

    pub append-stands : InList (appended x k) k
    unfolding appended
    append-stands = (x.count, omega arith, append-new x.count refl)

    pub append-only : (j : Connection) → InList (appended x k) j → InList x j ⊎ (j ≡ k)
    unfolding appended
    append-only j (l, h, e) =
        by_cases (dec_lt l x.count) (λ b. inl (l, b, sym (append-old l b) ∙ e)) (λ b. inr (sym e ∙ append-new l (omega arith)))

    pub append-once : (in_list x).some (is_of k.user k.useport) ≡ false → Once x → Once (appended x k)
    unfolding appended is_of
    append-once free once l m hl hm e f =
        by_cases (dec_lt l x.count)
        (λ a. by_cases (dec_lt m x.count)
        (λ b. let y = append-old l a in let z = append-old m b in once l m a b (ap user (sym y) ∙ e ∙ ap user z) (ap port (sym y) ∙ f ∙ ap port z))
        (λ b. let y = append-old l a in let z = append-new m (omega arith) in clash l a (ap user (sym y) ∙ e ∙ ap user z) (ap port (sym y) ∙ f ∙ ap port z)))
        (λ a. by_cases (dec_lt m x.count)
        (λ b. let y = append-new l (omega arith) in let z = append-old m b in clash m b (ap user (sym z) ∙ sym e ∙ ap user y) (ap port (sym z) ∙ sym f ∙ ap port y))
        (λ b. omega arith))
      where
        clash : (n : ℕ) → n < x.count → (linked x n).user ≡ k.user → (linked x n).useport ≡ k.useport → l ≡ m
        clash n h e f = absurd (false≢true (sym (linked-none x (is_of k.user k.useport) (linked x n) free (n, h, refl)) ∙ rw (eq-eqb _ _ e, eq-eqb _ _ f)))

-- ---- removed

-- l is where m goes when the gap at `at` is closed
abbrev Moved : ℕ → ℕ → ℕ → Type 0
Moved at l m = ((l < at) × (m ≡ l)) ⊎ ((at ≤ l) × (m ≡ suc l))

module _ (x : Chain) (k : Connection) (stands : (in_list x).some (same_connection k) ≡ true) (fits : x.count ≤ length x.list) where
  place_in : place_of x k < x.count
  unfolding in_list
  place_in = (lowest-holds x.count (λ l. same_connection k (linked x l)) stands).below

  place_is : linked x (place_of x k) ≡ k
  unfolding in_list
  place_is = same-is k (linked x (place_of x k)) (lowest-holds x.count (λ l. same_connection k (linked x l)) stands).passes

  pub place-stands : InList x k
  place-stands = (place_of x k, place_in, place_is)

  moved-is : (l m : ℕ) → m < x.count → Moved (place_of x k) l m → linked (removed x k) l ≡ linked x m
  unfolding removed
  moved-is l m h (inl (a, e)) =
      closed-outside no_connection x.list (place_of x k) x.count place_in fits l (inl a) ∙ ap (linked x) (sym e)
  moved-is l m h (inr (a, e)) =
      closed-inside no_connection x.list (place_of x k) x.count place_in fits l a (omega arith) ∙ ap (linked x) (sym e)

  -- where connection l of the new list stood
  old-place : (l : ℕ) → l < x.count - 1 → (m : ℕ) × (m < x.count) × Moved (place_of x k) l m
  old-place l h = by_cases (dec_lt l (place_of x k)) (λ a. (l, omega arith, inl (a, refl))) (λ a. (suc l, omega arith, inr (omega arith, refl)))

  -- and where connection m of the old list goes
  new-place : (m : ℕ) → m < x.count → m ≢ place_of x k → (l : ℕ) × (l < x.count - 1) × Moved (place_of x k) l m
  new-place m h n =
      let b = place_in in
      by_cases (dec_lt m (place_of x k)) (λ a. (m, omega arith, inl (a, refl))) (λ a. (m - 1, omega arith, inr (omega arith, omega arith)))

  pub remove-only : (j : Connection) → InList (removed x k) j → InList x j
  unfolding removed
  remove-only j (l, h, e) = let (m, g, moved) = old-place l h in (m, g, sym (moved-is l m g moved) ∙ e)

  pub remove-keeps : (j : Connection) → InList x j → j ≢ k → InList (removed x k) j
  unfolding removed
  remove-keeps j (m, h, e) n =
      let (l, g, moved) = new-place m h (λ q. n (sym e ∙ ap (linked x) q ∙ place_is)) in (l, g, moved-is l m h moved ∙ e)

  pub remove-once : Once x → Once (removed x k)
  unfolding removed
  remove-once once l m hl hm e f =
      let (a, ha, y) = old-place l hl in
      let (b, hb, z) = old-place m hm in
      let u = moved-is l a ha y in
      let v = moved-is m b hb z in
      back a b y z (once a b ha hb (ap user (sym u) ∙ e ∙ ap user v) (ap port (sym u) ∙ f ∙ ap port v))
    where
      back : (a b : ℕ) → Moved (place_of x k) l a → Moved (place_of x k) m b → a ≡ b → l ≡ m
      back a b (inl y) (inl z) q = omega arith
      back a b (inl y) (inr z) q = omega arith
      back a b (inr y) (inl z) q = omega arith
      back a b (inr y) (inr z) q = omega arith

  -- k stood once, so it is gone
  pub remove-gone : Once x → (j : Connection) → InList (removed x k) j → j ≢ k
  unfolding removed
  remove-gone once j (l, h, is) e =
      let (m, g, moved) = old-place l h in
      let old : linked x m ≡ linked x (place_of x k) = sym (moved-is l m g moved) ∙ is ∙ e ∙ sym place_is in
      elsewhere m moved (once m (place_of x k) g place_in (ap user old) (ap port old))
    where
      elsewhere : (m : ℕ) → Moved (place_of x k) l m → m ≡ place_of x k → ⊥
      elsewhere m (inl (a, b)) q = omega arith
      elsewhere m (inr (a, b)) q = omega arith
