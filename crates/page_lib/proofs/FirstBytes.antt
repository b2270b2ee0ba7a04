-- The first bytes of a line, as a part of its text.
-- Assumes nothing.
use Prim.Native.Nat.{ℕ, ◌-◌, min}
use mathlib.Core.List.{List, [], ◌∷◌}
use mathlib.Core.Path.{◌≡◌, refl, sym, ap, ◌∙◌}
use mathlib.Core.Logic.{by_cases}
use native.Mathlib.Omega.{arith}
use native.Mathlib.Decide.{dec_lt}
use lib.Dec.{eqb}
use lib.ListN.{length, take, drop, length-take, drop_of_length-le}
use lib.Seq.{take_all, take-take}
use Rattle.item_spec.proofs.Tests.{by-test}
use Rattle.read_spec.specs.Place.{up_to_lf, line_number, line_start}
use Rattle.page_spec.specs.Line.{line_of, widest, first_bytes, line_count}
use Rattle.page_spec.specs.Page.{next_line}

up_to : (s : List ℕ) → take (length (up_to_lf s)) s ≡ up_to_lf s
unfolding up_to_lf
up_to [] = refl
up_to (c ∷ s) = by-test (eqb c 10) (λ e. rw (e, up_to_lf)) (λ e. rw (e, up_to_lf) (ap (◌∷◌ c) (up_to s)))

take_min : (m k : ℕ) (s : List ℕ) → take (min m k) s ≡ take m (take k s)
take_min m k s =
    by_cases (dec_lt k m)
    (λ l. let e : min m k ≡ k = omega arith in rw e (sym (take_all m (take k s) (simp length-take (omega arith)))))
    (λ l. let e : min m k ≡ m = omega arith in rw e (sym (take-take m k s (omega arith))))

drop_min : (a : ℕ) (s : List ℕ) → drop (min a (length s)) s ≡ drop a s
drop_min a s =
    by_cases (dec_lt (length s) a)
    (λ l. let e : min a (length s) ≡ length s = omega arith in rw e (drop_of_length-le s {i = length s} (omega arith) ∙ sym (drop_of_length-le s {i = a} (omega arith))))
    (λ l. let e : min a (length s) ≡ a = omega arith in rw e)

pub line-held : (s : List ℕ) (n start size : ℕ) {x : List ℕ} → start ≡ line_start n s → size ≡ min widest (length (up_to_lf (drop start s))) → x ≡ take size (drop (min start (length s)) s) → x ≡ first_bytes s n
unfolding first_bytes line_of
line-held s n start size e f h =
    let g : take size (drop (min start (length s)) s) ≡ take widest (up_to_lf (drop start s)) =
    rw (drop_min start s, f) (take_min widest (length (up_to_lf (drop start s))) (drop start s) ∙ ap (take widest) (up_to (drop start s))) in
    rw e at (h ∙ g)

-- where the instruction after the first k of n stands, of a count of lines
pub next-is : (s : List ℕ) (n k : ℕ) {m r : ℕ} → m ≡ line_number s (length s) → r ≡ m - (n - k) → r ≡ next_line s n k
unfolding next_line line_count
next-is s n k e f = f ∙ ap (λ (l : ℕ). l - (n - k)) e
