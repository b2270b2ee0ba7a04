-- The lines of connections in turn: by the number of the use port, and by user and port.
-- Assumes nothing.
use mathlib.Core.Path.{◌≡◌, refl, sym, ap, ap₂, ◌∙◌}
use mathlib.Core.List.{List, [], ◌∷◌, ◌++◌, append_assoc, append-nil}
use Prim.Native.Nat.{ℕ, zero, suc, ◌+◌, ◌*◌, ◌<◌}
use native.Mathlib.Nat.{le_step}
use native.Mathlib.Omega.{arith}
use lib.ListN.{length}
use Rattle.item_spec.specs.Write.{in_turn}
use Rattle.model.specs.declared.Configuration.{Configuration}
use Rattle.model.specs.View.{server}
use Rattle.report_spec.specs.Report.{connection_line, lines_from, connections_text}

-- in turn by two numbers is in turn by one
pub in-turn-same : (n : ℕ) (f g : ℕ → List ℕ) → ((i : ℕ) → i < n → f i ≡ g i) → in_turn f n ≡ in_turn g n
unfolding in_turn
in-turn-same zero f g e = refl
in-turn-same (suc n) f g e = ap₂ ◌++◌ (in-turn-same n f g (λ i h. e i (le_step h))) (e n (omega arith))

in-turn-add : (f : ℕ → List ℕ) (m n : ℕ) → in_turn f (m + n) ≡ in_turn f m ++ in_turn (λ q. f (m + q)) n
unfolding in_turn
in-turn-add f m zero = ap (in_turn f) (let e : m + 0 ≡ m = omega arith in e) ∙ sym (append-nil (in_turn f m))
in-turn-add f m (suc n) =
    ap (in_turn f) (let e : m + suc n ≡ suc (m + n) = omega arith in e)
    ∙ ap (λ (l : List ℕ). l ++ f (m + n)) (in-turn-add f m n)
    ∙ append_assoc (in_turn f m) (in_turn (λ q. f (m + q)) n) (f (m + n))

pub in_turns : (f : ℕ → List ℕ) (m : ℕ) → in_turn f (m * 16) ≡ in_turn (λ u. in_turn (λ q. f (u * 16 + q)) 16) m
unfolding in_turn
in_turns f zero = refl
in_turns f (suc m) =
    ap (in_turn f) (let e : suc m * 16 ≡ m * 16 + 16 = omega arith in e)
    ∙ in-turn-add f (m * 16) 16
    ∙ ap (λ (l : List ℕ). l ++ in_turn (λ q. f (m * 16 + q)) 16) (in_turns f m)

-- the line of the use port of number s
abbrev pub line_at : List ℕ → ℕ → List ℕ
line_at x s = connection_line s (server x s)

in-turn-first : (f : ℕ → List ℕ) (n : ℕ) → in_turn f (suc n) ≡ f 0 ++ in_turn (λ r. f (suc r)) n
unfolding in_turn
in-turn-first f zero = sym (append-nil (f 0))
in-turn-first f (suc n) = ap (λ (l : List ℕ). l ++ f (suc n)) (in-turn-first f n) ∙ append_assoc (f 0) (in_turn (λ r. f (suc r)) n) (f (suc n))

from-in-turn : (x : List ℕ) (s : ℕ) → lines_from s x ≡ in_turn (λ r. connection_line (s + r) (server x r)) (length x)
unfolding lines_from in_turn
from-in-turn [] s = refl
from-in-turn (v ∷ x) s =
    ap₂ (λ (n : ℕ) (l : List ℕ). connection_line n v ++ l) (let e : s ≡ s + 0 = omega arith in e)
    (from-in-turn x (suc s) ∙ in-turn-same (length x) _ _ (λ r h. ap (λ (n : ℕ). connection_line n (server x r)) (let e : suc s + r ≡ s + suc r = omega arith in e)))
    ∙ sym (in-turn-first (λ r. connection_line (s + r) (server (v ∷ x) r)) (length x))

pub lines-in-turn : (c : Configuration) → length c.servers ≡ 512 → connections_text c ≡ in_turn (line_at c.servers) 512
unfolding connections_text
lines-in-turn c full =
    from-in-turn c.servers 0 ∙ in-turn-same _ _ _ (λ r h. ap (λ (n : ℕ). connection_line n (server c.servers r)) (let e : 0 + r ≡ r = omega arith in e))
    ∙ ap (in_turn (line_at c.servers)) full
