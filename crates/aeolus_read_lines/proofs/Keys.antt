-- A line by which of three keys it starts with, and what follows the key, by the reader of numbers.
-- Assumes nothing.
use Prim.Native.Nat.{ℕ, suc, ◌≤◌}
use native.Mathlib.Omega.{arith}
use mathlib.Core.List.{List}
use mathlib.Core.Path.{◌≡◌, refl, ◌∙◌}
use lib.Dec.{ltb, leb-suc-suc}
use borrow.Author.Tests.{ltb-true}
use Rattle.item_spec.proofs.Tests.{and_left, and_right}
use Rattle.item_spec.specs.Reader.{Reply, Reader, got, refused, read_on, give, check, no_line, bytes}
use Rattle.item_spec.specs.declared.Refusal.{Refusal}
use Rattle.item_spec.specs.Read.{given, key, upon, one_form}
use Rattle.read_items.specs.Reads.{past, Reads}
use Rattle.read_items.specs.declared.numbers.Four.{Four}
use Rattle.read_items.specs.declared.numbers.Limits.TheVariants as limits
use Rattle.read_items.specs.Within.{numbers_says, numbers_within}
use Rattle.read_items.proofs.Limits.{form-fault, limit-kept, verb-here}
use Rattle.read_items.proofs.Shapes.{bind-same}
use Rattle.read_items.proofs.Within.{one-within, two-within, got-within}
use Rattle.aeolus_model.specs.Model.{Universe, place_of}
use Rattle.aeolus_read_spec.specs.Limits.{name_ok, number_ok, state_ok, above_ok, clauses_ok}
use Rattle.aeolus_read_spec.specs.Kinds.{interface_name, interface_line, row_port, row_line}
use Rattle.aeolus_read_lines.specs.declared.Kind.TheVariants as kind
use Rattle.aeolus_read_lines.specs.Kinds.{which_of, line_says}
use Rattle.std.specs.declared.result.Result.{Result}
use Rattle.std.specs.declared.result.Result.TheVariants.{Ok, Err}

-- the reader of the key that stands here
by_key : {A : Type 0} (a b c : List ℕ) (m : ℕ → Reader A) (s : List ℕ) → upon a (m 0) (upon b (m 1) (upon c (m 2) no_line)) s ≡ read_on (which_of a b c s) m
unfolding which_of
by_key {A} a b c m s = by (key a s) refl (key b s) refl (key c s) refl
  where
    by : (x : Reply (Unit {0})) → key a s ≡ x → (y : Reply (Unit {0})) → key b s ≡ y → (z : Reply (Unit {0})) → key c s ≡ z
        → upon a (m 0) (upon b (m 1) (upon c (m 2) (no_line {A = A}))) s ≡ read_on (which_of a b c s) m
    by (got u r) p y q z w = rw (p, given, which_of)
    by (refused n) p (got u r) q z w = rw (p, q, given, which_of)
    by (refused n) p (refused i) q (got u r) w = rw (p, q, w, given, which_of)
    by (refused n) p (refused i) q (refused j) w = rw (p, q, w, given, which_of)

pub key_here : (k : List ℕ) (v : ℕ) (x : Reply ℕ) {s : List ℕ} {i : ℕ} → Reads s (past tt i) (key k s) → Reads s (past v i) (upon k (give v) (λ _. x) s)
key_here k v x h = verb-here k (give v) x h (record { within = h.within; same = refl })

-- a line by its key: the numbers after it, then the clauses of 4
module _ (u : Universe) (k : ℕ) where
  abbrev pub interface_of : ℕ → ℕ → Reader (ℕ × ℕ)
  interface_of j c = λ t. read_on (numbers_within 5 (limits.One 256) t) (λ x r. read_on (check (above_ok u k j x.first) 4 r) (λ _. give (c, x.first)))

  pub interface-numbers : (j : ℕ) (s : List ℕ)
      → interface_line u k j s ≡ read_on (which_of (bytes "interface=provide,") (bytes "interface=require,") (bytes "interface=both,") s) (interface_of j)
  unfolding interface_line interface_name
  interface-numbers j s =
      by_key _ _ _ (interface_name u k j) s ∙ bind-same (which_of _ _ _ s) _ _ (λ c t. one-within 5 _ t 256 name_ok (λ a. leb-suc-suc a 255))

  abbrev pub row_of : ℕ → ℕ → Reader (ℕ × ℕ × ℕ)
  row_of q m = λ t. read_on (numbers_within 5 (limits.Two 256 65) t) (λ x r. read_on (check (clauses_ok u k q m x.first) 4 r) (λ _. give (m, place_of u k x.first, suc x.second)))

  pub row-numbers : (q : ℕ) (s : List ℕ) → row_line u k q s ≡ read_on (which_of (bytes "provide=") (bytes "weak=") (bytes "strong=") s) (row_of q)
  unfolding row_line row_port
  row-numbers q s =
      by_key _ _ _ (row_port u k q) s ∙ bind-same (which_of _ _ _ s) _ _ (λ m t. two-within 5 _ t 256 65 name_ok number_ok (λ a. leb-suc-suc a 255) (λ b. leb-suc-suc b 64))

-- the number of a row is at most 64
pub row-few : (t : List ℕ) {s : List ℕ} {x : Four} {i : ℕ} → Reads s (past x i) (numbers_within 5 (limits.Two 256 65) t) → x.second ≤ 64
row-few t {x = x} h = omega (arith, ltb-true x.second 65 (and_left (ltb x.second 65) _ (and_right (ltb x.first 256) _ (got-within 5 (limits.Two 256 65) t h))))

pub state-numbers : (n : ℕ) (s t : List ℕ) (r : Result (Four × ℕ) Refusal) → Reads s (numbers_says r) (numbers_within 5 (limits.One n) t)
    → Reads s (line_says kind.Initial r) (read_on (one_form 5 t) (λ a q. read_on (check (state_ok n a) 3 q) (λ _. give a)))
state-numbers n s t (Ok (x, i)) h = rw (one-within 5 (λ (y : Four). give y.first) t n (state_ok n) (λ a. refl)) (limit-kept _ _ h refl)
state-numbers n s t (Err k) h = rw (one-within 5 (λ (y : Four). give y.first) t n (state_ok n) (λ a. refl)) (form-fault _ _ h)
