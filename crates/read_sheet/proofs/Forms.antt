-- Lines that are counted, and the limits of their counts.
-- Assumes nothing.
use mir.Val.{bool_byte}
use Prim.Native.Nat.{ℕ, suc, ◌+◌, ◌*◌, ◌≤◌, ◌<◌, min}
use mathlib.Core.List.{List}
use mathlib.Core.Bool.{Bool, true, false, not, ◌&&◌, ◌||◌, cond, true≢false}
use mathlib.Core.Path.{◌≡◌, refl, sym, ap, ap₂, ◌∙◌}
use native.Mathlib.Omega.{arith}
use native.Mathlib.Nat.{zero-add}
use lib.Dec.{eqb, leb}
use lib.ListN.{length, drop, get_or, drop_of_length-le}
use borrow.Author.Tests.{leb-true, le-leb}
use Rattle.item_spec.specs.Reader.{Reply, got, refused, byte, bytes}
use Rattle.item_spec.specs.Read.{key}
use Rattle.item_spec.proofs.Tests.{by-test, and_right}
use Rattle.read_items.specs.Reads.{Reads}
use Rattle.read_items.specs.Says.{due_says}
use Rattle.read_items.proofs.Laws.{from}
use Rattle.std.specs.Option.{is_some}
use Rattle.std.specs.declared.option.Option.{Option}
use Rattle.std.specs.declared.option.Option.TheVariants.{Some, None}
use Rattle.model.specs.declared.Tables.{Tables}
use Rattle.model.specs.declared.Program.{Program}
use Rattle.read_spec.specs.Limits.{depth_ok, types_ok, places_ok, transitions_ok, behaviors_ok, ports_ok, program_ok}
use Rattle.read_spec.specs.Lines.{Run, on, stop, Lines, run_on, hand_on, line, each, at_end, ◌>>=◌, ◌>>◌}
use Rattle.read_spec.specs.Kinds.{edition_line, count_line, initial_line}
use Rattle.read_spec.specs.Fill.{headed, program_of}
use Rattle.read_spec.specs.Texts.{instruction_at}
use Rattle.read_lines.specs.Counts.{in_range}
use Rattle.read_lines.specs.Runs.{Came, onto, number_came, RunsTo}
use Rattle.read_lines.proofs.Runs.{stopped, went_on, next-same}
use Rattle.read_lines.proofs.Lines.{same_rest}
use Rattle.read_chain.specs.Chain.{Few, short, shortly}
use Rattle.words.specs.Parts.{with_kind, type_of_words}
use Rattle.read_sheet_lines.specs.declared.Rows.TheVariants as rows
use Rattle.read_sheet.specs.Rows.{row}
use Rattle.read_sheet.specs.Form.{begins, lines_with, counted, known_as, type_form, edition_form, form}
use Rattle.read_sheet.specs.Counted.{counted_run}

-- ---- a key at a line's start
pub begun-some : (k s : List ℕ) (t : List ℕ) (r : Option ℕ) → Reads t (due_says r) (key k s) → is_some r ≡ begins k s
begun-some k s t (Some n) h = ap (λ (x : Reply (Unit {0})). elim x [ got u r ↦ true | refused n ↦ false ]) h.same
begun-some k s t None h = ap (λ (x : Reply (Unit {0})). elim x [ got u r ↦ true | refused n ↦ false ]) h.same

-- ---- the lines counted so far
-- what one byte adds, where x is what the rest adds
halt : (fresh found all : Bool) (x : ℕ) → (fresh && not (found || all)) ≡ true → cond fresh (cond found (suc x) (cond all x 0)) x ≡ 0
halt true true all x e = absurd (true≢false (sym e))
halt true false true x e = absurd (true≢false (sym e))
halt true false false x e = refl
halt false found all x e = absurd (true≢false (sym e))

turn : (fresh found all : Bool) (x : ℕ) → (fresh && not (found || all)) ≡ false → cond fresh (cond found (suc x) (cond all x 0)) x ≡ cond (fresh && found) 1 0 + x
turn true true all x e = omega arith
turn true false true x e = omega arith
turn true false false x e = absurd (true≢false e)
turn false found all x e = omega arith

-- a line that begins here and has the key counts as one
one-is : (b : Bool) → bool_byte b ≡ cond b 1 0
one-is true = refl
one-is false = refl

pub one-few : (b : Bool) → bool_byte b ≤ 1
one-few true = omega arith
one-few false = omega arith

module _ (all : Bool) (k s : List ℕ) (start : ℕ) where
  pub record Counting (i count : ℕ) (fresh : Bool) : Type 0 where
    pub few : count ≤ i
    pub same : count + lines_with all k fresh (drop i s) ≡ lines_with all k true (drop start s)

  pub counting-none : Counting start 0 true
  counting-none = record { few = omega arith; same = zero-add _ }

  module _ (i count : ℕ) (fresh found : Bool) (w : Counting i count fresh) (l : i < length s) (is : found ≡ begins k (drop i s)) where
    abbrev rest : ℕ
    rest = lines_with all k (eqb (get_or s i 0) (byte "\n")) (drop (i + 1) s)

    here : lines_with all k fresh (drop i s) ≡ cond fresh (cond found (suc rest) (cond all rest 0)) rest
    unfolding lines_with
    here = let e = from s i l in ap (lines_with all k fresh) e ∙ ap (λ (b : Bool). cond fresh (cond b (suc rest) (cond all rest 0)) rest) (sym (is ∙ ap (begins k) e))

    pub counting-halt : (fresh && not (found || all)) ≡ true → count ≡ lines_with all k true (drop start s)
    counting-halt e = let z = here ∙ halt fresh found all rest e in omega (arith, w.same)

    pub counting-turn : (fresh && not (found || all)) ≡ false → (one : ℕ) → one ≡ bool_byte (fresh && found) → Counting (i + 1) (count + one) (eqb (get_or s i 0) (byte "\n"))
    counting-turn e one o =
        let few = one-few (fresh && found) in
        record { few = omega (arith, w.few, few, o); same = let z = here ∙ turn fresh found all rest e in omega (arith, w.same, o, one-is (fresh && found)) }

  pub counting-end : (i count : ℕ) (fresh : Bool) → Counting i count fresh → length s ≤ i → count ≡ lines_with all k true (drop start s)
  unfolding lines_with
  counting-end i count fresh w l = let z : lines_with all k fresh (drop i s) ≡ 0 = ap (lines_with all k fresh) (drop_of_length-le s {i = i} l) in omega (arith, w.same)

-- ---- a count and its limit
module _ (all : Bool) (k s : List ℕ) (at start n least greatest : ℕ) (e : at ≡ min start (length s)) (is : n ≡ lines_with all k true (drop at s)) where
  pub counted-run : RunsTo s (number_came (counted_run at n least greatest)) (counted all k (in_range least greatest) (drop start s))
  unfolding counted
  counted-run =
      let q = same_rest s start at e in
      let z : lines_with all k true (drop start s) ≡ n = sym (is ∙ ap (lines_with all k true) q) in
      by-test (in_range least greatest n)
      (λ h. rw h (went_on (omega arith) (rw (z, h, counted) (ap₂ (λ (a : ℕ) (l : List ℕ). on a l) z (sym q)))))
      (λ h. rw h (stopped (omega arith) (rw (z, h, counted) (ap (λ (l : List ℕ). stop 3 l) (sym q)))))

pub counted-few : (at n least greatest : ℕ) → Few greatest (counted_run at n least greatest)
counted-few at n least greatest =
    by-test (in_range least greatest n) (λ h. rw h (leb-true n greatest (and_right (leb least n) (leb n greatest) h))) (λ h. rw h tt)

-- a limit from 0 on asks only for the greatest
pub from-none : (g n : ℕ) → in_range 0 g n ≡ leb n g
from-none g n = rw (le-leb 0 n (omega arith))

pub counted_same : (all : Bool) (k : List ℕ) (p q : ℕ → Bool) → ((n : ℕ) → p n ≡ q n) → (s : List ℕ) → counted all k p s ≡ counted all k q s
unfolding counted
counted_same all k p q e s = rw (e (lines_with all k true s), counted)

-- ---- the definitions with the limits as the code has them
module _ {B : Type 0} (all : Bool) (k : List ℕ) (p q : ℕ → Bool) (same : (n : ℕ) → p n ≡ q n) where
  counted-then : (s : List ℕ) (f g : ℕ → Lines B) → ((n : ℕ) (t : List ℕ) → f n t ≡ g n t) → run_on (counted all k p s) f ≡ run_on (counted all k q s) g
  counted-then s f g e = ap (λ (x : Run ℕ). run_on x f) (counted_same all k p q same s) ∙ next-same (counted all k q s) f g e

unfoldable pub type_counted : ℕ → Tables → Lines Tables
type_counted i t = do
  n ← line (count_line (bytes "type=") places_ok)
  m ← line (initial_line n)
  k ← counted false (bytes "tran=") (in_range 0 32)
  u ← each (row rows.Transitions (known_as n m k)) k (i * 32) t
  b ← counted false (bytes "behavior=") (in_range 0 8)
  v ← each (row rows.Behaviors (known_as n m k)) b (i * 8) u
  p ← counted false (bytes "port=") (in_range 0 16)
  w ← each (row rows.Ports (known_as n m k)) p (i * 16) v
  hand_on (with_kind w i (type_of_words n m k b p))

pub type-counted : (i : ℕ) (t : Tables) (s : List ℕ) → type_counted i t s ≡ type_form i t s
unfolding type_counted type_form
type-counted i t s =
    next-same (line (count_line (bytes "type=") places_ok) s) _ _ (λ n s.
    next-same (line (initial_line n) s) _ _ (λ m s.
    counted-then false (bytes "tran=") (in_range 0 32) transitions_ok (from-none 32) s _ _ (λ k s.
    next-same (each (row rows.Transitions (known_as n m k)) k (i * 32) t s) _ _ (λ u s.
    counted-then false (bytes "behavior=") (in_range 0 8) behaviors_ok (from-none 8) s _ _ (λ b s.
    next-same (each (row rows.Behaviors (known_as n m k)) b (i * 8) u s) _ _ (λ v s.
    counted-then false (bytes "port=") (in_range 0 16) ports_ok (from-none 16) s _ _ (λ p s. refl)))))))

unfoldable pub form_counted : Lines (Tables × Program)
form_counted = do
  e ← edition_form
  d ← line (count_line (bytes "depth=") depth_ok)
  n ← counted true (bytes "type=") (in_range 1 16)
  t ← each type_form n 0 (headed d n)
  k ← counted false (bytes "do=") (in_range 0 256)
  p ← each (instruction_at e n) k 0 (program_of e k)
  at_end
  hand_on (t, p)

pub form-counted : (s : List ℕ) → form_counted s ≡ form s
unfolding form_counted form
form-counted s =
    next-same (edition_form s) _ _ (λ e s.
    next-same (line (count_line (bytes "depth=") depth_ok) s) _ _ (λ d s.
    counted-then true (bytes "type=") (in_range 1 16) types_ok (λ n. refl) s _ _ (λ n s.
    next-same (each type_form n 0 (headed d n) s) _ _ (λ t s.
    counted-then false (bytes "do=") (in_range 0 256) program_ok (from-none 256) s _ _ (λ k s. refl)))))

pub form-shortly : (s : List ℕ) → shortly form_counted s ≡ shortly form s
unfolding shortly
form-shortly s = next-same (short s) _ _ (λ _ t. form-counted t)

-- ---- the number that a form opens with
pub edition-said : {c : Came ℕ} (s t : List ℕ) → begins (bytes "sheet=") t ≡ true → RunsTo s c (line edition_line t) → RunsTo s c (edition_form t)
unfolding edition_form
edition-said s t b h = rw b h

pub edition-unsaid : (s : List ℕ) (start at : ℕ) → at ≡ min start (length s) → begins (bytes "sheet=") (drop start s) ≡ false → RunsTo s (onto 1 at) (edition_form (drop start s))
unfolding edition_form
edition-unsaid s start at e b = rw b (went_on (omega arith) (ap (on 1) (sym (same_rest s start at e))))
