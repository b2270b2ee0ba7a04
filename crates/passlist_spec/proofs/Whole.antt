-- The list of a whole register: its lines one after the other.
-- Assumes nothing.
use Prim.Native.Nat.{ℕ, zero, suc, ◌≤◌, ◌<◌}
use mathlib.Core.Bool.{Bool}
use mathlib.Core.List.{List, [], ◌∷◌, ◌++◌, append-nil}
use mathlib.Core.Path.{◌≡◌, refl, sym, ap, ◌∙◌, subst}
use native.Mathlib.Omega.{arith}
use borrow.Author.Tests.{eqb-true, eqb-false, eq-eqb, ne_eqb, ltb-true, ltb-false}
use lib.Dec.{eqb, leb, ltb, lit<}
use lib.ListN.{length, get_or, length-set}
use lib.Seq.{get_or-set_same, get_or-set_other}
use Rattle.item_spec.specs.Reader.{Reply, got, refused}
use Rattle.item_spec.specs.Read.{key}
use Rattle.item_spec.specs.Write.{only_if}
use Rattle.item_spec.proofs.Tests.{by-test}
use Rattle.item_spec.proofs.Laws.{not-got, bound-to}
use Rattle.item_spec.proofs.Back.{key_back}
use Rattle.register_spec.specs.Text.{head_text}
use Rattle.passlist_spec.specs.declared.Pass.{Pass}
use Rattle.passlist_spec.specs.declared.Pass.TheVariants.{AtLeast, NoTimes}
use Rattle.passlist_spec.specs.declared.Said.{Said}
use Rattle.passlist_spec.specs.declared.Said.TheVariants as said
use Rattle.passlist_spec.specs.Row.{Mark}
use Rattle.std.specs.declared.option.Option.{Option}
use Rattle.std.specs.declared.option.Option.TheVariants.{Some, None}
use Rattle.passlist_spec.specs.declared.Standing.{Standing}
use Rattle.passlist_spec.specs.declared.Standing.TheVariants as stands
use Rattle.passlist_spec.specs.declared.Wrong.{Wrong}
use Rattle.passlist_spec.specs.declared.Wrong.TheVariants.{Register, Kind}
use Rattle.passlist_spec.specs.Row.{over, row_says}
use Rattle.passlist_spec.specs.Standing.{standing_by, standing, passed_line}
use Rattle.passlist_spec.specs.Listed.{head_line, place_of, sum, none_counted, line_standing, counted, line_text, counts_text, wrong_in, lines_from, counted_all, lines_text, list_text, wrong_with}
use Rattle.passlist_spec.specs.Whole.{stands_as, passed_lines, how_many, AllRows, IsRegister, ListsExactly, CountsExactly, TakenExactly}

-- ---- a row is no head

by-few : (p : Pass) (o : Said) (m : Mark) → place_of (standing_by p o m) < 8
by-few (AtLeast n) said.Done (Some m) = by-test (leb n m) (λ e. rw e (lit< tt)) (λ e. rw e (lit< tt))
by-few (AtLeast n) said.Done None = lit< tt
by-few NoTimes said.Done (Some m) = lit< tt
by-few NoTimes said.Done None = lit< tt
by-few (AtLeast n) said.Unfinished (Some m) = lit< tt
by-few (AtLeast n) said.Unfinished None = lit< tt
by-few NoTimes said.Unfinished (Some m) = lit< tt
by-few NoTimes said.Unfinished None = lit< tt
by-few (AtLeast n) said.Refused (Some m) = lit< tt
by-few (AtLeast n) said.Refused None = lit< tt
by-few NoTimes said.Refused (Some m) = lit< tt
by-few NoTimes said.Refused None = lit< tt
by-few (AtLeast n) said.Fault (Some m) = lit< tt
by-few (AtLeast n) said.Fault None = lit< tt
by-few NoTimes said.Fault (Some m) = lit< tt
by-few NoTimes said.Fault None = lit< tt
by-few p said.Absent (Some m) = lit< tt
by-few p said.Absent None = lit< tt

standing-few : (p : Pass) (s : List ℕ) → place_of (standing p s) < 8
unfolding standing
standing-few p s = go (row_says s)
  where
    go : (z : Reply (Said × Mark)) → place_of (elim z [ got x r ↦ standing_by p x.0 x.1 | refused n ↦ stands.NoRow ]) < 8
    go (got x r) = by-few p x.0 x.1
    go (refused n) = lit< tt

-- ---- counts, once the head was met

pub record Headed (counts : List ℕ) : Type 0 where
  pub nine : length counts ≡ 9
  pub head : 1 ≤ get_or counts 8 0

module _ (p : Pass) (counts s : List ℕ) (h : Headed counts) where
  row-due : line_standing p counts s ≡ standing p s
  unfolding line_standing
  row-due = rw (ne_eqb (get_or counts 8 0) 0 (λ e. omega (arith, e, h.head)), line_standing)

  -- the line's own count
  counted-here : get_or (counted p counts s) (place_of (standing p s)) 0 ≡ sum (get_or counts (place_of (standing p s)) 0) 1
  unfolding counted
  counted-here = rw row-due (get_or-set_same counts (place_of (standing p s)) _ 0 (omega (arith, standing-few p s, h.nine)))

  counted-other : (k : ℕ) → (k ≡ place_of (standing p s) → ⊥) → get_or (counted p counts s) k 0 ≡ get_or counts k 0
  unfolding counted
  counted-other k e = rw row-due (get_or-set_other counts (place_of (standing p s)) k _ 0 e)

  still-headed : Headed (counted p counts s)
  unfolding counted
  still-headed = record {
    nine = length-set counts _ _ ∙ h.nine;
    head = rw (counted-other 8 (λ e. omega (arith, e, standing-few p s))) h.head;
  }

  text-here : line_text p counts s ≡ only_if (stands_as p stands.Passed s) (passed_line s)
  unfolding line_text
  text-here = rw row-due (ap (λ (b : Bool). only_if b (passed_line s)) (turned (place_of (standing p s))))
    where
      turned : (n : ℕ) → eqb n 0 ≡ eqb 0 n
      turned n = by-test (eqb n 0) (λ e. e ∙ sym (eq-eqb 0 n (sym (eqb-true n 0 e)))) (λ e. e ∙ sym (ne_eqb 0 n (λ q. eqb-false n 0 e (sym q))))

-- ---- the head

abbrev after-head : List ℕ
after-head = 0 ∷ 0 ∷ 0 ∷ 0 ∷ 0 ∷ 0 ∷ 0 ∷ 0 ∷ 1 ∷ []

head-counted : (p : Pass) → counted p none_counted head_text ≡ after-head
unfolding counted line_standing head_line key over head_text
head-counted p = refl

head-silent : (p : Pass) → line_text p none_counted head_text ≡ []
unfolding line_text line_standing head_line key over head_text
head-silent p = refl

head-met : Headed after-head
head-met = record { nine = refl; head = omega arith }

-- ---- the list

lists : (p : Pass) (rows : List (List ℕ)) (counts : List ℕ) → Headed counts → lines_text p counts rows ≡ passed_lines p rows
unfolding lines_text passed_lines
lists p [] counts h = refl
lists p (row ∷ rows) counts h =
    ap (λ (l : List ℕ). l ++ lines_text p (counted p counts row) rows) (text-here p counts row h)
    ∙ ap (◌++◌ (only_if (stands_as p stands.Passed row) (passed_line row))) (lists p rows (counted p counts row) (still-headed p counts row h))

lines-exactly : (p : Pass) (rows : List (List ℕ)) → lines_text p none_counted (head_text ∷ rows) ≡ passed_lines p rows
unfolding lines_text
lines-exactly p rows =
    ap (λ (l : List ℕ). l ++ lines_text p (counted p none_counted head_text) rows) (head-silent p)
    ∙ ap (λ (c : List ℕ). lines_text p c rows) (head-counted p)
    ∙ lists p rows after-head head-met

pub lists-exactly : ListsExactly
unfolding ListsExactly list_text
lists-exactly p s rows e = rw e (ap (λ (l : List ℕ). l ++ counts_text (counted_all p none_counted (head_text ∷ rows))) (lines-exactly p rows))

-- ---- the counts

counts-so : (p : Pass) (x : Standing) (rows : List (List ℕ)) (counts : List ℕ) → Headed counts → get_or counts (place_of x) 0 ≤ 18446744073709551615
    → get_or (counted_all p counts rows) (place_of x) 0 ≡ sum (get_or counts (place_of x) 0) (how_many p x rows)
unfolding counted_all how_many
counts-so p x [] counts h few = omega arith
counts-so p x (row ∷ rows) counts h few =
    by-test (stands_as p x row)
    (λ e.
    let same = eqb-true (place_of x) (place_of (standing p row)) e in
    let one : get_or (counted p counts row) (place_of x) 0 ≡ sum (get_or counts (place_of x) 0) 1 = rw same (counted-here p counts row h) in
    rw (e, how_many) (counts-so p x rows (counted p counts row) (still-headed p counts row h) (omega (arith, one)) ∙ omega (arith, one)))
    (λ e.
    let one = counted-other p counts row h (place_of x) (eqb-false (place_of x) (place_of (standing p row)) e) in
    rw (e, how_many) (counts-so p x rows (counted p counts row) (still-headed p counts row h) (omega (arith, one)) ∙ omega (arith, one)))

pub counts-exactly : CountsExactly
unfolding CountsExactly counted_all
counts-exactly p rows x few =
    ap (λ (c : List ℕ). get_or (counted_all p c rows) (place_of x) 0) (head-counted p)
    ∙ counts-so p x rows after-head head-met (omega (arith, none x few))
    ∙ ap (λ (n : ℕ). sum n (how_many p x rows)) (none x few)
  where
    none : (x : Standing) → place_of x < 8 → get_or after-head (place_of x) 0 ≡ 0
    none stands.Passed l = refl
    none stands.Below l = refl
    none stands.Unfinished l = refl
    none stands.Refused l = refl
    none stands.Fault l = refl
    none stands.Absent l = refl
    none stands.OtherKind l = refl
    none stands.NoRow l = refl
    none stands.Head l = absurd (omega (arith, l))

-- ---- what is taken

headed-all : (p : Pass) (rows : List (List ℕ)) (counts : List ℕ) → Headed counts → Headed (counted_all p counts rows)
unfolding counted_all
headed-all p [] counts h = h
headed-all p (row ∷ rows) counts h = headed-all p rows (counted p counts row) (still-headed p counts row h)

nothing-wrong : (counts : List ℕ) → get_or counts 7 0 ≡ 0 → get_or counts 6 0 ≡ 0 → 1 ≤ get_or counts 8 0 → wrong_in counts ≡ None
unfolding wrong_in
nothing-wrong counts a b c = rw (eq-eqb (get_or counts 7 0) 0 a, eq-eqb (get_or counts 6 0) 0 b, ne_eqb (get_or counts 8 0) 0 (λ e. omega (arith, e, c)))

wrong-nothing : (counts : List ℕ) → wrong_in counts ≡ None → (get_or counts 7 0 ≡ 0) × (get_or counts 6 0 ≡ 0) × (1 ≤ get_or counts 8 0)
unfolding wrong_in
wrong-nothing counts e =
    by-test (eqb (get_or counts 7 0) 0)
    (λ a. by-test (eqb (get_or counts 8 0) 0)
    (λ b. absurd (register (rw (a, b) at e)))
    (λ b. by-test (eqb (get_or counts 6 0) 0)
    (λ c. (eqb-true (get_or counts 7 0) 0 a, eqb-true (get_or counts 6 0) 0 c, some (get_or counts 8 0) (eqb-false (get_or counts 8 0) 0 b)))
    (λ c. absurd (kind (rw (a, b, c) at e)))))
    (λ a. absurd (register (rw a at e)))
  where
    register : ◌≡◌ {A = Option Wrong} (Some Register) None → ⊥
    register q = let z : ◌≡◌ {A = ℕ} 0 1 = cc in omega arith

    kind : ◌≡◌ {A = Option Wrong} (Some Kind) None → ⊥
    kind q = let z : ◌≡◌ {A = ℕ} 0 1 = cc in omega arith

    some : (n : ℕ) → (n ≡ 0 → ⊥) → 1 ≤ n
    some zero f = absurd (f refl)
    some (suc n) f = omega arith

-- a line that is no row stays counted
module _ (p : Pass) (counts s : List ℕ) (n : length counts ≡ 9) where
  still-nine : length (counted p counts s) ≡ 9
  unfolding counted
  still-nine = length-set counts _ _ ∙ n

  still-some : 1 ≤ get_or counts 7 0 → 1 ≤ get_or (counted p counts s) 7 0
  unfolding counted
  still-some h =
      by-test (eqb 7 (place_of (line_standing p counts s)))
      (λ e. rw (← eqb-true 7 (place_of (line_standing p counts s)) e, get_or-set_same counts 7 _ 0 (omega arith)) (omega arith))
      (λ e. rw (get_or-set_other counts (place_of (line_standing p counts s)) 7 _ 0 (eqb-false 7 (place_of (line_standing p counts s)) e)) h)

stays : (p : Pass) (ls : List (List ℕ)) (counts : List ℕ) → length counts ≡ 9 → 1 ≤ get_or counts 7 0 → 1 ≤ get_or (counted_all p counts ls) 7 0
unfolding counted_all
stays p [] counts n h = h
stays p (s ∷ ls) counts n h = stays p ls (counted p counts s) (still-nine p counts s n) (still-some p counts s n h)

no-head : (p : Pass) (s : List ℕ) (n : ℕ) → head_line s ≡ refused n → (length (counted p none_counted s) ≡ 9) × (1 ≤ get_or (counted p none_counted s) 7 0)
unfolding counted line_standing
no-head p s n e = rw e (refl, omega arith)

-- what is read as the head is the head
over-back : (s : List ℕ) {u : Unit {0}} {r : List ℕ} → over s ≡ got u r → s ≡ []
unfolding over
over-back [] e = refl
over-back (c ∷ s) e = absurd (not-got e)

head-back : (s : List ℕ) {u : Unit {0}} {r : List ℕ} → head_line s ≡ got u r → s ≡ head_text
unfolding head_line
head-back s e = bound-to (key head_text s) (λ _. over) e (λ u t k q. key_back head_text s k ∙ ap (◌++◌ head_text) (over-back t q) ∙ append-nil head_text)

-- no row and no other kind among them, and the other way round
all-rows : (p : Pass) (rows : List (List ℕ)) → how_many p stands.NoRow rows ≡ 0 → how_many p stands.OtherKind rows ≡ 0 → AllRows p rows
unfolding how_many
all-rows p [] a b = tt
all-rows p (row ∷ rows) a b =
    by-test (eqb 7 (place_of (standing p row)))
    (λ e. absurd (omega (arith, rw (e, how_many) at a)))
    (λ e. by-test (eqb 6 (place_of (standing p row)))
    (λ f. absurd (omega (arith, rw (f, how_many) at b)))
    (λ f. (
      few (place_of (standing p row)) (standing-few p row) (eqb-false 7 (place_of (standing p row)) e) (eqb-false 6 (place_of (standing p row)) f),
      all-rows p rows (rw (e, how_many) at a) (rw (f, how_many) at b),
    )))
  where
    few : (n : ℕ) → n < 8 → (7 ≡ n → ⊥) → (6 ≡ n → ⊥) → n < 6
    few n h a b = by-test (ltb n 6) (λ e. ltb-true n 6 e) (λ e. by-test (eqb 6 n) (λ q. absurd (b (eqb-true 6 n q))) (λ q. by-test (eqb 7 n) (λ r. absurd (a (eqb-true 7 n r))) (λ r. absurd (omega (arith, ltb-false n 6 e, eqb-false 6 n q, eqb-false 7 n r)))))

none-such : (p : Pass) (x : Standing) (rows : List (List ℕ)) → 6 ≤ place_of x → AllRows p rows → how_many p x rows ≡ 0
unfolding how_many
none-such p x [] h a = refl
none-such p x (row ∷ rows) h a =
    rw (ne_eqb (place_of x) (place_of (standing p row)) (λ e. omega (arith, e, a.0)), how_many) (none-such p x rows h a.1)

taken-lines : (p : Pass) (lines : List (List ℕ))
    → (wrong_in (counted_all p none_counted lines) ≡ None → IsRegister p lines) × (IsRegister p lines → wrong_in (counted_all p none_counted lines) ≡ None)
unfolding counted_all
taken-lines p [] = (λ e. absurd (omega (arith, (wrong-nothing none_counted e).2)), λ f. absurd f)
taken-lines p (s ∷ rows) = (by-head (head_line s) refl, register)
  where
    of-rows : wrong_in (counted_all p after-head rows) ≡ None → AllRows p rows
    of-rows e =
        let w = wrong-nothing (counted_all p after-head rows) e in
        all-rows p rows
        (omega (arith, counts-so p stands.NoRow rows after-head head-met (omega arith), w.0))
        (omega (arith, counts-so p stands.OtherKind rows after-head head-met (omega arith), w.1))

    by-head : (z : Reply (Unit {0})) → head_line s ≡ z → wrong_in (counted_all p (counted p none_counted s) rows) ≡ None → IsRegister p (s ∷ rows)
    by-head (got u r) e q =
        let l = head-back s e in
        (l, of-rows (subst (λ (c : List ℕ). wrong_in (counted_all p c rows) ≡ None) (ap (counted p none_counted) l ∙ head-counted p) q))
    by-head (refused n) e q =
        let w = no-head p s n e in
        absurd (omega (arith, (wrong-nothing (counted_all p (counted p none_counted s) rows) q).0, stays p rows (counted p none_counted s) w.0 w.1))

    register : IsRegister p (s ∷ rows) → wrong_in (counted_all p (counted p none_counted s) rows) ≡ None
    register (l, a) =
        subst (λ (c : List ℕ). wrong_in (counted_all p c rows) ≡ None) (sym (ap (counted p none_counted) l ∙ head-counted p))
        (nothing-wrong (counted_all p after-head rows)
        (counts-so p stands.NoRow rows after-head head-met (omega arith) ∙ omega (arith, none-such p stands.NoRow rows (omega arith) a))
        (counts-so p stands.OtherKind rows after-head head-met (omega arith) ∙ omega (arith, none-such p stands.OtherKind rows (omega arith) a))
        (headed-all p rows after-head head-met).head)

pub taken-exactly : TakenExactly
unfolding TakenExactly wrong_with
taken-exactly p s = taken-lines p (lines_from [] s)
