-- The report is the same from the table and from the list.
-- Assumes nothing.
use mathlib.Core.Path.{◌≡◌, refl, sym, ap, ap₂, ◌∙◌}
use mathlib.Core.Logic.{⊎_elim}
use mathlib.Core.Bool.{true, false, ◌&&◌, false≢true}
use mathlib.Core.List.{[]}
use Prim.Native.Nat.{ℕ, zero, suc, ◌<◌}
use native.Mathlib.Nat.{le_step}
use native.Mathlib.Omega.{arith}
use lib.Dec.{eqb}
use borrow.Author.Tests.{eqb-true, eq-eqb}
use Rattle.sets.proofs.Laws.{below-cases}
use Rattle.item_spec.proofs.Tests.{by-test, and_left, and_right}
use Rattle.model.specs.declared.Configuration.{Configuration}
use Rattle.model.specs.declared.Walked.{Walked}
use Rattle.model.specs.View.{port_number, is_served, connection, queue_of}
use Rattle.model.proofs.View.{slot_is}
use Rattle.rules_spec.specs.Listed.{Chain, linked, ListedWalked}
use Rattle.rules_spec.proofs.Chains.{user, port}
use Rattle.rules_spec.proofs.Same.{Same}
use Rattle.rules_spec.proofs.Listed.{Beside}
use Rattle.report_spec.specs.Report.{connection_text, instance_at, connection_line, instances_text, connections_text, report_with, report}
use Rattle.report_spec.proofs.Lines.{line_at, in-turn-same, in_turns, lines-in-turn}
use Rattle.report_spec.specs.Listed.{link_at, links_text, listed_report}

-- of the use port q of u, as the definition of the line asks
abbrev is_here : Chain → ℕ → ℕ → ℕ → Type 0
is_here x u q l = (eqb (linked x l).user u && eqb (linked x l).useport q) ≡ true

module _ (x : Chain) (u q : ℕ) where
  none_found : (n : ℕ) → ((l : ℕ) → l < n → (eqb (linked x l).user u && eqb (linked x l).useport q) ≡ false) → link_at x n u q ≡ []
  unfolding link_at
  none_found zero f = refl
  none_found (suc n) f = rw (f n (omega arith), link_at) (none_found n (λ l h. f l (le_step h)))

  one_found : (n l : ℕ) → l < n → is_here x u q l → ((m : ℕ) → m < n → is_here x u q m → m ≡ l) → link_at x n u q ≡ connection_text (linked x l)
  unfolding link_at
  one_found zero l h e once = absurd (omega arith)
  one_found (suc n) l h e once =
      ⊎_elim
      (λ f. rw (← f) (rw (e, link_at)))
      (λ g. by-test (eqb (linked x n).user u && eqb (linked x n).useport q)
      (λ y. absurd (let z = once n (omega arith) y in omega arith))
      (λ y. rw (y, link_at) (one_found n l g e (λ m k. once m (le_step k)))))
      (below-cases h)

module _ (c : Configuration) (x : Chain) (same : Same c.servers x) where
  line_same : (u q : ℕ) → u < 32 → q < 16 → line_at c.servers (port_number u q) ≡ link_at x x.count u q
  unfolding connection_line is_served
  line_same u q hu hq =
      by-test (is_served c.servers (port_number u q))
      (λ on.
      let k = connection c (port_number u q) in
      let (l, h, e) = same.there k (port_number u q, omega arith, on, refl) in
      let a : (linked x l).user ≡ u = ap user e ∙ omega arith in
      let b : (linked x l).useport ≡ q = ap port e ∙ omega arith in
      rw on
      (ap connection_text (sym e)
      ∙ sym (one_found x u q x.count l h (rw (eq-eqb _ _ a, eq-eqb _ _ b)) (λ m g y. unique l m h g a b y))))
      (λ off. rw off
      (sym (none_found x u q x.count
      (λ l h. by-test (eqb (linked x l).user u && eqb (linked x l).useport q) (λ y. absurd (found l h y off)) (λ y. y)))))
    where
      ends : (m : ℕ) → is_here x u q m → ((linked x m).user ≡ u) × ((linked x m).useport ≡ q)
      ends m y =
          let a = eqb (linked x m).user u in
          let b = eqb (linked x m).useport q in
          (eqb-true (linked x m).user u (and_left a b y), eqb-true (linked x m).useport q (and_right a b y))

      unique : (l m : ℕ) → l < x.count → m < x.count → (linked x l).user ≡ u → (linked x l).useport ≡ q → is_here x u q m → m ≡ l
      unique l m h g a b y = let (d, e) = ends m y in same.once m l g h (d ∙ sym a) (e ∙ sym b)

      found : (l : ℕ) → l < x.count → is_here x u q l → is_served c.servers (port_number u q) ≡ false → ⊥
      found l h y off =
          let (d, e) = ends l y in
          let (s, g, on, is) = same.back (linked x l) (l, h, refl) in
          let z : s ≡ port_number u q = slot_is c.servers s (linked x l) is ∙ ap₂ port_number d e in
          false≢true (sym off ∙ ap (is_served c.servers) (sym z) ∙ on)

  lines_same : links_text x ≡ connections_text c
  unfolding links_text
  lines_same = sym (lines-in-turn c same.full ∙ in_turns (line_at c.servers) 32 ∙ in-turn-same 32 _ _ (λ u h. in-turn-same 16 _ _ (λ q g. line_same u q h g)))

pub report-same : (w : Walked) (v : ListedWalked) → Beside w v → listed_report v ≡ report w
unfolding listed_report report report_with instances_text instance_at queue_of
report-same w v b =
    ap listed_report b.is ∙ ap₂ (report_with w) (sym b.same.count) (lines_same w.configuration b.chain b.same)
