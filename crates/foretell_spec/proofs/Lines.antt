-- A sheet that is read is what is written of it, and there each instruction is a line, the last of them the sheet's last.
-- Assumes nothing.
use mathlib.Core.Path.{◌≡◌, refl, sym, ap, ◌∙◌}
use mathlib.Core.Logic.{by_cases}
use mathlib.Core.Bool.{true, false}
use mathlib.Core.List.{List, [], ◌∷◌, ◌++◌, append_assoc, append-nil}
use Prim.Native.Nat.{ℕ, zero, suc, ◌+◌, ◌-◌, ◌/◌, ◌%◌, ◌<◌}
use native.Mathlib.Omega.{arith}
use native.Mathlib.Decide.{ℕ_discrete}
use lib.Dec.{eqb, ltb}
use lib.ListN.{length, drop, length-append}
use lib.Seq.{take_all, drop_at}
use borrow.Author.Tests.{ne_eqb}
use Rattle.item_spec.specs.Reader.{bytes}
use Rattle.item_spec.specs.Write.{digits_in, number_text, in_turn, one_text, two_text, three_text, four_text}
use Rattle.item_spec.proofs.Tests.{by-test}
use Rattle.model.specs.declared.Instruction.{Instruction}
use Rattle.model.specs.Verb.{add_verb, del_verb, pushb_verb, con_verb, dcon_verb, wait_verb, push_ticket_verb, wait_ticket_verb}
use Rattle.read_spec.specs.Place.{up_to_lf, lfs, line_number, line_start}
use Rattle.report_spec.specs.Report.{count_text}
use Rattle.write_spec.specs.Kinds.{do_text}
use Rattle.write_spec.specs.Texts.{type_text, instruction_row, sheet_text}
use Rattle.write_spec.specs.Round.{SheetsRoundTrip}
use Rattle.write_spec.proofs.Trips.{sheets-round-trip}
use Rattle.foretell_spec.specs.Lines.{instruction_line, LinesSayInstructions}

-- ---- lines
pub lfs-append : (s t : List ℕ) → lfs (s ++ t) ≡ lfs s + lfs t
unfolding lfs
lfs-append [] t = omega arith
lfs-append (c ∷ s) t =
    by-test (eqb c 10) (λ e. rw (e, lfs) (omega (arith, lfs-append s t))) (λ e. rw (e, lfs) (omega (arith, lfs-append s t)))

-- no LF but the last byte
record Line (l : List ℕ) : Type 0 where
  front : List ℕ
  is : l ≡ front ++ 10 ∷ []
  none : lfs front ≡ 0

one-lf : (l : List ℕ) → Line l → lfs l ≡ 1
unfolding lfs
one-lf l x = rw (x.is, lfs-append x.front (10 ∷ [])) (omega (arith, x.none))

-- the line itself is read off the text from there on
up_to : (u r : List ℕ) → lfs u ≡ 0 → up_to_lf (u ++ 10 ∷ r) ≡ u
unfolding lfs up_to_lf
up_to [] r e = refl
up_to (c ∷ u) r e =
    by-test (eqb c 10) (λ q. absurd (let z = rw (q, lfs) at e in omega (arith, z))) (λ q. rw (q, up_to_lf) (ap (◌∷◌ c) (up_to u r (rw (q, lfs) at e))))

-- the next line starts where this one ends
next-starts : (u r : List ℕ) → lfs u ≡ 0 → line_start 1 (u ++ 10 ∷ r) ≡ suc (length u)
unfolding lfs line_start
next-starts [] r e = refl
next-starts (c ∷ u) r e =
    by-test (eqb c 10) (λ q. absurd (let z = rw (q, lfs) at e in omega (arith, z))) (λ q. rw (q, line_start) (ap suc (next-starts u r (rw (q, lfs) at e))))

-- byte by byte
module _ (c : ℕ) (s : List ℕ) where
  lfs-lf : eqb c 10 ≡ true → lfs (c ∷ s) ≡ suc (lfs s)
  unfolding lfs
  lfs-lf q = rw (q, lfs)

  lfs-on : eqb c 10 ≡ false → lfs (c ∷ s) ≡ lfs s
  unfolding lfs
  lfs-on q = rw (q, lfs)

  start-lf : (n : ℕ) → eqb c 10 ≡ true → line_start (suc n) (c ∷ s) ≡ suc (line_start n s)
  unfolding line_start
  start-lf n q = rw (q, line_start)

  start-on : (n : ℕ) → eqb c 10 ≡ false → line_start (suc n) (c ∷ s) ≡ suc (line_start (suc n) s)
  unfolding line_start
  start-on n q = rw (q, line_start)

-- after any text that a line ends
starts-after : (x l r : List ℕ) → Line l → line_start (suc (lfs x)) ((x ++ l) ++ r) ≡ length x + length l
unfolding lfs
starts-after [] l r n =
    let e : l ++ r ≡ n.front ++ 10 ∷ r = ap (λ (y : List ℕ). y ++ r) n.is ∙ append_assoc n.front (10 ∷ []) r in
    rw e (next-starts n.front r n.none ∙ omega (arith, ap length n.is, length-append n.front (10 ∷ [])))
starts-after (c ∷ x) l r n =
    let s = (x ++ l) ++ r in
    let more : suc (line_start (suc (lfs x)) s) ≡ suc (length x) + length l = omega (arith, starts-after x l r n) in
    by-test (eqb c 10)
    (λ q. ap (λ (k : ℕ). line_start (suc k) (c ∷ s)) (lfs-lf c x q) ∙ start-lf c s (suc (lfs x)) q ∙ more)
    (λ q. ap (λ (k : ℕ). line_start (suc k) (c ∷ s)) (lfs-on c x q) ∙ start-on c s (lfs x) q ∙ more)

-- ---- what is written in a line
after : (u l : List ℕ) → lfs u ≡ 0 → Line l → Line (u ++ l)
after u l e n = record {
  front = u ++ n.front;
  is = ap (◌++◌ u) n.is ∙ sym (append_assoc u n.front (10 ∷ []));
  none = lfs-append u n.front ∙ omega (arith, e, n.none);
}

digits-plain : (n v : ℕ) → lfs (digits_in n v) ≡ 0
unfolding digits_in lfs
digits-plain zero v = refl
digits-plain (suc n) v =
    by-test (ltb v 10)
    (λ q. rw (q, digits_in, ne_eqb (48 + v) 10 (λ z. omega (arith, z)), lfs) refl)
    (λ q. rw (q, digits_in, lfs-append (digits_in n (v / 10)) _, digits-plain n (v / 10), ne_eqb (48 + v % 10) 10 (λ z. omega (arith, z)), lfs) refl)

pub number-plain : (v : ℕ) → lfs (number_text v) ≡ 0
unfolding number_text
number-plain v = digits-plain 20 v

one_line : (a : ℕ) → Line (one_text a)
unfolding one_text
one_line a = record { front = number_text a; is = refl; none = number-plain a }

comma : (a : ℕ) (l : List ℕ) → Line l → Line ((number_text a ++ bytes ",") ++ l)
unfolding lfs
comma a l n = after (number_text a ++ bytes ",") l (lfs-append (number_text a) (bytes ",") ∙ omega (arith, number-plain a)) n

two-line : (a b : ℕ) → Line (two_text a b)
unfolding two_text
two-line a b = comma a (one_text b) (one_line b)

three-line : (a b c : ℕ) → Line (three_text a b c)
unfolding three_text
three-line a b c = comma a (two_text b c) (two-line b c)

four-line : (a b c d : ℕ) → Line (four_text a b c d)
unfolding four_text
four-line a b c d = comma a (three_text b c d) (three-line b c d)

do-line : (x : Instruction) → Line (do_text x)
unfolding do_text lfs
do-line x =
    by-test (eqb x.verb add_verb) (λ q. rw q (after (bytes "do=add,") _ refl (two-line x.id x.number))) (λ q.
    by-test (eqb x.verb del_verb) (λ e. rw (q, e) (after (bytes "do=del,") _ refl (one_line x.id))) (λ e.
    by-test (eqb x.verb pushb_verb) (λ f. rw (q, e, f) (after (bytes "do=pushb,") _ refl (two-line x.id x.number))) (λ f.
    by-test (eqb x.verb con_verb) (λ g. rw (q, e, f, g) (after (bytes "do=con,") _ refl (four-line x.id x.number x.provider x.provideport))) (λ g.
    by-test (eqb x.verb dcon_verb) (λ h. rw (q, e, f, g, h) (after (bytes "do=dcon,") _ refl (four-line x.id x.number x.provider x.provideport))) (λ h.
    by-test (eqb x.verb wait_verb) (λ i. rw (q, e, f, g, h, i) (after (bytes "do=wait,") _ refl (one_line x.id))) (λ i.
    by-test (eqb x.verb push_ticket_verb) (λ j. rw (q, e, f, g, h, i, j) (after (bytes "do=pushb,") _ refl (three-line x.id x.number x.provider))) (λ j.
    by-test (eqb x.verb wait_ticket_verb) (λ k. rw (q, e, f, g, h, i, j, k) (after (bytes "do=wait,") _ refl (two-line x.id x.number)))
    (λ k. rw (q, e, f, g, h, i, j, k) (record { front = bytes "do="; is = refl; none = refl })))))))))

program-line : (n : ℕ) → Line (count_text (bytes "program=") n)
unfolding count_text lfs
program-line n = after (bytes "program=") _ refl (one_line n)

-- ---- lines in turn
in-turn : (f : ℕ → List ℕ) → ((j : ℕ) → Line (f j)) → (n : ℕ) → lfs (in_turn f n) ≡ n
unfolding in_turn lfs
in-turn f each zero = refl
in-turn f each (suc n) = lfs-append (in_turn f n) (f n) ∙ omega (arith, in-turn f each n, one-lf (f n) (each n))

-- what stands before line k, the line, and what stands after it
split : (f : ℕ → List ℕ) (n k : ℕ) → k < n → (r : List ℕ) × (in_turn f n ≡ in_turn f k ++ (f k ++ r))
unfolding in_turn
split f zero k h = absurd (omega arith)
split f (suc n) k h =
    by_cases (ℕ_discrete k n) (λ e. ([], rw e (ap (◌++◌ (in_turn f n)) (sym (append-nil (f n))))))
    (λ e. let (r, is) = split f n k (omega arith) in
    (r ++ f n, ap (λ (y : List ℕ). y ++ f n) is ∙ append_assoc (in_turn f k) (f k ++ r) (f n) ∙ ap (◌++◌ (in_turn f k)) (append_assoc (f k) r (f n))))

-- a text that a line ends
record Ended (z : List ℕ) : Type 0 where
  text : List ℕ
  last : List ℕ
  is : z ≡ text ++ last
  line : Line last

starts-there : (z r : List ℕ) → Ended z → line_start (lfs z) (z ++ r) ≡ length z
starts-there z r x =
    let e : lfs z ≡ suc (lfs x.text) = ap lfs x.is ∙ lfs-append x.text x.last ∙ omega (arith, one-lf x.last x.line) in
    rw e (ap (λ (y : List ℕ). line_start (suc (lfs x.text)) (y ++ r)) x.is ∙ starts-after x.text x.last r x.line
    ∙ omega (arith, ap length x.is, length-append x.text x.last))

ended : (z : List ℕ) → Ended z → (f : ℕ → List ℕ) → ((j : ℕ) → Line (f j)) → (k : ℕ) → Ended (z ++ in_turn f k)
unfolding in_turn
ended z x f each zero = rw (append-nil z) x
ended z x f each (suc k) = record { text = z ++ in_turn f k; last = f k; is = sym (append_assoc z (in_turn f k) (f k)); line = each k }

-- the line that starts there
line-there : (z l r : List ℕ) → Line l → up_to_lf (drop (length z) (z ++ (l ++ r))) ++ bytes "\n" ≡ l
line-there z l r n =
    let e : l ++ r ≡ n.front ++ 10 ∷ r = ap (λ (y : List ℕ). y ++ r) n.is ∙ append_assoc n.front (10 ∷ []) r in
    rw (drop_at z (l ++ r) (length z) refl, e, up_to n.front r n.none) (sym n.is)

-- ---- the sheet
module _ (z : List ℕ) (x : Ended z) (f : ℕ → List ℕ) (each : (j : ℕ) → Line (f j)) (n k : ℕ) (h : k < n) where
  line-number : suc (lfs (z ++ in_turn f n)) - (n - k) - 1 ≡ lfs (z ++ in_turn f k)
  line-number =
      omega (arith, lfs-append z (in_turn f n), lfs-append z (in_turn f k), in-turn f each n, in-turn f each k)

  line-says : up_to_lf (drop (line_start (suc (lfs (z ++ in_turn f n)) - (n - k) - 1) (z ++ in_turn f n)) (z ++ in_turn f n)) ++ bytes "\n" ≡ f k
  line-says =
      let (r, is) = split f n k h in
      let e : z ++ in_turn f n ≡ (z ++ in_turn f k) ++ (f k ++ r) = ap (◌++◌ z) is ∙ sym (append_assoc z (in_turn f k) (f k ++ r)) in
      rw (line-number, e, starts-there (z ++ in_turn f k) (f k ++ r) (ended z x f each k)) (line-there (z ++ in_turn f k) (f k) r (each k))

pub lines-say-instructions : LinesSayInstructions
unfolding LinesSayInstructions SheetsRoundTrip instruction_line line_number sheet_text
lines-say-instructions s r t p k e h =
    let f : ℕ → List ℕ = λ j. do_text (instruction_row p j) in
    let a = count_text (bytes "sheet=") p.edition in
    let b = count_text (bytes "depth=") t.depth in
    let c = count_text (bytes "types=") t.count in
    let d = in_turn (type_text t) t.count in
    let g = count_text (bytes "program=") p.count in
    let z : List ℕ = (a ++ (b ++ (c ++ d))) ++ g in
    let is : s ≡ z ++ in_turn f p.count
    = (sheets-round-trip.read-is-written s r (t, p) e).1
    ∙ ap (λ (y : List ℕ). a ++ (b ++ y)) (sym (append_assoc c d (g ++ in_turn f p.count)))
    ∙ ap (◌++◌ a) (sym (append_assoc b (c ++ d) (g ++ in_turn f p.count)))
    ∙ sym (append_assoc a (b ++ (c ++ d)) (g ++ in_turn f p.count))
    ∙ sym (append_assoc (a ++ (b ++ (c ++ d))) g (in_turn f p.count)) in
    rw (take_all (length s) s (omega arith), is)
    (line-says z (record { text = a ++ (b ++ (c ++ d)); last = g; is = refl; line = program-line p.count }) f (λ j. do-line (instruction_row p j)) p.count k h)
