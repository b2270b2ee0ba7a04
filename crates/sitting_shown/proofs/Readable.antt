-- What is shown is printable, can be read back, and has at most four bytes for each of the text.
-- Assumes nothing.
use Prim.Native.Nat.{ℕ, ◌+◌, ◌-◌, ◌/◌, ◌%◌, ◌≤◌, ◌<◌, zero-le}
use mathlib.Core.Bool.{true, false, ◌&&◌, not, true≢false}
use mathlib.Core.Path.{◌≡◌, refl, ap, sym, ◌∙◌}
use mathlib.Core.List.{List, [], ◌∷◌, ◌++◌, append_assoc, append-nil}
use native.Mathlib.Omega.{arith}
use lib.Dec.{leb, ltb, eqb}
use lib.ListN.{length, length-append}
use borrow.Author.Tests.{leb-true, ltb-true, ltb-false, eq-eqb, ne_eqb, not-true}
use Rattle.item_spec.proofs.Tests.{by-test, and_left, and_right}
use Rattle.sitting_shown.specs.declared.Among.{Among}
use Rattle.sitting_shown.specs.declared.Among.TheVariants as among
use Rattle.sitting_shown.specs.Shown.{plain, quote, markup, separator, formula, more, itself, hex_digit, shown_byte, shown, cell}
use Rattle.sitting_shown.specs.Readable.{Each, Printable, AlwaysPrintable, NothingMore, NoTwoAlike, FourTimes, InPieces, CellsArePrintable, CellsFourTimes, CellsAreWhole, First, NoFormula, NoTwoCellsAlike}

-- ---- a byte, and a digit

plain-told : (b : ℕ) → plain b ≡ true → Printable b × (b ≡ 92 → ⊥)
unfolding plain
plain-told b e =
    let more = and_right (leb 33 b) (leb b 126 && not (eqb b 92)) e in
    let apart = and_right (leb b 126) (not (eqb b 92)) more in (
      (leb-true 33 b (and_left (leb 33 b) (leb b 126 && not (eqb b 92)) e), leb-true b 126 (and_left (leb b 126) (not (eqb b 92)) more)),
      λ h. true≢false (sym (rw (eq-eqb b 92 h) at apart)),
    )

digit-told : {W : Type 0} (d : ℕ) → (d < 10 → hex_digit d ≡ 48 + d → W) → (10 ≤ d → hex_digit d ≡ 97 + (d - 10) → W) → W
unfolding hex_digit
digit-told d f g =
    by-test (ltb d 10)
    (λ e. f (ltb-true d 10 e) (rw (e, hex_digit)))
    (λ e. g (ltb-false d 10 e) (rw (e, hex_digit)))

-- ---- printable

digit-printable : (d : ℕ) → d < 16 → Printable (hex_digit d)
digit-printable d h = digit-told d (λ l e. (omega (arith, e), omega (arith, e))) (λ l e. (omega (arith, e), omega (arith, e)))

pub each_append : (P : ℕ → Type 0) (s t : List ℕ) → Each P s → Each P t → Each P (s ++ t)
each_append P [] t p q = q
each_append P (b ∷ s) t p q = (p.0, each_append P s t p.1 q)

-- what stands for itself is plain, and means no more
itself-plain : (a : Among) (b : ℕ) → itself a b ≡ true → plain b ≡ true
unfolding itself
itself-plain a b e = and_left (plain b) (not (more a b)) e

itself-no-more : (a : Among) (b : ℕ) → itself a b ≡ true → more a b ≡ false
unfolding itself
itself-no-more a b e = not-true (more a b) (and_right (plain b) (not (more a b)) e)

byte-printable : (a : Among) (b : ℕ) → Each Printable (shown_byte a b)
unfolding shown_byte
byte-printable a b =
    by-test (itself a b)
    (λ e. rw (e, shown_byte) ((plain-told b (itself-plain a b e)).0, tt))
    (λ e. rw (e, shown_byte) ((omega arith, omega arith), ((omega arith, omega arith), (digit-printable (b / 16 % 16) (omega arith), (digit-printable (b % 16) (omega arith), tt)))))

pub always-printable : AlwaysPrintable
unfolding AlwaysPrintable shown
always-printable a [] = tt
always-printable a (b ∷ s) = each_append Printable (shown_byte a b) (shown a s) (byte-printable a b) (always-printable a s)

pub cells-are-printable : CellsArePrintable
unfolding CellsArePrintable AlwaysPrintable cell
cells-are-printable [] = tt
cells-are-printable (b ∷ s) = each_append Printable (shown_byte among.Head b) (shown among.Cell s) (byte-printable among.Head b) (always-printable among.Cell s)

-- ---- nothing that means more

-- a byte from 48 to 57, from 97 to 102, 92 or 120 means no more anywhere
abbrev Digit : ℕ → Type 0
Digit b = (b ≡ 60 → ⊥) × ((b ≡ 62 → ⊥) × ((58 ≤ b → 65 ≤ b) × (48 ≤ b)))

no-quote : (b : ℕ) → Digit b → quote b ≡ false
unfolding quote
no-quote b d = rw (ne_eqb b 34 (λ e. omega (arith, e, d.1.1.1)), ne_eqb b 39 (λ e. omega (arith, e, d.1.1.1)), quote)

no-markup : (b : ℕ) → Digit b → markup b ≡ false
unfolding markup
no-markup b d = rw (ne_eqb b 38 (λ e. omega (arith, e, d.1.1.1)), ne_eqb b 60 d.0, ne_eqb b 62 d.1.0, markup) (no-quote b d)

no-separator : (b : ℕ) → Digit b → separator b ≡ false
unfolding separator
no-separator b d = rw (ne_eqb b 44 (λ e. omega (arith, e, d.1.1.1)), ne_eqb b 59 (λ e. omega (arith, e, d.1.1.0 (omega (arith, e)))), separator) (no-markup b d)

digit-no-formula : (b : ℕ) → Digit b → formula b ≡ false
unfolding formula
digit-no-formula b d =
    rw (ne_eqb b 61 (λ e. omega (arith, e, d.1.1.0 (omega (arith, e)))), ne_eqb b 43 (λ e. omega (arith, e, d.1.1.1)), ne_eqb b 45 (λ e. omega (arith, e, d.1.1.1)), ne_eqb b 64 (λ e. omega (arith, e, d.1.1.0 (omega (arith, e)))), formula)
    (no-separator b d)

no_more : (a : Among) (b : ℕ) → Digit b → more a b ≡ false
unfolding more
no_more among.Line b d = refl
no_more among.Markup b d = no-markup b d
no_more among.Head b d = digit-no-formula b d
no_more among.Cell b d = no-separator b d

digit-digit : (d : ℕ) → d < 16 → Digit (hex_digit d)
digit-digit d h =
    digit-told d
    (λ l e. ((λ q. omega (arith, e, q)), ((λ q. omega (arith, e, q)), ((λ q. omega (arith, e, q)), omega (arith, e)))))
    (λ l e. ((λ q. omega (arith, e, q)), ((λ q. omega (arith, e, q)), ((λ q. omega (arith, e, q)), omega (arith, e)))))

byte-no-more : (a : Among) (b : ℕ) → Each (λ c. more a c ≡ false) (shown_byte a b)
unfolding shown_byte
byte-no-more a b =
    by-test (itself a b)
    (λ e. rw (e, shown_byte) (itself-no-more a b e, tt))
    (λ e. rw (e, shown_byte) (no_more a 92 (λ q. omega (arith, q), (λ q. omega (arith, q), (λ q. omega arith, omega arith))), (no_more a 120 (λ q. omega (arith, q), (λ q. omega (arith, q), (λ q. omega arith, omega arith))), (no_more a (hex_digit (b / 16 % 16)) (digit-digit _ (omega arith)), (no_more a (hex_digit (b % 16)) (digit-digit _ (omega arith)), tt)))))

pub nothing-more : NothingMore
unfolding NothingMore shown
nothing-more a [] = tt
nothing-more a (b ∷ s) = each_append (λ c. more a c ≡ false) (shown_byte a b) (shown a s) (byte-no-more a b) (nothing-more a s)

-- ---- at most four bytes

byte-short : (a : Among) (b : ℕ) → length (shown_byte a b) ≤ 4
unfolding shown_byte
byte-short a b = by-test (itself a b) (λ e. rw (e, shown_byte) (omega arith)) (λ e. rw (e, shown_byte) (omega arith))

pub four-times : FourTimes
unfolding FourTimes shown
four-times a [] = zero-le
four-times a (b ∷ s) = simp length-append (omega (arith, byte-short a b, four-times a s))

pub cells-four-times : CellsFourTimes
unfolding CellsFourTimes FourTimes cell
cells-four-times [] = zero-le
cells-four-times (b ∷ s) = simp length-append (omega (arith, byte-short among.Head b, four-times among.Cell s))

pub in_pieces : InPieces
unfolding InPieces shown
in_pieces a [] t = refl
in_pieces a (b ∷ s) t = ap (◌++◌ (shown_byte a b)) (in_pieces a s t) ∙ sym (append_assoc (shown_byte a b) (shown a s) (shown a t))

-- ---- read back

one-digit : (d e : ℕ) → d < 16 → e < 16 → hex_digit d ≡ hex_digit e → d ≡ e
one-digit d e h g q =
    digit-told d
    (λ l p. digit-told e (λ m r. omega (arith, p, q, r)) (λ m r. omega (arith, p, q, r)))
    (λ l p. digit-told e (λ m r. omega (arith, p, q, r)) (λ m r. omega (arith, p, q, r)))

two_digits : (a b : ℕ) → a < 256 → b < 256 → a / 16 % 16 ≡ b / 16 % 16 → a % 16 ≡ b % 16 → a ≡ b
two_digits a b h g p q = omega (arith, p, q)

-- the first byte of what is shown tells itself from what comes after
module _ (w : Among) (a b : ℕ) (s t : List ℕ) (h : a < 256) (g : b < 256) (q : shown_byte w a ++ s ≡ shown_byte w b ++ t) where
  first : (a ≡ b) × (s ≡ t)
  unfolding shown_byte
  first =
      by-test (itself w a)
      (λ e. by-test (itself w b)
      (λ f. let k : a ∷ s ≡ b ∷ t = rw (e, f, shown_byte) at q in (cc, cc))
      (λ f. let k : a ∷ s ≡ 92 ∷ 120 ∷ hex_digit (b / 16 % 16) ∷ hex_digit (b % 16) ∷ t = rw (e, f, shown_byte) at q in absurd ((plain-told a (itself-plain w a e)).1 (cc))))
      (λ e. by-test (itself w b)
      (λ f. let k : 92 ∷ 120 ∷ hex_digit (a / 16 % 16) ∷ hex_digit (a % 16) ∷ s ≡ b ∷ t = rw (e, f, shown_byte) at q in absurd ((plain-told b (itself-plain w b f)).1 (cc)))
      (λ f.
      let k : 92 ∷ 120 ∷ hex_digit (a / 16 % 16) ∷ hex_digit (a % 16) ∷ s ≡ 92 ∷ 120 ∷ hex_digit (b / 16 % 16) ∷ hex_digit (b % 16) ∷ t = rw (e, f, shown_byte) at q in
      (two_digits a b h g (one-digit _ _ (omega arith) (omega arith) (cc)) (one-digit _ _ (omega arith) (omega arith) (cc)), cc)))

first_more : (a : Among) (b : ℕ) (s : List ℕ) → shown_byte a b ++ s ≡ [] → ⊥
unfolding shown_byte
first_more a b s q = by-test (itself a b) (λ e. omega (arith, ap length (rw (e, shown_byte) at q))) (λ e. omega (arith, ap length (rw (e, shown_byte) at q)))

pub no-two-alike : NoTwoAlike
unfolding NoTwoAlike shown
no-two-alike k [] [] p r q = refl
no-two-alike k [] (b ∷ t) p r q = absurd (first_more k b (shown k t) (sym q))
no-two-alike k (a ∷ s) [] p r q = absurd (first_more k a (shown k s) q)
no-two-alike k (a ∷ s) (b ∷ t) p r q =
    let w = first k a b (shown k s) (shown k t) p.0 r.0 q in
    let same = no-two-alike k s t p.1 r.1 w.1 in
    cc w.0

-- ---- cells

or-last : (b : ℕ) → separator b ≡ true → formula b ≡ true
unfolding formula
or-last b f =
    by-test (eqb b 61) (λ p. rw (p, formula)) (λ p.
    by-test (eqb b 43) (λ q. rw (p, q, formula)) (λ q.
    by-test (eqb b 45) (λ r. rw (p, q, r, formula)) (λ r.
    by-test (eqb b 64) (λ s. rw (p, q, r, s, formula)) (λ s. rw (p, q, r, s, formula) f))))

-- what begins no formula ends no cell
formula-separator : (b : ℕ) → formula b ≡ false → separator b ≡ false
formula-separator b e = by-test (separator b) (λ f. absurd (true≢false (sym (or-last b f) ∙ e))) (λ f. f)

pub each_map : (P Q : ℕ → Type 0) → ((b : ℕ) → P b → Q b) → (s : List ℕ) → Each P s → Each Q s
each_map P Q f [] p = tt
each_map P Q f (b ∷ s) p = (f b p.0, each_map P Q f s p.1)

head-no-formula : (b : ℕ) → Each (λ c. formula c ≡ false) (shown_byte among.Head b)
unfolding more
head-no-formula b = byte-no-more among.Head b

rest-whole : (s : List ℕ) → Each (λ c. separator c ≡ false) (shown among.Cell s)
unfolding more NothingMore
rest-whole s = nothing-more among.Cell s

pub cells-are-whole : CellsAreWhole
unfolding CellsAreWhole cell
cells-are-whole [] = tt
cells-are-whole (b ∷ s) =
    each_append (λ c. separator c ≡ false) (shown_byte among.Head b) (shown among.Cell s)
    (each_map (λ c. formula c ≡ false) (λ c. separator c ≡ false) formula-separator (shown_byte among.Head b) (head-no-formula b))
    (rest-whole s)

first_of : (P : ℕ → Type 0) (s t : List ℕ) → (s ≡ [] → ⊥) → Each P s → First P (s ++ t)
first_of P [] t n p = absurd (n refl)
first_of P (b ∷ s) t n p = p.0

pub no-formula : NoFormula
unfolding NoFormula cell
no-formula [] = tt
no-formula (b ∷ s) = first_of (λ c. formula c ≡ false) (shown_byte among.Head b) (shown among.Cell s) (λ e. first_more among.Head b [] (append-nil _ ∙ e)) (head-no-formula b)

pub no-two-cells-alike : NoTwoCellsAlike
unfolding NoTwoCellsAlike cell NoTwoAlike
no-two-cells-alike [] [] p r q = refl
no-two-cells-alike [] (b ∷ t) p r q = absurd (first_more among.Head b (shown among.Cell t) (sym q))
no-two-cells-alike (a ∷ s) [] p r q = absurd (first_more among.Head a (shown among.Cell s) q)
no-two-cells-alike (a ∷ s) (b ∷ t) p r q =
    let w = first among.Head a b (shown among.Cell s) (shown among.Cell t) p.0 r.0 q in
    let same = no-two-alike among.Cell s t p.1 r.1 w.1 in
    cc w.0
