-- Each kind of line that is read is a row: its numbers and lists are cells.
-- Assumes nothing.
use Prim.Native.Nat.{ℕ, zero, suc, ◌+◌, ◌/◌, ◌%◌, ◌<◌}
use mathlib.Core.List.{List, [], ◌∷◌, ◌++◌, append_assoc}
use mathlib.Core.Bool.{true}
use mathlib.Core.Path.{◌≡◌, refl, ap}
use native.Mathlib.Omega.{arith}
use lib.Dec.{eqb, ltb}
use lib.ListN.{length, length-append}
use borrow.Author.Tests.{ne_eqb, eqb-false, ltb-true, lt-leb}
use Rattle.item_spec.specs.Reader.{byte, bytes}
use Rattle.item_spec.specs.Write.{digits_in, number_text, members, more_text, list_text, mask_text, one_text, two_text, three_text, four_text}
use Rattle.item_spec.proofs.Tests.{by-test}
use Rattle.model.specs.declared.Instruction.{Instruction}
use Rattle.model.specs.Verb.{add_verb, del_verb, pushb_verb, con_verb, dcon_verb, wait_verb, push_ticket_verb, wait_ticket_verb}
use Rattle.report_spec.specs.Report.{count_text}
use Rattle.write_spec.specs.Kinds.{sets_text, initial_text, tran_text, behavior_text, port_line_text, port_fault, do_text, do_fault}
use Rattle.form_spec.proofs.Rows.{plain, plains, plains-append, Cell, Rest, ends, then-cell, Row, row}

-- ---- numbers and lists
digit-plain : (x : ℕ) → x < 10 → plain (48 + x) ≡ true
unfolding plain
digit-plain x h = rw (ne_eqb (48 + x) 10 (λ e. omega (arith, e)), ne_eqb (48 + x) 13 (λ e. omega (arith, e)), ne_eqb (48 + x) 44 (λ e. omega (arith, e)), ne_eqb (48 + x) 61 (λ e. omega (arith, e)), ne_eqb (48 + x) 35 (λ e. omega (arith, e)))

one_plain : (x : ℕ) → x < 10 → plains ((48 + x) ∷ []) ≡ true
unfolding plains
one_plain x h = rw (digit-plain x h)

digits-plain : (n v : ℕ) → plains (digits_in n v) ≡ true
unfolding digits_in plains
digits-plain zero v = refl
digits-plain (suc n) v =
    by-test (ltb v 10) (λ e. rw (e, digits_in) (one_plain v (ltb-true v 10 e)))
    (λ e. rw (e, digits_in) (plains-append (digits_in n (v / 10)) ((48 + v % 10) ∷ []) (digits-plain n (v / 10)) (one_plain (v % 10) (omega arith))))

digits-some : (n v : ℕ) → 0 < length (digits_in (suc n) v)
unfolding digits_in
digits-some n v =
    by-test (ltb v 10) (λ e. rw (e, digits_in) (omega arith))
    (λ e. rw (e, digits_in) (omega (arith, length-append (digits_in n (v / 10)) ((48 + v % 10) ∷ []))))

number-cell : (v : ℕ) → Cell (number_text v)
unfolding number_text
number-cell v = record { all_plain = digits-plain 20 v; some = digits-some 19 v }

more-plain : (vs : List ℕ) → plains (more_text vs) ≡ true
unfolding more_text plains plain
more-plain [] = refl
more-plain (v ∷ vs) = plains-append (number_text v) (more_text vs) (number-cell v).all_plain (more-plain vs)

list-cell : (vs : List ℕ) → Cell (list_text vs)
unfolding list_text plains plain
list-cell [] = record { all_plain = refl; some = omega arith }
list-cell (v ∷ vs) = record {
  all_plain = plains-append (number_text v) (more_text vs) (number-cell v).all_plain (more-plain vs);
  some = omega (arith, length-append (number_text v) (more_text vs), (number-cell v).some);
}

mask-cell : (m : ℕ) → Cell (mask_text m)
unfolding mask_text
mask-cell m = list-cell (members m)

-- ---- what follows a word
rest-one : (a : ℕ) → Rest (bytes "," ++ one_text a)
unfolding one_text
rest-one a = then-cell (number_text a) (bytes "\n") (number-cell a) ends

rest-two : (a b : ℕ) → Rest (bytes "," ++ two_text a b)
unfolding two_text
rest-two a b = rw (append_assoc (number_text a) (bytes ",") (one_text b)) (then-cell (number_text a) (bytes "," ++ one_text b) (number-cell a) (rest-one b))

rest-three : (a b c : ℕ) → Rest (bytes "," ++ three_text a b c)
unfolding three_text
rest-three a b c = rw (append_assoc (number_text a) (bytes ",") (two_text b c)) (then-cell (number_text a) (bytes "," ++ two_text b c) (number-cell a) (rest-two b c))

rest-four : (a b c d : ℕ) → Rest (bytes "," ++ four_text a b c d)
unfolding four_text
rest-four a b c d = rw (append_assoc (number_text a) (bytes ",") (three_text b c d)) (then-cell (number_text a) (bytes "," ++ three_text b c d) (number-cell a) (rest-three b c d))

rest-sets : (a b : ℕ) → Rest (bytes "," ++ sets_text a b)
rest-sets a b =
    rw (append_assoc (mask_text a ++ bytes ",") (mask_text b) (bytes "\n"), append_assoc (mask_text a) (bytes ",") (mask_text b ++ bytes "\n"))
    (then-cell (mask_text a) _ (mask-cell a) (then-cell (mask_text b) (bytes "\n") (mask-cell b) ends))

-- ---- the kinds of lines
pub edition-row : (n : ℕ) → Row (bytes "sheet=") (count_text (bytes "sheet=") n)
unfolding count_text one_text plains plain
edition-row n = row (byte "s") (bytes "heet") (number_text n) (bytes "\n") refl (number-cell n) ends _ refl

pub depth-row : (n : ℕ) → Row (bytes "depth=") (count_text (bytes "depth=") n)
unfolding count_text one_text plains plain
depth-row n = row (byte "d") (bytes "epth") (number_text n) (bytes "\n") refl (number-cell n) ends _ refl

pub type_row : (n : ℕ) → Row (bytes "type=") (count_text (bytes "type=") n)
unfolding count_text one_text plains plain
type_row n = row (byte "t") (bytes "ype") (number_text n) (bytes "\n") refl (number-cell n) ends _ refl

pub initial-row : (m : ℕ) → Row (bytes "initial=") (initial_text m)
unfolding initial_text plains plain
initial-row m = row (byte "i") (bytes "nitial") (mask_text m) (bytes "\n") refl (mask-cell m) ends _ refl

pub tran-row : (y : ℕ × ℕ) → Row (bytes "tran=") (tran_text y)
unfolding tran_text two_text plains plain
tran-row y =
    row (byte "t") (bytes "ran") (number_text y.0) (bytes "," ++ one_text y.1) refl (number-cell y.0) (rest-one y.1) _
    (ap (λ (z : List ℕ). bytes "tran=" ++ z) (append_assoc (number_text y.0) (bytes ",") (one_text y.1)))

pub behavior-row : (m : ℕ) → Row (bytes "behavior=") (behavior_text m)
unfolding behavior_text plains plain
behavior-row m = row (byte "b") (bytes "ehavior") (mask_text m) (bytes "\n") refl (mask-cell m) ends _ refl

-- a row of `port` whose kind is w, of `do` whose verb is w, and what follows it
port-of : (w y : List ℕ) → Cell w → Rest y → Row (bytes "port=") (bytes "port=" ++ (w ++ y))
unfolding plains plain
port-of w y c r = row (byte "p") (bytes "ort") w y refl c r _ refl

do-of : (w y : List ℕ) → Cell w → Rest y → Row (bytes "do=") (bytes "do=" ++ (w ++ y))
unfolding plains plain
do-of w y c r = row (byte "d") (bytes "o") w y refl c r _ refl

pub port-row : (n k m : ℕ) (y : ℕ × ℕ × ℕ) → port_fault n k m y ≡ 0 → Row (bytes "port=") (port_line_text y)
unfolding port_line_text port_fault plains plain
port-row n k m y f =
    let rest = rest-sets y.1 y.2 in
    by-test (eqb y.0 1) (λ u. rw u (port-of (bytes "use") _ (record { all_plain = refl; some = omega arith }) rest))
    λ u. by-test (eqb y.0 0) (λ z. rw (u, z) (port-of (bytes "provide") _ (record { all_plain = refl; some = omega arith }) rest))
    λ z. absurd (let q : ◌≡◌ {A = ℕ} 2 0 = rw (lt-leb y.0 1 (omega (arith, eqb-false y.0 1 u, eqb-false y.0 0 z))) at f in omega arith)

pub do-row : (f n : ℕ) (x : Instruction) → do_fault f n x ≡ 0 → Row (bytes "do=") (do_text x)
unfolding do_text do_fault plains plain
do-row f n x z =
    by-test (eqb x.verb add_verb) (λ a. rw a (do-of (bytes "add") _ (record { all_plain = refl; some = omega arith }) (rest-two x.id x.number)))
    λ a. by-test (eqb x.verb del_verb) (λ d. rw (a, d) (do-of (bytes "del") _ (record { all_plain = refl; some = omega arith }) (rest-one x.id)))
    λ d. by-test (eqb x.verb pushb_verb) (λ b. rw (a, d, b) (do-of (bytes "pushb") _ (record { all_plain = refl; some = omega arith }) (rest-two x.id x.number)))
    λ b. by-test (eqb x.verb con_verb) (λ c. rw (a, d, b, c) (do-of (bytes "con") _ (record { all_plain = refl; some = omega arith }) (rest-four x.id x.number x.provider x.provideport)))
    λ c. by-test (eqb x.verb dcon_verb) (λ e. rw (a, d, b, c, e) (do-of (bytes "dcon") _ (record { all_plain = refl; some = omega arith }) (rest-four x.id x.number x.provider x.provideport)))
    λ e. by-test (eqb x.verb wait_verb) (λ w. rw (a, d, b, c, e, w) (do-of (bytes "wait") _ (record { all_plain = refl; some = omega arith }) (rest-one x.id)))
    λ w. by-test (eqb x.verb push_ticket_verb) (λ g. rw (a, d, b, c, e, w, g) (do-of (bytes "pushb") _ (record { all_plain = refl; some = omega arith }) (rest-three x.id x.number x.provider)))
    λ g. by-test (eqb x.verb wait_ticket_verb) (λ i. rw (a, d, b, c, e, w, g, i) (do-of (bytes "wait") _ (record { all_plain = refl; some = omega arith }) (rest-two x.id x.number)))
    λ i. absurd (let q : ◌≡◌ {A = ℕ} 2 0 = rw (a, d, b, c, e, w, g, i) at z in omega arith)
