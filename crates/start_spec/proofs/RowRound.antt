-- An instance's line as a report shows it, with its queue and its last ticket, is read as what it shows.
-- Assumes nothing.
use mathlib.Core.Path.{◌≡◌, refl, ap, ap₂, ◌∙◌}
use mathlib.Core.Logic.{◌≢◌, by_cases}
use mathlib.Core.List.{List, [], ◌∷◌, ◌++◌, append_assoc}
use mathlib.Core.Bool.{Bool, true, false, ◌&&◌, cond}
use Prim.Native.Nat.{ℕ, zero, suc, ◌+◌, ◌-◌, ◌*◌, ◌/◌, ◌%◌, ◌^◌, ◌≤◌, ◌<◌}
use native.Mathlib.Omega.{arith}
use native.Mathlib.Decide.{dec_lt}
use lib.Dec.{eqb}
use lib.ListN.{length, length-append, get_or}
use borrow.Author.Tests.{ne_eqb, le-leb, lt-ltb}
use Rattle.item_spec.specs.Reader.{Reply, Reader, got, refused, bytes, byte}
use Rattle.item_spec.specs.Read.{key, given, upon, number, number_from, digit}
use Rattle.item_spec.specs.Write.{only_if, digits_in, number_text}
use Rattle.item_spec.specs.Items.{item_then, items_in, items}
use Rattle.item_spec.proofs.Round.{key-round, number-round, number-ended, number-unended, mask-round, top_of, comma}
use Rattle.item_spec.proofs.Laws.{text-digit, text-last, digits_lt}
use Rattle.model.specs.declared.Tables.{Tables}
use Rattle.model.specs.declared.Instance.{Instance}
use Rattle.model.specs.declared.Configuration.{Configuration}
use Rattle.model.specs.View.{behavior_in, stamp_in, behavior_of, instance, queue_of, list_of}
use Rattle.read_spec.specs.Limits.{has_tickets}
use Rattle.report_spec.specs.Report.{slot_text, more_slots, queue_text}
use Rattle.report_spec.proofs.Plain.{slot-plain}
use Rattle.start_spec.specs.Row.{Row, plain_item, ticket_item, last_form, plain_queue, ticket_queue, queue_in, slots_of, items_ok, tickets_ok, head_of, row_ok, held_ok, instance_line}
use Rattle.start_spec.specs.Round.{last_text, row_text}

-- what a slot says as an item
abbrev pub item_of : ℕ → ℕ × ℕ
item_of x = (behavior_in x, stamp_in x)

unfoldable pub items_of : List ℕ → List (ℕ × ℕ)
items_of [] = []
items_of (x ∷ q) = item_of x ∷ items_of q

items-slots : (q : List ℕ) → slots_of (items_of q) ≡ q
unfolding slots_of items_of
items-slots [] = refl
items-slots (x ∷ q) = ap₂ ◌∷◌ (let e : stamp_in x * 8 + behavior_in x ≡ x = omega arith in e) (items-slots q)

pub items-length : (q : List ℕ) → length (items_of q) ≡ length q
unfolding items_of
items-length [] = refl
items-length (x ∷ q) = ap suc (items-length q)

-- a slot begins with its behavior's one digit
no-dash : (z x : ℕ) (s : List ℕ) → key (byte "-" ∷ z ∷ []) (slot_text x ++ s) ≡ refused 2
unfolding slot_text key
no-dash z x s =
    let h : behavior_in x < 10 = omega arith in
    rw (text-digit (behavior_in x) h, ne_eqb (byte "0" + behavior_in x) (byte "-") (λ e. omega arith), key)

slot-some : (x : ℕ) → 1 ≤ length (slot_text x)
unfolding slot_text
slot-some x =
    let h : behavior_in x < 10 = omega arith in
    rw (text-digit (behavior_in x) h) (omega arith)

-- every slot has P
abbrev pub Every : (ℕ → Type 0) → List ℕ → Type 0
Every P [] = Unit {0}
Every P (x ∷ q) = P x × Every P q

pub every-at : (P : ℕ → Type 0) (n : ℕ) (f : ℕ → ℕ) → ((r : ℕ) → r < n → P (f r)) → Every P (list_of n f)
unfolding list_of
every-at P zero f h = tt
every-at P (suc n) f h = (h 0 (omega arith), every-at P n (λ r. f (suc r)) (λ r l. h (suc r) (omega arith)))

-- a queue that was written is read, where m reads its slots up to z
module _ (m : ℕ → Reader (ℕ × ℕ)) (z : ℕ) (P : ℕ → Type 0)
    (last : (x : ℕ) → P x → (s : List ℕ) → m z (slot_text x ++ (z ∷ s)) ≡ got (item_of x) s)
    (next : (x : ℕ) → P x → (s : List ℕ) → m (byte "+") (slot_text x ++ (byte "+" ∷ s)) ≡ got (item_of x) s)
    (not-next : (x : ℕ) → P x → (s : List ℕ) → m (byte "+") (slot_text x ++ (z ∷ s)) ≡ refused 2) where
  slots-more : (n x : ℕ) (q : List ℕ) → length q < n → P x → Every P q → (s : List ℕ) → items_in n m z (slot_text x ++ (more_slots q ++ (z ∷ s))) ≡ got (item_of x ∷ items_of q) s
  unfolding items_in item_then more_slots items_of
  slots-more zero x q l h all s = absurd (omega arith)
  slots-more (suc n) x [] l h all s = rw (not-next x h s, item_then, last x h s, items_in)
  slots-more (suc n) x (y ∷ q) l h (hy, all) s =
      rw (append_assoc (slot_text y) (more_slots q) (z ∷ s), next x h (slot_text y ++ (more_slots q ++ (z ∷ s))), item_then, slots-more n y q (omega arith) hy all s, items_in)

  more-length : (q : List ℕ) → length q ≤ length (more_slots q)
  unfolding more_slots
  more-length [] = omega arith
  more-length (x ∷ q) = omega (arith, more-length q, length-append (byte "+" ∷ slot_text x) (more_slots q))

  slots-round : (q : List ℕ) → Every P q → (s : List ℕ) → items m z (queue_text q ++ (z ∷ s)) ≡ got (items_of q) s
  unfolding items queue_text key items_of
  slots-round [] all s = rw (key-round (byte "-" ∷ z ∷ []) s, items, upon, given)
  slots-round (x ∷ q) (h, all) s =
      ap (items m z) (append_assoc (slot_text x) (more_slots q) (z ∷ s))
      ∙ rw (no-dash z x (more_slots q ++ (z ∷ s)), items, upon, given)
      (slots-more (length (slot_text x ++ (more_slots q ++ (z ∷ s)))) x q
      (omega (arith, slot-some x, more-length q, length-append (slot_text x) (more_slots q ++ (z ∷ s)), length-append (more_slots q) (z ∷ s))) h all s)

-- without tickets
abbrev pub Bare : ℕ → Type 0
Bare x = x < 8

bare-item : (x : ℕ) → x < 8 → (x, 0) ≡ item_of x
bare-item x h = ap₂ (λ (a b : ℕ). (a, b)) (omega arith) (omega arith)

bare-last : (x : ℕ) → Bare x → (s : List ℕ) → plain_item (byte "\n") (slot_text x ++ (byte "\n" ∷ s)) ≡ got (item_of x) s
bare-last x h s = rw (slot-plain x h, number-ended 5 (omega arith) (omega arith) {e = byte "\n"} (omega arith) x (omega arith) s) (ap (λ (y : ℕ × ℕ). got y s) (bare-item x h))

bare-next : (x : ℕ) → Bare x → (s : List ℕ) → plain_item (byte "+") (slot_text x ++ (byte "+" ∷ s)) ≡ got (item_of x) s
bare-next x h s = rw (slot-plain x h, number-ended 5 (omega arith) (omega arith) {e = byte "+"} (omega arith) x (omega arith) s) (ap (λ (y : ℕ × ℕ). got y s) (bare-item x h))

bare-not : (x : ℕ) → Bare x → (s : List ℕ) → plain_item (byte "+") (slot_text x ++ (byte "\n" ∷ s)) ≡ refused 2
bare-not x h s = rw (slot-plain x h, number-unended 5 (omega arith) (omega arith) {e = byte "+"} (omega arith) x (omega arith) (byte "\n") s (omega arith) refl)

-- with tickets
pub record Stamped (x : ℕ) : Type 0 where
  pub some : stamp_in x ≢ 0
  pub small : x < 2056

colon-round : (v : ℕ) → v < 8 → (s : List ℕ) → number 5 (byte ":") (number_text v ++ (byte ":" ∷ s)) ≡ got v s
unfolding number_from digit number_text digits_in
colon-round zero h s = refl
colon-round (suc zero) h s = refl
colon-round (suc (suc zero)) h s = refl
colon-round (suc (suc (suc zero))) h s = refl
colon-round (suc (suc (suc (suc zero)))) h s = refl
colon-round (suc (suc (suc (suc (suc zero))))) h s = refl
colon-round (suc (suc (suc (suc (suc (suc zero)))))) h s = refl
colon-round (suc (suc (suc (suc (suc (suc (suc zero))))))) h s = refl
colon-round (suc (suc (suc (suc (suc (suc (suc (suc v)))))))) h s = absurd (omega arith)

stamped-text : (x : ℕ) → stamp_in x ≢ 0 → (s : List ℕ) → slot_text x ++ s ≡ number_text (behavior_in x) ++ (byte ":" ∷ (number_text (stamp_in x - 1) ++ s))
unfolding slot_text
stamped-text x some s = rw (ne_eqb (stamp_in x) 0 some) (append_assoc (number_text (behavior_in x)) (byte ":" ∷ number_text (stamp_in x - 1)) s)

stamp-back : (x : ℕ) → stamp_in x ≢ 0 → suc (stamp_in x - 1) ≡ stamp_in x
stamp-back x some = omega arith

stamped-item : (x z : ℕ) → Stamped x → z < byte "0" → (s : List ℕ) → ticket_item z (slot_text x ++ (z ∷ s)) ≡ got (item_of x) s
stamped-item x z h low s =
    let k = h.small in
    ap (ticket_item z) (stamped-text x h.some (z ∷ s))
    ∙ rw (colon-round (behavior_in x) (omega arith) (number_text (stamp_in x - 1) ++ (z ∷ s)), number-ended 5 (omega arith) (omega arith) {e = z} low (stamp_in x - 1) (omega arith) s)
    (ap (λ (n : ℕ). got (behavior_in x, n) s) (stamp-back x h.some))

stamped-not : (x : ℕ) → Stamped x → (s : List ℕ) → ticket_item (byte "+") (slot_text x ++ (byte "," ∷ s)) ≡ refused 2
stamped-not x h s =
    let k = h.small in
    ap (ticket_item (byte "+")) (stamped-text x h.some (byte "," ∷ s))
    ∙ rw (colon-round (behavior_in x) (omega arith) (number_text (stamp_in x - 1) ++ (byte "," ∷ s)), number-unended 5 (omega arith) (omega arith) {e = byte "+"} (omega arith) (stamp_in x - 1) (omega arith) (byte ",") s (omega arith) refl)

-- a ticket begins with a digit
abbrev NoDash : ℕ → Type 0
NoDash n = (s : List ℕ) → key (bytes "-\n") (number_text n ++ s) ≡ refused 2

digit-alone : (n : ℕ) → n < 10 → NoDash n
unfolding key
digit-alone n h s = rw (text-digit n h, ne_eqb (byte "0" + n) (byte "-") (λ e. omega arith), key)

digit-more : (n : ℕ) → 10 ≤ n → n < 1000 → NoDash (n / 10) → NoDash n
digit-more n h g f s = rw (text-last n h (digits_lt 3 20 (omega arith) g), append_assoc (number_text (n / 10)) ((byte "0" + n % 10) ∷ []) s) (f (((byte "0" + n % 10) ∷ []) ++ s))

digit-first : (n : ℕ) → n < 1000 → NoDash n
digit-first n h =
    by_cases (dec_lt n 10) (λ a. digit-alone n a)
    (λ a. digit-more n (omega arith) h (by_cases (dec_lt (n / 10) 10) (λ b. digit-alone (n / 10) b) (λ b. digit-more (n / 10) (omega arith) (omega arith) (digit-alone (n / 10 / 10) (omega arith)))))

last-round : (l : ℕ) → l ≤ 256 → (s : List ℕ) → last_form (last_text l ++ (byte "\n" ∷ s)) ≡ got l s
unfolding last_form last_text key
last-round zero h s = refl
last-round (suc k) h s = rw (digit-first k (omega arith) (byte "\n" ∷ s), upon, given, number-ended 5 (omega arith) (omega arith) {e = byte "\n"} (omega arith) k (omega arith) s)

-- the queue of a line, and what follows it
queue-round : (e l : ℕ) (q s : List ℕ) → (has_tickets e ≡ false → Every Bare q × (l ≡ 0)) → (has_tickets e ≡ true → Every Stamped q × (l ≤ 256))
    → queue_in e (queue_text q ++ (only_if (has_tickets e) (bytes "," ++ last_text l) ++ (bytes "\n" ++ s))) ≡ got (items_of q, l) s
unfolding plain_queue ticket_queue
queue-round e l q s bare stamped = go (has_tickets e) _ refl bare stamped
  where
    go : (b : Bool) (x : List ℕ) → x ≡ queue_text q ++ (only_if b (bytes "," ++ last_text l) ++ (bytes "\n" ++ s)) → (b ≡ false → Every Bare q × (l ≡ 0)) → (b ≡ true → Every Stamped q × (l ≤ 256))
        → ◌≡◌ {A = Reply (List (ℕ × ℕ) × ℕ)}
        (elim b [ true ↦ ticket_queue x | false ↦ plain_queue x ]) (got (items_of q, l) s)
    go true x is bare stamped =
        let (all, small) = stamped refl in
        rw (
          is,
          slots-round ticket_item (byte ",") Stamped (λ x h. stamped-item x (byte ",") h (omega arith)) (λ x h. stamped-item x (byte "+") h (omega arith)) stamped-not q all (last_text l ++ (bytes "\n" ++ s)),
          last-round l small s,
        )
    go false x is bare stamped =
        let (all, none) = bare refl in
        rw (is, slots-round plain_item (byte "\n") Bare bare-last bare-next bare-not q all s, none)

-- what a queue of n slots keeps to
pub items-below : (b n : ℕ) (f : ℕ → ℕ) → ((r : ℕ) → r < n → (behavior_in (f r) < b) × (f r < 2056)) → items_ok b (items_of (list_of n f)) ≡ true
unfolding list_of items_ok items_of
items-below b zero f h = refl
items-below b (suc n) f h =
    let (k, l) = h 0 (omega arith) in
    rw (lt-ltb (behavior_in (f 0)) b k, le-leb (stamp_in (f 0)) 256 (omega arith), items-below b n (λ r. f (suc r)) (λ r l. h (suc r) (omega arith)))

pub queue-head : (t : Tables) (k n : ℕ) (f : ℕ → ℕ) → cond (eqb n 0) 0 (behavior_of t k (behavior_in (f 0))) ≡ head_of t k (list_of n f)
unfolding list_of
queue-head t k zero f = refl
queue-head t k (suc n) f = rw (ne_eqb (suc n) 0 (λ e. omega arith))

abbrev pub row_of : List ℕ → Configuration → ℕ → Row
row_of l c i = record { id = i; kind = (instance c i).kind; marked = (instance c i).marked; running = (instance c i).running; ended = (instance c i).ended; queue = queue_of c i; last = get_or l i 0 }

-- a line with these numbers is read as them
pub line-round : (e d : ℕ) (t : Tables) (m i : ℕ) (v : Instance) (q s : List ℕ) (l : ℕ) → i < 32 → v.kind < 16 → v.marked < 2 ^ 32 → v.running < 2 ^ 32 → v.ended < 2 ^ 32
    → (has_tickets e ≡ false → Every Bare q × (l ≡ 0)) → (has_tickets e ≡ true → Every Stamped q × (l ≤ 256))
    → row_ok d t i v.kind (top_of v.marked) (top_of v.running) (top_of v.ended) (items_of q) l ≡ true → (held_ok t m i v.kind v.running v.ended q && tickets_ok e q l) ≡ true
    → instance_line e d t m (row_text e i v q l ++ s) ≡ got (record { id = i; kind = v.kind; marked = v.marked; running = v.running; ended = v.ended; queue = q; last = l }) s
unfolding instance_line row_text
line-round e d t m i v q s l hi hk hm hr he bare stamped ok held =
    simp append_assoc (rw (
      key-round (bytes "instance="),
      number-round 5 (omega arith) (omega arith) comma i (omega arith),
      number-round 5 (omega arith) (omega arith) comma v.kind (omega arith),
      mask-round 5 (omega arith) (omega arith) comma v.marked hm,
      mask-round 5 (omega arith) (omega arith) comma v.running hr,
      mask-round 5 (omega arith) (omega arith) comma v.ended he,
      queue-round e l q s bare stamped,
      ok,
      items-slots q,
      held,
    ))
