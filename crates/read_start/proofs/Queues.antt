-- Items one after the other: what was read so far, and what the next item makes of it.
-- Assumes nothing.
use Prim.Native.Nat.{ℕ, zero, suc, ◌+◌, ◌≤◌, ◌<◌}
use mathlib.Core.List.{List, [], ◌∷◌, ◌++◌, append_assoc}
use mathlib.Core.Bool.{Bool, true, false, cond, ◌&&◌, and-true, and_assoc}
use mathlib.Core.Path.{◌≡◌, refl, sym, ap, ◌∙◌}
use mathlib.Core.Logic.{by_cases}
use native.Mathlib.Omega.{arith}
use native.Mathlib.Numerals.{add-one}
use native.Mathlib.Decide.{ℕ_discrete, dec_lt}
use lib.Dec.{eqb, ltb}
use lib.ListN.{length, get_or, drop, set, replicate, length-set, length-drop, length-append, drop_of_length-le}
use lib.Seq.{get_or-set_same, get_or-set_other}
use borrow.Author.Tests.{eq-eqb, ne_eqb, lt-ltb, le-ltb}
use Rattle.item_spec.specs.Reader.{Reply, got, refused, read_on, give, byte}
use Rattle.item_spec.specs.Read.{number, number_from}
use Rattle.item_spec.specs.Write.{number_text}
use Rattle.sets.specs.Test.{all_below}
use Rattle.item_spec.specs.Items.{item_then, items_in, items}
use Rattle.item_spec.proofs.Laws.{not-both}
use Rattle.item_spec.proofs.Back.{number-back}
use Rattle.model.specs.View.{pair_of, stamp_in, list_of}
use Rattle.model.proofs.View.{list-snoc}
use Rattle.start_spec.specs.Row.{last_form, plain_queue, ticket_queue, items_ok, stamp_ok, rises_to}
use Rattle.words.specs.Parts.{in_word}
use Rattle.read_items.specs.Reads.{Reads, past, fault}
use Rattle.read_start.specs.Items.{item_in, queue_by, item_put, no_item, Slotted, PairedUp, ItemsRead, none, some, QueueRead, unread, read}
use Rattle.std.specs.declared.option.Option.TheVariants.{Some, None}
use Rattle.read_start.proofs.Laws.{drop_get}

-- ---- an item takes bytes, and its behavior has five digits at most
got-rest : {A : Type 0} {a b : A} {r s : List ℕ} → got a r ≡ got b s → r ≡ s
got-rest {r = r} {s = s} e = cc

got-value : {A : Type 0} {a b : A} {r s : List ℕ} → got a r ≡ got b s → a ≡ b
got-value {a = a} {b = b} e = cc

pub record Took (x : ℕ × ℕ) (r s : List ℕ) : Type 0 where
  pub less : length r < length s
  pub small : x.0 < 100000

pub number-took : (e : ℕ) (s : List ℕ) (v : ℕ) (r : List ℕ) → number 5 e s ≡ got v r → (length r < length s) × (v < 100000)
number-took e s v r q =
    let (is, few) = number-back 5 (omega arith) e s q in
    (omega (arith, ap length is ∙ length-append (number_text v) (e ∷ r)), few)

plain-took : (e : ℕ) (s : List ℕ) (x : ℕ × ℕ) (r : List ℕ) → item_in false e s ≡ got x r → Took x r s
plain-took e s x r q = go (number 5 e s) refl q
  where
    go : (z : Reply ℕ) → number 5 e s ≡ z → read_on z (λ b. give (b, 0)) ≡ got x r → Took x r s
    go (got b t) f q =
        let (less, few) = number-took e s b t f in
        record { less = omega (arith, less, ap length (got-rest q)); small = omega (arith, few, ap (λ (y : ℕ × ℕ). y.0) (got-value q)) }
    go (refused n) f q = not-both refl q

ticket-took : (e : ℕ) (s : List ℕ) (x : ℕ × ℕ) (r : List ℕ) → item_in true e s ≡ got x r → Took x r s
ticket-took e s x r q = first (number 5 (byte ":") s) refl q
  where
    second : (b : ℕ) (t : List ℕ) → number 5 (byte ":") s ≡ got b t → (z : Reply ℕ) → number 5 e t ≡ z → read_on z (λ k. give (b, suc k)) ≡ got x r → Took x r s
    second b t f (got k u) g q =
        let (less, few) = number-took (byte ":") s b t f in
        let (more, few₂) = number-took e t k u g in
        record { less = omega (arith, less, more, ap length (got-rest q)); small = omega (arith, few, ap (λ (y : ℕ × ℕ). y.0) (got-value q)) }
    second b t f (refused n) g q = not-both refl q

    first : (z : Reply ℕ) → number 5 (byte ":") s ≡ z → read_on z (λ b t. read_on (number 5 e t) (λ k. give (b, suc k))) ≡ got x r → Took x r s
    first (got b t) f q = second b t f (number 5 e t) refl q
    first (refused n) f q = not-both refl q

pair-took : (tickets : Bool) (e : ℕ) (s : List ℕ) (x : ℕ × ℕ) (r : List ℕ) → item_in tickets e s ≡ got x r → Took x r s
pair-took true = ticket-took
pair-took false = plain-took

item-took : (tickets : Bool) (e : ℕ) (s : List ℕ) (x : (ℕ × ℕ) × Bool) (r : List ℕ) → item_then (item_in tickets) e s ≡ got x r → Took x.0 r s
unfolding item_then
item-took tickets e s x r q = go (item_in tickets (byte "+") s) refl q
  where
    moved : (a b : ℕ × ℕ) (t u : List ℕ) → a ≡ b → t ≡ u → Took a t s → Took b u s
    moved a b t u p q h = rw (← p, ← q) h

    last : (z : Reply (ℕ × ℕ)) → item_in tickets e s ≡ z → read_on z (λ a. give (a, false)) ≡ got x r → Took x.0 r s
    last (got a t) f q = moved a x.0 t r (ap (λ (y : (ℕ × ℕ) × Bool). y.0) (got-value q)) (got-rest q) (pair-took tickets e s a t f)
    last (refused n) f q = not-both refl q

    go : (z : Reply (ℕ × ℕ)) → item_in tickets (byte "+") s ≡ z
        → elim z as (λ _. Reply ((ℕ × ℕ) × Bool)) [ got a t ↦ got (a, true) t | refused n ↦ read_on (item_in tickets e s) (λ a. give (a, false)) ] ≡ got x r → Took x.0 r s
    go (got a t) f q = moved a x.0 t r (ap (λ (y : (ℕ × ℕ) × Bool). y.0) (got-value q)) (got-rest q) (pair-took tickets (byte "+") s a t f)
    go (refused n) f q = last (item_in tickets e s) refl q

-- ---- what was read so far
unfoldable pub more : List (ℕ × ℕ) → Reply (List (ℕ × ℕ)) → Reply (List (ℕ × ℕ))
more l x = read_on x (λ rest. give (l ++ rest))

more-none : (x : Reply (List (ℕ × ℕ))) → more [] x ≡ x
unfolding more
more-none (got a r) = refl
more-none (refused n) = refl

more-more : (l : List (ℕ × ℕ)) (a : ℕ × ℕ) (x : Reply (List (ℕ × ℕ))) → more l (read_on x (λ rest. give (a ∷ rest))) ≡ more (l ++ (a ∷ [])) x
unfolding more
more-more l a (got b r) = ap (λ (y : List (ℕ × ℕ)). got y r) (sym (append_assoc l (a ∷ []) b))
more-more l a (refused n) = refl

get-snoc : (l : List (ℕ × ℕ)) (b : ℕ × ℕ) (r : ℕ) → get_or (l ++ (b ∷ [])) r no_item ≡ cond (eqb r (length l)) b (get_or l r no_item)
get-snoc [] b zero = refl
get-snoc [] b (suc r) = rw (ne_eqb (suc r) 0 (λ e. omega arith)) refl
get-snoc (a ∷ l) b zero = rw (ne_eqb 0 (suc (length l)) (λ e. omega arith)) refl
get-snoc (a ∷ l) b (suc r) =
    get-snoc l b r
    ∙ by_cases (ℕ_discrete r (length l)) (λ e. rw (eq-eqb r (length l) e, eq-eqb (suc r) (suc (length l)) (ap suc e))) (λ n. rw (ne_eqb r (length l) n, ne_eqb (suc r) (suc (length l)) (λ e. n (omega arith))))

nothing-at : (r : ℕ) → get_or {A = ℕ × ℕ} [] r no_item ≡ no_item
nothing-at zero = refl
nothing-at (suc r) = refl

zeros : (k r : ℕ) → get_or {A = ℕ} (replicate k 0) r 0 ≡ 0
zeros zero zero = refl
zeros zero (suc r) = refl
zeros (suc k) zero = refl
zeros (suc k) (suc r) = zeros k r

pub none-slotted : (slots : List ℕ) → slots ≡ replicate 16 0 → Slotted slots []
none-slotted slots z = record {
  width = ap length z;
  behaviors = λ r h. ap (λ (l : List ℕ). get_or l r 0) z ∙ zeros 16 r ∙ sym (ap (λ (x : ℕ × ℕ). x.0) (nothing-at r));
  stamps = λ r h. ap (λ (l : List ℕ). get_or l (8 + r) 0) z ∙ zeros 16 (8 + r) ∙ sym (ap (λ (x : ℕ × ℕ). x.1) (nothing-at r));
  small = λ r. let e : (get_or {A = ℕ × ℕ} [] r no_item).0 ≡ 0 = ap (λ (x : ℕ × ℕ). x.0) (nothing-at r) in omega (arith, e);
}

-- one more item in its slots
put-slotted : (slots : List ℕ) (l : List (ℕ × ℕ)) (b k : ℕ) → Slotted slots l → b < 100000 → Slotted (item_put slots (length l) b k) (l ++ ((b, k) ∷ []))
put-slotted slots l b k h few = record { width = width; behaviors = firsts; stamps = seconds; small = small }
  where
    n : ℕ
    n = length l

    new : List ℕ
    new = set (set slots n b) (8 + n) k

    inner : length (set slots n b) ≡ 16
    inner = length-set slots n b ∙ h.width

    width : length (item_put slots n b k) ≡ 16
    width = by_cases (dec_lt n 8) (λ l. rw (lt-ltb n 8 l) (length-set (set slots n b) (8 + n) k ∙ inner)) (λ l. rw (le-ltb n 8 (omega arith)) h.width)

    firsts : (r : ℕ) → r < 8 → get_or (item_put slots n b k) r 0 ≡ (get_or (l ++ ((b, k) ∷ [])) r no_item).0
    firsts r s =
        by_cases (ℕ_discrete r n)
        (λ e. rw (get-snoc l (b, k) r, eq-eqb r n e, lt-ltb n 8 (omega arith), e) (get_or-set_other (set slots n b) (8 + n) n k 0 (λ z. omega arith) ∙ get_or-set_same slots n b 0 (omega (arith, h.width))))
        (λ e. rw (get-snoc l (b, k) r, ne_eqb r n e) (by_cases (dec_lt n 8)
        (λ o. rw (lt-ltb n 8 o) (get_or-set_other (set slots n b) (8 + n) r k 0 (λ z. omega arith) ∙ get_or-set_other slots n r b 0 e ∙ h.behaviors r s))
        (λ o. rw (le-ltb n 8 (omega arith)) (h.behaviors r s))))

    seconds : (r : ℕ) → r < 8 → get_or (item_put slots n b k) (8 + r) 0 ≡ (get_or (l ++ ((b, k) ∷ [])) r no_item).1
    seconds r s =
        by_cases (ℕ_discrete r n)
        (λ e. rw (get-snoc l (b, k) r, eq-eqb r n e, lt-ltb n 8 (omega arith), e) (get_or-set_same (set slots n b) (8 + n) k 0 (omega (arith, inner))))
        (λ e. rw (get-snoc l (b, k) r, ne_eqb r n e) (by_cases (dec_lt n 8)
        (λ o. rw (lt-ltb n 8 o) (get_or-set_other (set slots n b) (8 + n) (8 + r) k 0 (λ z. e (omega arith)) ∙ get_or-set_other slots n (8 + r) b 0 (λ z. omega arith) ∙ h.stamps r s))
        (λ o. rw (le-ltb n 8 (omega arith)) (h.stamps r s))))

    small : (r : ℕ) → (get_or (l ++ ((b, k) ∷ [])) r no_item).0 < 100000
    small r = by_cases (ℕ_discrete r n) (λ e. rw (get-snoc l (b, k) r, eq-eqb r n e) few) (λ e. rw (get-snoc l (b, k) r, ne_eqb r n e) (h.small r))

pub record SoFar (tickets : Bool) (e : ℕ) (s : List ℕ) (at i n : ℕ) (slots : List ℕ) : Type 0 where
  pub items : List (ℕ × ℕ)
  pub fuel : ℕ
  pub enough : length (drop i s) ≤ fuel
  pub is : more items (items_in fuel (item_in tickets) e (drop i s)) ≡ items_in (length (drop at s)) (item_in tickets) e (drop at s)
  pub count : n ≡ length items
  pub few : n ≤ i
  pub slotted : Slotted slots items

pub no_items : (tickets : Bool) (e : ℕ) (s : List ℕ) (at : ℕ) (slots : List ℕ) → slots ≡ replicate 16 0 → SoFar tickets e s at at 0 slots
no_items tickets e s at slots z =
    record { items = []; fuel = length (drop at s); enough = omega arith; is = more-none _; count = refl; few = omega arith; slotted = none-slotted slots z }

module _ (tickets : Bool) (e : ℕ) (s : List ℕ) (at i n : ℕ) (slots : List ℕ) (h : SoFar tickets e s at i n slots) (l : i < length s) where
  -- there is fuel for one more
  fueled : (f : ℕ) → length (drop i s) ≤ f → (g : ℕ) × (f ≡ suc g)
  fueled zero q = absurd (omega (arith, length-drop i s))
  fueled (suc g) q = (g, refl)

  pub item-fault : {k : ℕ} → Reads s (fault k) (item_then (item_in tickets) e (drop i s)) → items_in (length (drop at s)) (item_in tickets) e (drop at s) ≡ refused k
  unfolding items_in more
  item-fault q = let (g, f) = fueled h.fuel h.enough in sym h.is ∙ rw (f, items_in, sym q.same, more)

  pub item-last : {b k next : ℕ} → Reads s (past ((b, k), false) next) (item_then (item_in tickets) e (drop i s))
      → items_in (length (drop at s)) (item_in tickets) e (drop at s) ≡ got (h.items ++ ((b, k) ∷ [])) (drop next s)
  unfolding items_in more
  item-last q = let (g, f) = fueled h.fuel h.enough in sym h.is ∙ rw (f, items_in, sym q.same, more)

  took : {b k next : ℕ} {m : Bool} → Reads s (past ((b, k), m) next) (item_then (item_in tickets) e (drop i s)) → Took (b, k) (drop next s) (drop i s)
  took {b} {k} {next} {m} q = item-took tickets e (drop i s) ((b, k), m) (drop next s) (sym q.same)

  pub item-moves : {b k next : ℕ} {m : Bool} → Reads s (past ((b, k), m) next) (item_then (item_in tickets) e (drop i s)) → i < next
  item-moves {b} {k} {next} {m} q = omega (arith, (took q).less, length-drop i s, length-drop next s, q.within, l)

  -- the slots with one more
  pub slot_kept : {b k next : ℕ} {m : Bool} → Reads s (past ((b, k), m) next) (item_then (item_in tickets) e (drop i s)) → Slotted (item_put slots n b k) (h.items ++ ((b, k) ∷ []))
  slot_kept {b} {k} q = rw h.count (put-slotted slots h.items b k h.slotted (took q).small)

  pub item_on : {b k next : ℕ} → Reads s (past ((b, k), true) next) (item_then (item_in tickets) e (drop i s)) → SoFar tickets e s at next (n + 1) (item_put slots n b k)
  unfolding items_in
  item_on {b} {k} {next} q =
      let (g, z) = fueled h.fuel h.enough in
      let moves = item-moves q in
      record {
        items = h.items ++ ((b, k) ∷ []);
        fuel = g;
        enough = omega (arith, h.enough, z, length-drop i s, length-drop next s, l, q.within);
        is = sym (more-more h.items (b, k) (items_in g (item_in tickets) e (drop next s))) ∙ sym (rw (z, items_in, sym q.same) at (sym h.is));
        count = omega (arith, h.count, length-append h.items ((b, k) ∷ []));
        few = omega (arith, h.few, moves);
        slotted = slot_kept q;
      }

-- at the text's end no item stands
pub items-over : (tickets : Bool) (e : ℕ) (s : List ℕ) (at i n : ℕ) (slots : List ℕ) → SoFar tickets e s at i n slots → length s ≤ i
    → items_in (length (drop at s)) (item_in tickets) e (drop at s) ≡ refused 2
unfolding items_in item_then more number_from
items-over tickets e s at i n slots h l =
    sym h.is ∙ ap (λ (r : List ℕ). more h.items (items_in h.fuel (item_in tickets) e r)) (drop_of_length-le s {i = i} l) ∙ nothing tickets h.fuel
  where
    nothing : (b : Bool) (f : ℕ) → more h.items (items_in f (item_in b) e []) ≡ refused 2
    nothing b zero = refl
    nothing true (suc f) = refl
    nothing false (suc f) = refl

-- ---- a queue, with its last ticket where there are tickets
abbrev after : Reply (List (ℕ × ℕ)) → Reply (List (ℕ × ℕ) × ℕ)
after x = read_on x (λ q r. read_on (last_form r) (λ l. give (q, l)))

module _ (s slots : List ℕ) (at : ℕ) where
  pub queue-none : ItemsRead s slots (items (item_in false) (byte "\n") (drop at s)) None → QueueRead s slots (queue_by false (drop at s)) None
  unfolding plain_queue
  queue-none (none e) = unread (ap (λ (x : Reply (List (ℕ × ℕ))). read_on x (λ q. give (q, 0))) e)

  pub queue-alone : {n next : ℕ} → ItemsRead s slots (items (item_in false) (byte "\n") (drop at s)) (Some (n, next)) → QueueRead s slots (queue_by false (drop at s)) (Some (record { count = n; last = 0 }, next))
  unfolding plain_queue
  queue-alone (some l w e c f) = read l w (ap (λ (x : Reply (List (ℕ × ℕ))). read_on x (λ q. give (q, 0))) e) c f

  pub queue-unread : ItemsRead s slots (items (item_in true) (byte ",") (drop at s)) None → QueueRead s slots (queue_by true (drop at s)) None
  unfolding ticket_queue
  queue-unread (none e) = unread (ap after e)

  pub last-unread : {n i : ℕ} → ItemsRead s slots (items (item_in true) (byte ",") (drop at s)) (Some (n, i)) → Reads s (fault 2) (last_form (drop i s))
      → QueueRead s slots (queue_by true (drop at s)) None
  unfolding ticket_queue
  last-unread (some l w e c f) h = unread (ap after e ∙ ap (λ (x : Reply ℕ). read_on x (λ k. give (l, k))) (sym h.same))

  pub queue-last : {n i last next : ℕ} → ItemsRead s slots (items (item_in true) (byte ",") (drop at s)) (Some (n, i)) → Reads s (past last next) (last_form (drop i s))
      → QueueRead s slots (queue_by true (drop at s)) (Some (record { count = n; last = last }, next))
  unfolding ticket_queue
  queue-last (some l w e c f) h = read l h.within (ap after e ∙ ap (λ (x : Reply ℕ). read_on x (λ k. give (l, k))) (sym h.same)) c f

-- ---- every item of the slots
items-snoc : (n : ℕ) (l : List (ℕ × ℕ)) (x : ℕ × ℕ) → items_ok n (l ++ (x ∷ [])) ≡ (items_ok n l && (ltb x.0 n && stamp_ok x.1))
unfolding items_ok
items-snoc n [] x = and-true (ltb x.0 n && stamp_ok x.1)
items-snoc n (y ∷ l) x =
    ap (λ (b : Bool). (ltb y.0 n && stamp_ok y.1) && b) (items-snoc n l x)
    ∙ sym (and_assoc (ltb y.0 n && stamp_ok y.1) (items_ok n l) (ltb x.0 n && stamp_ok x.1))

pub items-below : (n m : ℕ) (f : ℕ → ℕ × ℕ) → items_ok n (list_of m f) ≡ all_below m (λ r. ltb (f r).0 n && stamp_ok (f r).1)
unfolding all_below items_ok list_of
items-below n zero f = refl
items-below n (suc m) f =
    ap (items_ok n) (list-snoc m f) ∙ items-snoc n (list_of m f) (f m)
    ∙ ap (λ (b : Bool). b && (ltb (f m).0 n && stamp_ok (f m).1)) (items-below n m f)

-- ---- behaviors and stamps paired up to slot r
pub record Paired (old now : List ℕ) (r : ℕ) : Type 0 where
  pub many : r ≤ 8
  pub wide : length now ≡ length old
  pub done : (j : ℕ) → j < r → get_or now j 0 ≡ in_word (pair_of (get_or old j 0) (get_or old (8 + j) 0))
  pub rest : (j : ℕ) → r ≤ j → get_or now j 0 ≡ get_or old j 0

pub none-paired : (old : List ℕ) → Paired old old 0
none-paired old = record { many = omega arith; wide = refl; done = λ j h. absurd (omega arith); rest = λ j h. refl }

pub one-paired : (old now next : List ℕ) (r : ℕ) → Paired old now r → r < 8 → length now ≡ 16
    → next ≡ set now r (in_word (pair_of (get_or now r 0) (get_or now (8 + r) 0))) → Paired old next (r + 1)
one-paired old now next r h l long e = record {
  many = omega arith;
  wide = ap length e ∙ length-set now r x ∙ h.wide;
  done = λ j k. ap (λ (q : List ℕ). get_or q j 0) e ∙ by_cases (ℕ_discrete j r)
      (λ q. rw q (get_or-set_same now r x 0 (omega (arith, long)) ∙ rw (h.rest r (omega arith), h.rest (8 + r) (omega arith)) refl))
      (λ q. get_or-set_other now r j x 0 q ∙ h.done j (omega arith));
  rest = λ j k. ap (λ (q : List ℕ). get_or q j 0) e ∙ get_or-set_other now r j x 0 (λ q. omega arith) ∙ h.rest j (omega arith);
}
  where
    x : ℕ
    x = in_word (pair_of (get_or now r 0) (get_or now (8 + r) 0))

pub all-paired : (old now : List ℕ) (r : ℕ) → Paired old now r → 8 ≤ r → PairedUp old now
all-paired old now r h l = record { width = h.wide; words = λ j k. h.done j (omega arith) }

-- ---- stamps that rise to the last
module _ (last : ℕ) (q : List ℕ) where
  pub rises-none : length q ≡ 0 → true ≡ rises_to last q
  unfolding rises_to
  rises-none e = sym (ap (rises_to last) (empty q e))
    where
      empty : (l : List ℕ) → length l ≡ 0 → l ≡ []
      empty [] e = refl
      empty (a ∷ l) e = absurd (omega arith)

  pub rises-turn : (p r : ℕ) → r ≡ p + 1 → r < length q → rises_to last (drop p q) ≡ (ltb (stamp_in (get_or q p 0)) (stamp_in (get_or q r 0)) && rises_to last (drop r q))
  unfolding rises_to
  rises-turn p r e h =
      let l : p + 1 < length q = omega arith in
      rw (e, drop_get q p (omega arith), ← add-one p, drop_get q (p + 1) l) refl

  pub rises-end : (r : ℕ) → r + 1 ≡ length q → eqb (stamp_in (get_or q r 0)) last ≡ rises_to last (drop r q)
  unfolding rises_to
  rises-end r h = sym (rw (drop_get q r (omega arith), drop_of_length-le q {i = suc r} (omega arith)) refl)
