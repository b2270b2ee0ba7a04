-- The line of an instance by its form, its queue and its checks; a queue pushed slot by slot.
-- Assumes nothing.
use Prim.Native.Nat.{ℕ, zero, suc, ◌+◌, ◌*◌, ◌≤◌, ◌<◌, min, zero-le}
use mathlib.Core.List.{List, [], ◌∷◌}
use mathlib.Core.Bool.{Bool, true, false, ◌&&◌}
use mathlib.Core.Path.{◌≡◌, refl, sym, ap, ◌∙◌}
use mathlib.Core.Logic.{by_cases}
use native.Mathlib.Omega.{arith}
use native.Mathlib.Decide.{dec_lt}
use native.Mathlib.Numerals.{add-one}
use lib.Dec.{leb, ltb}
use lib.ListN.{length, get_or, take, drop, set, length-take, length-set, drop_of_length-le, get_or-eq_default}
use lib.Seq.{ext_get_or, get_or-set_same}
use borrow.Author.Tests.{lt-ltb, leb-true}
use Rattle.item_spec.specs.Refusal.{beyond_limit, bad_clause, number_of}
use Rattle.item_spec.specs.Reader.{Reply, Reader, got, read_on, bytes, byte, ◌>>=◌, ◌>>◌, give, check}
use Rattle.item_spec.specs.Read.{key, number, list}
use Rattle.item_spec.proofs.Tests.{and_left, and_right}
use Rattle.model.specs.declared.Tables.{Tables}
use Rattle.model.specs.declared.Instance.{Instance}
use Rattle.model.specs.declared.Configuration.{Configuration}
use Rattle.model.specs.Empty.{absent}
use Rattle.model.specs.View.{type_of, pair_of, list_of, instance, put, with_queue}
use Rattle.model.proofs.View.{list_at, length-list}
use Rattle.read_spec.specs.Limits.{five_digits, has_tickets, list_ok, id_ok, type_ok}
use Rattle.read_items.specs.Reads.{past, fault, Reads}
use Rattle.read_start.specs.Items.{queue_by, pairs_in, queue_in, no_item, Slotted, PairedUp, QueueRead, unread, read}
use Rattle.read_start.specs.declared.items.Queue.{Queue}
use Rattle.words.specs.Parts.{in_word}
use Rattle.read_items.proofs.Limits.{form-fault, form-then}
use Rattle.read_items.proofs.Within.{in-turn}
use Rattle.rules_spec.specs.Add.{fresh, added}
use Rattle.rules_spec.specs.Closing.{renewed, zeroed}
use Rattle.rules_spec.specs.Instance.{with_queued}
use Rattle.rules_spec.specs.PushB.{pushed}
use Rattle.read_lines.specs.Runs.{onto, fault_at, RunsTo}
use Rattle.read_lines.proofs.Lines.{part}
use Rattle.read_lines.specs.declared.LineFault.{LineFault}
use Rattle.read_chain.specs.Chain.{placed}
use Rattle.read_chain.proofs.Placed.{line-put, line-stop}
use Rattle.start_spec.specs.Text.{instance_at}
use Rattle.start_spec.specs.Row as starts
use Rattle.start_spec.specs.Row.{slots_of, stamp_ok, items_ok, tickets_ok, row_ok, held_ok, instance_line, pushed_all, with_row}
use Rattle.read_start.specs.declared.rows.Lists.{Lists}
use Rattle.read_start.specs.declared.rows.Row.{Row}
use Rattle.item_spec.specs.declared.Refusal.{Refusal}
use Rattle.std.specs.declared.option.Option.TheVariants.{Some, None}
use Rattle.std.specs.declared.result.Result.{Result}
use Rattle.std.specs.declared.result.Result.TheVariants.{Ok, Err}
use Rattle.read_start.specs.Says.{listed, three_form, row_form, row_passes, row_in, row_says}
use Rattle.read_start.proofs.Laws.{drop_get, get_take}

-- ---- the line in three parts
-- the checks a and b, then x
abbrev rests : Bool → Bool → starts.Row → Reader starts.Row
rests a b x = do
  check a beyond_limit
  check b bad_clause
  give x

-- what follows the form w, by its queue q and its last ticket l
abbrev row_with : Row → List (ℕ × ℕ) → ℕ → starts.Row
row_with w q l = record {
  id = w.id;
  kind = w.kind;
  marked = w.lists.marked.mask;
  running = w.lists.running.mask;
  ended = w.lists.ended.mask;
  queue = slots_of q;
  last = l;
}

abbrev ok_with : ℕ → Tables → Row → List (ℕ × ℕ) → ℕ → Bool
ok_with d t w q l = row_ok d t w.id w.kind w.lists.marked.top w.lists.running.top w.lists.ended.top q l

abbrev held_with : ℕ → Tables → ℕ → Row → List ℕ → ℕ → Bool
held_with e t m w q l = held_ok t m w.id w.kind w.lists.running.mask w.lists.ended.mask q && tickets_ok e q l

abbrev rest_with : ℕ → ℕ → Tables → ℕ → Row → List (ℕ × ℕ) × ℕ → Reader starts.Row
rest_with e d t m w x = rests (ok_with d t w x.0 x.1) (held_with e t m w (slots_of x.0) x.1) (row_with w x.0 x.1)

abbrev row_rest : ℕ → ℕ → Tables → ℕ → Row → Reader starts.Row
row_rest e d t m w = do
  x ← queue_by (has_tickets e)
  rest_with e d t m w x

three-in : {B : Type 0} (g : Lists → Reader B) (s : List ℕ)
    → read_on (list five_digits (byte ",") s) (λ a r. read_on (list five_digits (byte ",") r) (λ x q. read_on (list five_digits (byte ",") q)
    (λ y. g (record { marked = listed a; running = listed x; ended = listed y })))) ≡ read_on (three_form s) g
unfolding three_form
three-in g s =
    in-turn (list five_digits (byte ",") s) _ _ _ (λ a r. in-turn (list five_digits (byte ",") r) _ _ _ (λ x q. in-turn (list five_digits (byte ",") q) _ _ _ (λ y p. refl)))

instance-is : (e d : ℕ) (t : Tables) (m : ℕ) (s : List ℕ) → instance_line e d t m s ≡ read_on (row_form s) (row_rest e d t m)
unfolding instance_line row_form
instance-is e d t m s =
    in-turn (key (bytes "instance=") s) _ _ _ (λ u r.
    in-turn (number five_digits (byte ",") r) _ _ _ (λ i q.
    in-turn (number five_digits (byte ",") q) _ _ _ (λ k p.
    three-in (λ l. row_rest e d t m (record { id = i; kind = k; lists = l })) p ∙ in-turn (three_form p) _ _ _ (λ l o. refl))))

-- ---- the tests
order-tests : (a b c x y f g h k : Bool) → (f ≡ true → g ≡ h) → ((a && b) && ((c && (x && y)) && (f && (g && k)))) ≡ (a && (b && (c && (x && (y && (h && (k && f)))))))
order-tests false b c x y f g h k e = refl
order-tests true false c x y f g h k e = refl
order-tests true true false x y f g h k e = refl
order-tests true true true false y f g h k e = refl
order-tests true true true true false f g h k e = refl
order-tests true true true true true true g true true e = ap (λ (b : Bool). b && true) (e refl)
order-tests true true true true true true g true false e = ap (λ (b : Bool). b && false) (e refl)
order-tests true true true true true true g false k e = ap (λ (b : Bool). b && k) (e refl)
order-tests true true true true true false g true true e = refl
order-tests true true true true true false g true false e = refl
order-tests true true true true true false g false k e = refl

slots_length : (l : List (ℕ × ℕ)) → length (slots_of l) ≡ length l
unfolding slots_of
slots_length [] = refl
slots_length (x ∷ l) = ap suc (slots_length l)

slots_at : (l : List (ℕ × ℕ)) (r : ℕ) → r < length l → get_or (slots_of l) r 0 ≡ pair_of (get_or l r no_item).0 (get_or l r no_item).1
unfolding slots_of
slots_at [] r h = absurd (omega arith)
slots_at (x ∷ l) zero h = refl
slots_at (x ∷ l) (suc r) h = slots_at l r (omega arith)

stamps-few : (n : ℕ) (l : List (ℕ × ℕ)) → items_ok n l ≡ true → (r : ℕ) → r < length l → (get_or l r no_item).1 ≤ 256
unfolding items_ok
stamps-few n [] e r h = absurd (omega arith)
stamps-few n (x ∷ l) e zero h = leb-true x.1 256 (and_right (ltb x.0 n) _ (and_left (ltb x.0 n && stamp_ok x.1) _ e))
stamps-few n (x ∷ l) e (suc r) h = stamps-few n l (and_right (ltb x.0 n && stamp_ok x.1) _ e) r (omega arith)

module _ (slots : List ℕ) (l : List (ℕ × ℕ)) (n : ℕ) (count : n ≡ length l) (in-slots : Slotted slots l) where
  pairs-are : n ≤ 8 → pairs_in slots (min n 8) ≡ l
  pairs-are h =
      let few : min n 8 ≡ n = omega arith in
      let f : ℕ → ℕ × ℕ = λ x. (get_or slots x 0, get_or slots (8 + x) 0) in
      let long : length (list_of n f) ≡ n = length-list n f in
      rw few (ext_get_or no_item (list_of n f) l (long ∙ count) (λ r k. list_at n f no_item r (omega (arith, long, k)) ∙ pair r (omega (arith, long, k, h))))
    where
      pair : (r : ℕ) → r < 8 → (get_or slots r 0, get_or slots (8 + r) 0) ≡ get_or l r no_item
      pair r k i = (in-slots.behaviors r k i, in-slots.stamps r k i)

  passes_same : (d : ℕ) (t : Tables) (w : Row) (last : ℕ) → d ≤ 8 → row_passes d t w slots n last ≡ ok_with d t w l last
  unfolding row_passes
  passes_same d t w last deep =
      order-tests (id_ok w.id) (type_ok t.count w.kind) (list_ok (type_of t w.kind).places w.lists.marked.top)
      (list_ok (type_of t w.kind).transitions w.lists.running.top) (list_ok (type_of t w.kind).transitions w.lists.ended.top)
      (leb n d) (items_ok (type_of t w.kind).behaviors (pairs_in slots (min n 8))) (items_ok (type_of t w.kind).behaviors l) (stamp_ok last)
      (λ e. ap (items_ok (type_of t w.kind).behaviors) (pairs-are (omega (arith, leb-true n d e, deep))))
      ∙ ap (λ (k : ℕ). id_ok w.id && (type_ok t.count w.kind && (list_ok (type_of t w.kind).places w.lists.marked.top
      && (list_ok (type_of t w.kind).transitions w.lists.running.top && (list_ok (type_of t w.kind).transitions w.lists.ended.top
      && (items_ok (type_of t w.kind).behaviors l && (stamp_ok last && leb k d))))))) count

  -- what stands in the slots after they are paired is the queue
  queue-is : (new : List ℕ) → PairedUp slots new → n ≤ 8 → (b : ℕ) → items_ok b l ≡ true → queue_in new n ≡ slots_of l
  queue-is new up h b ok =
      ext_get_or 0 (take n new) (slots_of l) (omega (arith, length-take n new, up.width, in-slots.width, slots_length l, count))
      (λ r k. let few : r < n = omega (arith, length-take n new, k) in get_take new n r few ∙ up.words r (omega arith) ∙ word r few ∙ sym (slots_at l r (omega (arith, count))))
    where
      word : (r : ℕ) → r < n → in_word (pair_of (get_or slots r 0) (get_or slots (8 + r) 0)) ≡ pair_of (get_or l r no_item).0 (get_or l r no_item).1
      word r k =
          rw (
            in-slots.behaviors r (omega arith),
            in-slots.stamps r (omega arith),
            lt-ltb (pair_of (get_or l r no_item).0 (get_or l r no_item).1) 4294967296 (omega (arith, in-slots.small r, stamps-few b l ok r (omega (arith, count)))),
          ) refl

pub row-short : (d : ℕ) (t : Tables) (w : Row) (slots : List ℕ) (n last : ℕ) → row_passes d t w slots n last ≡ true → n ≤ d
unfolding row_passes
row-short d t w slots n last e = leb-true n d (and_left (leb n d) _ (and_right (list_ok (type_of t w.kind).places w.lists.marked.top
    && (list_ok (type_of t w.kind).transitions w.lists.running.top && list_ok (type_of t w.kind).transitions w.lists.ended.top)) _ (and_right (id_ok w.id && type_ok t.count w.kind) _ e)))

-- its items are those that its type has
ok-items : (d : ℕ) (t : Tables) (w : Row) (q : List (ℕ × ℕ)) (l : ℕ) → ok_with d t w q l ≡ true → items_ok (type_of t w.kind).behaviors q ≡ true
ok-items d t w q l e =
    and_left (items_ok (type_of t w.kind).behaviors q) _ (and_right (list_ok (type_of t w.kind).transitions w.lists.ended.top) _
    (and_right (list_ok (type_of t w.kind).transitions w.lists.running.top) _ (and_right (list_ok (type_of t w.kind).places w.lists.marked.top) _
    (and_right (type_ok t.count w.kind) _ (and_right (id_ok w.id) _ e)))))

-- ---- the line
pub form-faulty : (e d : ℕ) (t : Tables) (m : ℕ) (s : List ℕ) → Reads s (fault 2) (row_form s) → Reads s (fault 2) (instance_line e d t m s)
form-faulty e d t m s h = rw (instance-is e d t m s) (form-fault _ (row_rest e d t m) h)

pub next-within : (s slots : List ℕ) {m : Reply (List (ℕ × ℕ) × ℕ)} {q : Queue} {at : ℕ} → QueueRead s slots m (Some (q, at)) → at ≤ length s
next-within s slots (read l w e c f) = w

pub slots-wide : (s slots : List ℕ) {m : Reply (List (ℕ × ℕ) × ℕ)} {q : Queue} {at : ℕ} → QueueRead s slots m (Some (q, at)) → length slots ≡ 16
slots-wide s slots (read l w e c f) = f.width

module _ (ed d : ℕ) (t : Tables) (m : ℕ) (s : List ℕ) (w : Row) (i : ℕ) (h : Reads s (past w i) (row_form s)) where
  pub queue-faulty : {slots : List ℕ} → QueueRead s slots (queue_by (has_tickets ed) (drop i s)) None → Reads s (fault 2) (instance_line ed d t m s)
  queue-faulty (unread e) =
      rw (instance-is ed d t m s) (form-then _ (row_rest ed d t m) h (record { within = zero-le; same = sym (ap (λ (x : Reply (List (ℕ × ℕ) × ℕ)). read_on x (rest_with ed d t m w)) e) }))

  module _ (slots : List ℕ) (q : Queue) (at : ℕ) (deep : d ≤ 8) where
    pub row-beyond : QueueRead s slots (queue_by (has_tickets ed) (drop i s)) (Some (q, at)) → row_passes d t w slots q.count q.last ≡ false → Reads s (fault 3) (instance_line ed d t m s)
    row-beyond (read l k e c f) p =
        rw (instance-is ed d t m s) (form-then _ (row_rest ed d t m) h (record {
          within = zero-le;
          same = sym (ap (λ (x : Reply (List (ℕ × ℕ) × ℕ)). read_on x (rest_with ed d t m w)) e
              ∙ ap (λ (b : Bool). rests b (held_with ed t m w (slots_of l) q.last) (row_with w l q.last) (drop at s)) (sym (passes_same slots l q.count c f d t w q.last deep) ∙ p));
        }))

    module _ (new : List ℕ) (up : PairedUp slots new) where
      pub row-clause : QueueRead s slots (queue_by (has_tickets ed) (drop i s)) (Some (q, at)) → row_passes d t w slots q.count q.last ≡ true → held_with ed t m w (queue_in new q.count) q.last ≡ false
          → Reads s (fault 4) (instance_line ed d t m s)
      row-clause (read l k e c f) p z =
          let short = row-short d t w slots q.count q.last p in
          let ok = sym (passes_same slots l q.count c f d t w q.last deep) ∙ p in
          let here = queue-is slots l q.count c f new up (omega (arith, short, deep)) _ (ok-items d t w l q.last ok) in
          rw (instance-is ed d t m s) (form-then _ (row_rest ed d t m) h (record {
            within = zero-le;
            same = sym (ap (λ (x : Reply (List (ℕ × ℕ) × ℕ)). read_on x (rest_with ed d t m w)) e
                ∙ ap (λ (b : Bool). rests b (held_with ed t m w (slots_of l) q.last) (row_with w l q.last) (drop at s)) ok
                ∙ ap (λ (b : Bool). rests true b (row_with w l q.last) (drop at s)) (sym (ap (λ (x : List ℕ). held_with ed t m w x q.last) here) ∙ z));
          }))

      pub row-got : QueueRead s slots (queue_by (has_tickets ed) (drop i s)) (Some (q, at)) → row_passes d t w slots q.count q.last ≡ true → held_with ed t m w (queue_in new q.count) q.last ≡ true
          → Reads s (past (row_in w new q) at) (instance_line ed d t m s)
      row-got (read l k e c f) p z =
          let short = row-short d t w slots q.count q.last p in
          let ok = sym (passes_same slots l q.count c f d t w q.last deep) ∙ p in
          let here = queue-is slots l q.count c f new up (omega (arith, short, deep)) _ (ok-items d t w l q.last ok) in
          rw (instance-is ed d t m s) (form-then _ (row_rest ed d t m) h (record {
            within = k;
            same = sym (ap (λ (x : Reply (List (ℕ × ℕ) × ℕ)). read_on x (rest_with ed d t m w)) e
                ∙ ap (λ (b : Bool). rests b (held_with ed t m w (slots_of l) q.last) (row_with w l q.last) (drop at s)) ok
                ∙ ap (λ (b : Bool). rests true b (row_with w l q.last) (drop at s)) (sym (ap (λ (x : List ℕ). held_with ed t m w x q.last) here) ∙ z)
                ∙ ap (λ (x : List ℕ). got (record { id = w.id; kind = w.kind; marked = w.lists.marked.mask; running = w.lists.running.mask; ended = w.lists.ended.mask; queue = x; last = q.last }) (drop at s)) (sym here));
          }))

-- ---- a queue pushed slot by slot
queued-put : (c : Configuration) (i : ℕ) (v : Instance) → (instance (put c i v) i).queued ≤ v.queued
unfolding put
queued-put c i v =
    by_cases (dec_lt i (length c.instances))
    (λ l. omega (arith, ap (λ (x : Instance). x.queued) (get_or-set_same c.instances i v absent l)))
    (λ l. omega (arith, ap (λ (x : Instance). x.queued) (get_or-eq_default (set c.instances i v) absent {n = i} (omega (arith, l, length-set c.instances i v)))))

pub added-empty : (t : Tables) (c : Configuration) (i k : ℕ) → (instance (added t c i k) i).queued ≡ 0
unfolding added renewed
added-empty t c i k = omega (arith, queued-put (with_queue c (zeroed c.queue (i * 8) 8)) i (fresh t k))

-- those of a queue from r on pushed
module _ (i : ℕ) (q : List ℕ) where
  pub push-turn : (c : Configuration) (r : ℕ) → r < length q → pushed_all c i (drop r q) ≡ pushed_all (pushed c i (get_or q r 0)) i (drop (r + 1) q)
  unfolding pushed_all
  push-turn c r h = rw (drop_get q r h, add-one r)

  pub push-over : (c : Configuration) (r : ℕ) → length q ≤ r → pushed_all c i (drop r q) ≡ c
  unfolding pushed_all
  push-over c r h = rw (drop_of_length-le q {i = r} h)

pub pushed_more : (c : Configuration) (i b r : ℕ) → (instance c i).queued ≤ r → (instance (pushed c i b) i).queued ≤ r + 1
unfolding pushed with_queued
pushed_more c i b r h =
    omega (arith, h, queued-put (with_queue c (set c.queue (i * 8 + (instance c i).queued) b)) i (with_queued (instance c i) (suc (instance c i).queued)))

-- ---- the line read at a part of the text, and its row put
module _ (ed d : ℕ) (t : Tables) (m : ℕ) (c : Configuration) (lasts : List ℕ) (s : List ℕ) (start at : ℕ) (e : at ≡ min start (length s)) (slots : List ℕ)
    (r : Result (Row × Queue × ℕ) Refusal) (o : Reads (part s at) (row_says r slots) (instance_line ed d t m (part s at))) where
  pub row_put : {w : Row} {q : Queue} {used : ℕ} → Ok (w, q, used) ≡ placed at r → (j : ℕ)
      → RunsTo s (onto (with_row t c (row_in w slots q), suc w.id, set lasts w.id q.last) (at + used)) (instance_at ed d t j (c, m, lasts) (drop start s))
  unfolding instance_at row_says
  row_put p j = line-put (λ x. row_says x slots) (instance_line ed d t m) (λ x. (with_row t c x, suc x.id, set lasts x.id x.last)) s start at e r o p refl

  pub row-stop : {f : LineFault Refusal} → Err f ≡ placed at r → (j : ℕ) → RunsTo s (fault_at (number_of f.refusal) f.at) (instance_at ed d t j (c, m, lasts) (drop start s))
  unfolding instance_at row_says
  row-stop p j = line-stop (λ x. row_says x slots) (instance_line ed d t m) (λ x. (with_row t c x, suc x.id, set lasts x.id x.last)) s start at e r o p refl
