-- What is read as a start is proper: each line does what `add`, `pushb` and `con` do, and places tokens within the type.
-- Assumes nothing.
use mathlib.Core.Path.{◌≡◌, refl, sym, ap, ap₂, ◌∙◌, subst, subst⁻¹}
use mathlib.Core.Logic.{◌≢◌, by_cases}
use mathlib.Core.List.{List, [], ◌∷◌, ◌++◌, append_assoc, append-nil}
use mathlib.Core.Bool.{Bool, true, false, not, ◌&&◌, ◌||◌, cond, false≢true}
use Prim.Native.Nat.{ℕ, zero, suc, ◌+◌, ◌≤◌, ◌<◌}
use native.Mathlib.Omega.{arith}
use native.Mathlib.Decide.{ℕ_discrete}
use lib.Dec.{eqb, leb, ltb}
use lib.ListN.{length, get_or, set, length-set, length-append, get_or-eq_default}
use lib.Seq.{get_or-set_same, get_or-set_other}
use borrow.Author.Tests.{eq-eqb, ne_eqb, eqb-true, leb-true, ltb-true, not-true}
use Rattle.sets.specs.Mask.{overlaps, within, joined}
use Rattle.sets.proofs.Laws.{overlaps-none}
use Rattle.item_spec.specs.Reader.{Reply, Reader, got, refused, bytes, byte, read_on, give}
use Rattle.item_spec.specs.Read.{Set}
use Rattle.item_spec.specs.Items.{item_then, items_in, items}
use Rattle.item_spec.proofs.Tests.{by-test, and_left, and_right}
use Rattle.model.specs.declared.Tables.{Tables}
use Rattle.model.specs.declared.Program.{Program}
use Rattle.model.specs.declared.Instance.{Instance}
use Rattle.model.specs.declared.Connection.{Connection}
use Rattle.model.specs.declared.Configuration.{Configuration}
use Rattle.model.specs.Empty.{start, none_begun}
use Rattle.model.specs.View.{pair_of, behavior_in, stamp_in, list_of, queue_of, type_of, behavior_of, instance, slot, put, with_servers, is_served, port_number}
use Rattle.model.proofs.View.{all_alike, start-instance, start-slot, start-unserved, put_same, put_other}
use Rattle.read_spec.specs.Limits.{five_digits, has_tickets, list_ok, id_ok, type_ok}
use Rattle.read_spec.specs.Lines.{stop}
use Rattle.read_spec.specs.Lawful.{Lawful}
use Rattle.read_spec.proofs.Rests.{Reads, Any, Told, told-if, gives, refuses, reads_then, reads-give, reads-check, reads-key, reads_on, reads_none, limit-fault, clause-fault, Runs, runs_then, runs-give, runs-line, runs-each, runs-end, run-gives, run-stops, StopsAt}
use Rattle.read_spec.proofs.Shapes.{Masked, reads-number, reads-list, reads-four}
use Rattle.read_spec.proofs.Kept.{reads-due, reads-count, SetLawful, mask-lawful}
use Rattle.rules_spec.specs.Instance.{held, current, with_queued}
use Rattle.rules_spec.specs.Tickets.{last_stamp, Rises}
use Rattle.rules_spec.specs.Add.{fresh, added}
use Rattle.rules_spec.specs.PushB.{plain, depth_of, pushed}
use Rattle.rules_spec.specs.Con.{con_check, connected}
use Rattle.rules_spec.specs.Action.{add, pushb, con, action_check, effect}
use Rattle.rules_spec.specs.Standing.{standing}
use Rattle.rules_spec.specs.Proper.{slot_limit, ProperInstance, Proper}
use Rattle.rules_spec.proofs.Actions.{is_add, is_push, not-add, not-push}
use Rattle.rules_spec.proofs.Tables.{Facts, facts, in-mask}
use Rattle.rules_spec.proofs.Local.{change, touches, self, turn, turned_slot, Roomy, Fits, rest-after, instance-own, instance-other, slot-own, slot-other, rewired, wiring_of}
use Rattle.rules_spec.proofs.Proper.{action-proper, start-proper}
use Rattle.start_spec.specs.Row.{Row, plain_item, ticket_item, last_form, plain_queue, ticket_queue, queue_in, slots_of, stamp_ok, items_ok, rises_to, tickets_ok, head_of, row_ok, held_ok, instance_line, pushed_all, placed, with_row, ends_in, joins_ok, connection_line}
use Rattle.start_spec.specs.Text.{instances_ok, connections_ok, SoFar, instance_at, connection_at, start_lines}
use Rattle.start_spec.specs.Permitted.{Tidy, Permitted, NothingUpMayBegin, StartsArePermitted}
use Rattle.start_spec.specs.Served.{AllServed}

-- ---- nothing up
pub start-tidy : (t : Tables) → Tidy t start
start-tidy t =
    record {
      head = λ i here. absurd (false≢true (sym (ap (λ (v : Instance). v.present) (start-instance i)) ∙ here));
      gone = λ i _. start-instance i;
      free = λ i r _ _. start-slot i r;
    }

-- ---- items

-- every item has P
unfoldable pub All : {A : Type 0} → (A → Type 0) → List A → Type 0
All P [] = Unit {0}
All P (a ∷ l) = P a × All P l

either-told : {A : Type 0} {P : A → Type 0} (m : Reader A) (s : List ℕ) (x : Reply A) → Told P s x → Reads P m
    → Told {A = A × Bool} (λ y. P y.0) s (elim x [ got a r ↦ got (a, true) r | refused n ↦ read_on (m s) (λ a. give (a, false)) ])
either-told m s (got a r) (gives g p) h = gives g p
either-told m s (refused n) (refuses u) h = reads_then h (λ _ p. reads-give p) s

module _ {A : Type 0} (P : A → Type 0) (m : ℕ → Reader A) (h : (e : ℕ) → Reads P (m e)) where
  reads-item : (e : ℕ) → Reads (λ y. P y.0) (item_then m e)
  unfolding item_then
  reads-item e s = either-told (m e) s (m (byte "+") s) (h (byte "+") s) (h e)

  rest-told : (n e : ℕ) (b : Bool) → Reads (All P) (items_in n m e) → Reads (All P) (elim b [ true ↦ items_in n m e | false ↦ λ s. got [] s ])
  unfolding All
  rest-told n e true g = g
  rest-told n e false g = reads-give tt

  reads-items-in : (n e : ℕ) → Reads (All P) (items_in n m e)
  unfolding items_in All
  reads-items-in zero e = reads_none
  reads-items-in (suc n) e = reads_then (reads-item e) (λ x p. reads_then (rest-told n e x.1 (reads-items-in n e)) (λ _ q. reads-give (p, q)))

  pub reads-items : (e : ℕ) → Reads (All P) (items m e)
  unfolding items All
  reads-items e s = reads_on (byte "-" ∷ e ∷ []) (reads-give tt) (reads-items-in (length s) e) s

-- ---- the queue of a line

-- an item has a stamp just where there are tickets
pub record Kept (e : ℕ) (x : ℕ × ℕ) : Type 0 where
  pub some : has_tickets e ≡ true → x.1 ≢ 0
  pub none : has_tickets e ≡ false → x.1 ≡ 0

reads-last : Reads Any last_form
unfolding last_form
reads-last = reads_on (bytes "-\n") (reads-give tt) (reads_then (reads-number five_digits _) (λ k _. reads-give tt))

reads-queue : (e : ℕ) → Reads (λ y. All (Kept e) y.0) (queue_in e)
unfolding plain_queue ticket_queue
reads-queue e s =
    told-if (has_tickets e)
    (λ q. reads_then (reads-items (Kept e) ticket_item (λ z. reads_then (reads-number five_digits _) (λ b _. reads_then (reads-number five_digits _) (λ k _. reads-give (with-ticket q b k)))) _)
    (λ l a. reads_then reads-last (λ _ _. reads-give a)) s)
    (λ q. reads_then (reads-items (Kept e) plain_item (λ z. reads_then (reads-number five_digits _) (λ b _. reads-give (without q b))) _)
    (λ l a. reads-give a) s)
  where
    with-ticket : has_tickets e ≡ true → (b k : ℕ) → Kept e (b, suc k)
    with-ticket q b k = record { some = λ _ z. omega arith; none = λ z. absurd (false≢true (sym z ∙ q)) }

    without : has_tickets e ≡ false → (b : ℕ) → Kept e (b, 0)
    without q b = record { some = λ z. absurd (false≢true (sym q ∙ z)); none = λ _. refl }

two : (a : Bool) {b : Bool} → (a && b) ≡ true → (a ≡ true) × (b ≡ true)
two a {b} e = (and_left a b e, and_right a b e)

-- what slot r holds
record AtSlot (e n s : ℕ) : Type 0 where
  behavior : ℕ
  stamp : ℕ
  is : s ≡ pair_of behavior stamp
  below : behavior < n
  small : stamp ≤ 256
  kept : Kept e (behavior, stamp)

at_slot : (e n : ℕ) (q : List (ℕ × ℕ)) → items_ok n q ≡ true → All (Kept e) q → (r : ℕ) → r < length (slots_of q) → AtSlot e n (get_or (slots_of q) r 0)
unfolding items_ok slots_of All
at_slot e n [] ok all r h = absurd (omega arith)
at_slot e n (x ∷ q) ok (k, all) zero h =
    let (one, _) = two (ltb x.0 n && stamp_ok x.1) ok in
    let (b, s) = two (ltb x.0 n) one in
    record { behavior = x.0; stamp = x.1; is = refl; below = ltb-true x.0 n b; small = leb-true x.1 256 s; kept = record { some = k.some; none = k.none } }
at_slot e n (x ∷ q) ok (k, all) (suc r) h = at_slot e n q (and_right (ltb x.0 n && stamp_ok x.1) _ ok) all r (omega arith)

slots_length : (q : List (ℕ × ℕ)) → length (slots_of q) ≡ length q
unfolding slots_of
slots_length [] = refl
slots_length (x ∷ q) = ap suc (slots_length q)

rises-to : (l : ℕ) (q : List ℕ) → rises_to l q ≡ true → Rises q
unfolding rises_to Rises
rises-to l [] e = tt
rises-to l (s ∷ []) e = tt
rises-to l (s ∷ u ∷ q) e = (ltb-true (stamp_in s) (stamp_in u) (and_left (ltb (stamp_in s) (stamp_in u)) _ e), rises-to l (u ∷ q) (and_right (ltb (stamp_in s) (stamp_in u)) _ e))

rises-tail : (l : ℕ) (q : List ℕ) → rises_to l q ≡ true → q ≢ [] → l ≡ last_stamp q
unfolding rises_to last_stamp
rises-tail l [] e some = absurd (some refl)
rises-tail l (s ∷ []) e some = sym (eqb-true (stamp_in s) l e)
rises-tail l (s ∷ u ∷ q) e some = rises-tail l (u ∷ q) (and_right (ltb (stamp_in s) (stamp_in u)) _ e) (λ z. absurd (let n : suc (length q) ≡ 0 = ap length z in omega arith))

or-second : (a b : Bool) → (not a || b) ≡ true → a ≡ true → b ≡ true
or-second true b e q = e
or-second false b e q = absurd (false≢true q)

-- ---- an instance's line

-- what its tests say
pub record Stands (default : ℕ) (t : Tables) (p : Program) (m : ℕ) (w : Row) : Type 0 where
  pub id : w.id < 32
  pub kind : w.kind < t.count
  pub marked : SetLawful (type_of t w.kind).places w.marked
  pub running : SetLawful (type_of t w.kind).transitions w.running
  pub ended : SetLawful (type_of t w.kind).transitions w.ended
  pub behaviors : (r : ℕ) → r < length w.queue → behavior_in (get_or w.queue r 0) < (type_of t w.kind).behaviors
  pub tickets : (r : ℕ) → r < length w.queue → get_or w.queue r 0 < slot_limit p
  pub stamps : has_tickets p.edition ≡ true → (r : ℕ) → r < length w.queue → stamp_in (get_or w.queue r 0) ≢ 0
  pub rises : has_tickets p.edition ≡ true → Rises w.queue
  pub short : length w.queue ≤ depth_of default t
  pub above : m ≤ w.id
  pub last-small : w.last ≤ 256
  pub tail : has_tickets p.edition ≡ true → w.queue ≢ [] → w.last ≡ last_stamp w.queue
  pub apart : overlaps w.running w.ended ≡ false
  pub inside : within (joined w.running w.ended) (head_of t w.kind w.queue) ≡ true

-- every last ticket is within 255
abbrev pub Small : List ℕ → Type 0
Small l = (i : ℕ) → get_or l i 0 ≤ 256

set-small : (l : List ℕ) (i v : ℕ) → Small l → v ≤ 256 → Small (set l i v)
set-small [] i v h g k = h k
set-small (a ∷ l) zero v h g zero = g
set-small (a ∷ l) zero v h g (suc k) = h (suc k)
set-small (a ∷ l) (suc i) v h g zero = h 0
set-small (a ∷ l) (suc i) v h g (suc k) = set-small l i v (λ j. h (suc j)) g k

-- the last ticket is the tail's, where a queue stands
unfoldable pub TailAt : Configuration → List ℕ → ℕ → Type 0
TailAt c l i = queue_of c i ≢ [] → get_or l i 0 ≡ last_stamp (queue_of c i)

abbrev pub Tails : Program → Configuration → List ℕ → Type 0
Tails p c l = has_tickets p.edition ≡ true → (i : ℕ) → (instance c i).present ≡ true → TailAt c l i

-- every slot in use has a stamp, and they rise
unfoldable pub StampsAt : Configuration → ℕ → Type 0
StampsAt c i = ((r : ℕ) → r < (instance c i).queued → stamp_in (slot c i r) ≢ 0) × Rises (queue_of c i)

abbrev pub Stamps : Program → Configuration → Type 0
Stamps p c = has_tickets p.edition ≡ true → (i : ℕ) → (instance c i).present ≡ true → StampsAt c i

module _ (default : ℕ) (t : Tables) (p : Program) (law : Facts default t p) where
  -- what a slot of it is
  slot-told : (s n : ℕ) → n ≤ 8 → AtSlot p.edition n s → (behavior_in s < n) × (s < slot_limit p) × (has_tickets p.edition ≡ true → stamp_in s ≢ 0)
  unfolding slot_limit
  slot-told s n few a =
      let b = a.below in
      let k = a.small in
      let is = a.is in (
        omega arith,
        by-test (has_tickets p.edition) (λ q. rw q (omega arith)) (λ q. let z = a.kept.none q in rw q (omega arith)),
        λ q z. a.kept.some q (omega arith),
      )

  stands : (m i k : ℕ) (a x y : Set) (q : List (ℕ × ℕ)) (l : ℕ) → Masked a → Masked x → Masked y → All (Kept p.edition) q
      → row_ok (depth_of default t) t i k a.top x.top y.top q l ≡ true
      → (held_ok t m i k x.mask y.mask (slots_of q) && tickets_ok p.edition (slots_of q) l) ≡ true
      → Stands default t p m (record { id = i; kind = k; marked = a.mask; running = x.mask; ended = y.mask; queue = slots_of q; last = l })
  stands m i k a x y q l ma mx my all e f =
      let (id, e₁) = two (id_ok i) e in
      let (kind, e₂) = two (type_ok t.count k) e₁ in
      let (places, e₃) = two (list_ok (type_of t k).places a.top) e₂ in
      let (runs, e₄) = two (list_ok (type_of t k).transitions x.top) e₃ in
      let (ends, e₅) = two (list_ok (type_of t k).transitions y.top) e₄ in
      let (below, e₆) = two (items_ok (type_of t k).behaviors q) e₅ in
      let (small, short) = two (stamp_ok l) e₆ in
      let (held, rises) = two (held_ok t m i k x.mask y.mask (slots_of q)) f in
      let (above, f₁) = two (leb m i) held in
      let (apart, inside) = two (not (overlaps x.mask y.mask)) f₁ in
      let z = leb-true i 31 id in
      let h = ltb-true k t.count kind in
      let known = law.types k h in
      let at : (r : ℕ) → r < length (slots_of q) → AtSlot p.edition (type_of t k).behaviors (get_or (slots_of q) r 0) = at_slot p.edition (type_of t k).behaviors q below all in
      record {
        id = omega arith;
        kind = h;
        marked = mask-lawful _ a (let z = known.places in omega arith) ma places;
        running = mask-lawful _ x known.transitions mx runs;
        ended = mask-lawful _ y known.transitions my ends;
        behaviors = λ r g. (slot-told _ _ known.behaviors (at r g)).0;
        tickets = λ r g. (slot-told _ _ known.behaviors (at r g)).1;
        stamps = λ has r g. (slot-told _ _ known.behaviors (at r g)).2 has;
        rises = λ has. rises-to l (slots_of q) (or-second _ _ rises has);
        short = rw (slots_length q) (leb-true _ _ short);
        above = leb-true m i above;
        last-small = leb-true l 256 small;
        tail = λ has. rises-tail l (slots_of q) (or-second _ _ rises has);
        apart = not-true _ apart;
        inside = inside;
      }

  reads-instance : (m : ℕ) → Reads (Stands default t p m) (instance_line p.edition (depth_of default t) t m)
  unfolding instance_line
  reads-instance m =
      reads_then (reads-key (bytes "instance=")) (λ _ _.
      reads_then (reads-number five_digits _) (λ i _. reads_then (reads-number five_digits _) (λ k _.
      reads_then (reads-list five_digits _ (omega arith)) (λ a ma. reads_then (reads-list five_digits _ (omega arith)) (λ x mx. reads_then (reads-list five_digits _ (omega arith)) (λ y my.
      reads_then (reads-queue p.edition) (λ (q, l) all.
      reads_then (reads-check _ limit-fault) (λ _ e. reads_then (reads-check _ clause-fault) (λ _ f.
      reads-give (stands m i k a x y q l ma mx my all e f))))))))))

  -- ---- what a line does

  -- d is c but for instance i, which is of type k with the behaviors l queued
  record Grown (c d : Configuration) (i k : ℕ) (l : List ℕ) : Type 0 where
    mine : instance d i ≡ with_queued (fresh t k) (length l)
    slots : (r : ℕ) → r < 8 → slot d i r ≡ get_or l r 0
    others : (j : ℕ) → j ≢ i → instance d j ≡ instance c j
    beside : (j r : ℕ) → j ≢ i → r < 8 → slot d j r ≡ slot c j r
    wired : d.servers ≡ c.servers
    done : d.done ≡ c.done
    instances-length : length d.instances ≡ 32
    queue-length : length d.queue ≡ 256

  other-id : (i j : ℕ) → j ≢ i → eqb i j ≡ false
  other-id i j n = ne_eqb i j (λ e. n (sym e))

  grown : (c : Configuration) (i k : ℕ) → i < 32 → length c.instances ≡ 32 → length c.queue ≡ 256 → Grown c (added t c i k) i k []
  unfolding effect change touches self turn turned_slot Roomy Fits rewired wiring_of with_queued
  grown c i k hi wide long =
      let a = add i k in
      let rest = rest-after t c a in
      record {
        mine = instance-own t c a i (eq-eqb i i refl) (rw wide hi);
        slots = λ r h. slot-own t c a long (hi, tt) i (eq-eqb i i refl) r h ∙ sym (empty r);
        others = λ j n. instance-other t c a j (other-id i j n);
        beside = λ j r n h. slot-other t c a long (hi, tt) j (other-id i j n) r h;
        wired = rest.connections;
        done = rest.done;
        instances-length = rest.instances ∙ wide;
        queue-length = rest.queue ∙ long;
      }
    where
      empty : (r : ℕ) → get_or {A = ℕ} [] r 0 ≡ 0
      empty zero = refl
      empty (suc r) = refl

  eqb-suc : (a b : ℕ) → eqb (suc a) (suc b) ≡ eqb a b
  eqb-suc a b = by_cases (ℕ_discrete a b) (λ e. eq-eqb (suc a) (suc b) (ap suc e) ∙ sym (eq-eqb a b e)) (λ n. ne_eqb (suc a) (suc b) (λ e. n (omega arith)) ∙ sym (ne_eqb a b n))

  get-snoc : (l : List ℕ) (b r : ℕ) → get_or (l ++ (b ∷ [])) r 0 ≡ cond (eqb r (length l)) b (get_or l r 0)
  get-snoc [] b zero = refl
  get-snoc [] b (suc r) = rw (ne_eqb (suc r) 0 (λ e. omega arith)) refl
  get-snoc (a ∷ l) b zero = rw (ne_eqb 0 (suc (length l)) (λ e. omega arith)) refl
  get-snoc (a ∷ l) b (suc r) = get-snoc l b r ∙ ap (λ (x : Bool). cond x b (get_or l r 0)) (sym (eqb-suc r (length l)))

  pushed-grown : (c d : Configuration) (i k : ℕ) (l : List ℕ) (b : ℕ) → i < 32 → length l < 8 → Grown c d i k l → Grown c (pushed d i b) i k (l ++ (b ∷ []))
  unfolding effect change touches self turn turned_slot Roomy Fits rewired wiring_of with_queued
  pushed-grown c d i k l b hi hl g =
      let a = pushb i (plain b) in
      let n : (instance d i).queued ≡ length l = ap (λ (v : Instance). v.queued) g.mine in
      let room : Roomy d (change a) = (hi, rw n hl) in
      let rest = rest-after t d a in
      record {
        mine =
            instance-own t d a i (eq-eqb i i refl) (rw g.instances-length hi)
            ∙ ap (λ (v : Instance). with_queued v (suc v.queued)) g.mine
            ∙ ap (with_queued (fresh t k)) (let z : suc (length l) ≡ length (l ++ (b ∷ [])) = omega (arith, length-append l (b ∷ [])) in z);
        slots = λ r h. slot-own t d a g.queue-length room i (eq-eqb i i refl) r h ∙ (rw (n, g.slots r h, get-snoc l b r));
        others = λ j m. instance-other t d a j (other-id i j m) ∙ g.others j m;
        beside = λ j r m h. slot-other t d a g.queue-length room j (other-id i j m) r h ∙ g.beside j r m h;
        wired = rest.connections ∙ g.wired;
        done = rest.done ∙ g.done;
        instances-length = rest.instances ∙ g.instances-length;
        queue-length = rest.queue ∙ g.queue-length;
      }

  all_grown : (q : List ℕ) (c d : Configuration) (i k : ℕ) (l : List ℕ) → i < 32 → length l + length q ≤ 8 → Grown c d i k l → Grown c (pushed_all d i q) i k (l ++ q)
  unfolding pushed_all
  all_grown [] c d i k l hi h g = subst⁻¹ (Grown c d i k) (append-nil l) g
  all_grown (b ∷ q) c d i k l hi h g =
      subst (Grown c (pushed_all (pushed d i b) i q) i k) (append_assoc l (b ∷ []) q)
      (all_grown q c (pushed d i b) i k (l ++ (b ∷ [])) hi (omega (arith, length-append l (b ∷ []))) (pushed-grown c d i k l b hi (omega arith) g))

  -- the record that a line says
  abbrev pub row_instance : Row → Instance
  row_instance w = record { present = true; kind = w.kind; marked = w.marked; running = w.running; ended = w.ended; queued = length w.queue }

  -- d is c with the line w
  pub record Stood (c d : Configuration) (w : Row) : Type 0 where
    pub mine : instance d w.id ≡ row_instance w
    pub slots : (r : ℕ) → r < 8 → slot d w.id r ≡ get_or w.queue r 0
    pub others : (j : ℕ) → j ≢ w.id → instance d j ≡ instance c j
    pub beside : (j r : ℕ) → j ≢ w.id → r < 8 → slot d j r ≡ slot c j r
    pub wired : d.servers ≡ c.servers
    pub done : d.done ≡ c.done
    pub instances-length : length d.instances ≡ 32
    pub queue-length : length d.queue ≡ 256

  pub stood : (c : Configuration) (w : Row) → w.id < 32 → length w.queue ≤ 8 → length c.instances ≡ 32 → length c.queue ≡ 256 → Stood c (with_row t c w) w
  unfolding with_row placed put with_queued
  stood c w hi hq wide long =
      let g = all_grown w.queue c (added t c w.id w.kind) w.id w.kind [] hi (omega arith) (grown c w.id w.kind hi wide long) in
      let d = pushed_all (added t c w.id w.kind) w.id w.queue in
      record {
        mine = put_same d w.id _ (rw g.instances-length hi) ∙ ap (tokens w) g.mine;
        slots = g.slots;
        others = λ j n. put_other d w.id j _ n ∙ g.others j n;
        beside = g.beside;
        wired = g.wired;
        done = g.done;
        instances-length = length-set d.instances w.id _ ∙ g.instances-length;
        queue-length = g.queue-length;
      }
    where
      tokens : Row → Instance → Instance
      tokens w v = record { present = v.present; kind = v.kind; marked = w.marked; running = w.running; ended = w.ended; queued = v.queued }

  row-proper : (m : ℕ) (w : Row) (s : ℕ → ℕ) → Stands default t p m w → ((r : ℕ) → r < 8 → s r ≡ get_or w.queue r 0) → ProperInstance default t p (row_instance w) s
  row-proper m w s ok same =
      record {
        kind = ok.kind;
        marked = λ z e. in-mask _ w.marked z ok.marked e;
        running = λ z e. in-mask _ w.running z ok.running e;
        ended = λ z e. in-mask _ w.ended z ok.ended e;
        disjoint = λ z e. overlaps-none w.running w.ended ok.apart z (let l = in-mask _ w.running z ok.running e in let few = (law.types w.kind ok.kind).transitions in omega arith) e;
        short = ok.short;
        queue = λ r h. let a = ok.short in let b = law.depth in rw (same r (omega arith)) (ok.behaviors r h);
        tickets = λ r h. let a = ok.short in let b = law.depth in rw (same r (omega arith)) (ok.tickets r h);
      }

  -- the same record with other slots that say the same
  same-slots : (v : Instance) (s u : ℕ → ℕ) → ProperInstance default t p v s → ((r : ℕ) → r < 8 → u r ≡ s r) → ProperInstance default t p v u
  same-slots v s u ok same =
      record {
        kind = ok.kind;
        marked = ok.marked;
        running = ok.running;
        ended = ok.ended;
        disjoint = ok.disjoint;
        short = ok.short;
        queue = λ r h. let a = ok.short in let b = law.depth in rw (same r (omega arith)) (ok.queue r h);
        tickets = λ r h. let a = ok.short in let b = law.depth in rw (same r (omega arith)) (ok.tickets r h);
      }

  -- the behavior in hand is that of the head
  row-head : (w : Row) (s : ℕ → ℕ) → s 0 ≡ get_or w.queue 0 0 → current t (row_instance w) (s 0) ≡ head_of t w.kind w.queue
  unfolding current
  row-head w s e = rw e (go w.queue)
    where
      go : (q : List ℕ) → cond (eqb (length q) 0) 0 (behavior_of t w.kind (behavior_in (get_or q 0 0))) ≡ head_of t w.kind q
      go [] = refl
      go (b ∷ q) = rw (ne_eqb (suc (length q)) 0 (λ e. omega arith)) refl

  -- a list by its items, and of two ways to say them
  list-got : (q : List ℕ) (f : ℕ → ℕ) → ((r : ℕ) → r < length q → f r ≡ get_or q r 0) → list_of (length q) f ≡ q
  unfolding list_of
  list-got [] f h = refl
  list-got (s ∷ q) f h = ap₂ ◌∷◌ (h 0 (omega arith)) (list-got q (λ r. f (suc r)) (λ r l. h (suc r) (omega arith)))

  list-alike : (n : ℕ) (f g : ℕ → ℕ) → ((r : ℕ) → r < n → f r ≡ g r) → list_of n f ≡ list_of n g
  unfolding list_of
  list-alike zero f g h = refl
  list-alike (suc n) f g h = ap₂ ◌∷◌ (h 0 (omega arith)) (list-alike n (λ r. f (suc r)) (λ r. g (suc r)) (λ r l. h (suc r) (omega arith)))

  -- ---- the lines of instances, the next id being m at least
  record Stage (x : SoFar) : Type 0 where
    proper : Proper default t p x.0
    tidy : Tidy t x.0
    alone : x.0.servers ≡ start.servers
    first : x.0.done ≡ 0
    free : (j : ℕ) → x.1 ≤ j → (instance x.0 j).present ≡ false
    fits : Stamps p x.0
    small : Small x.2
    tails : Tails p x.0 x.2
    lasts-length : length x.2 ≡ 32

  staged : (x : SoFar) (w : Row) → Stage x → Stands default t p x.1 w → Stage (with_row t x.0 w, suc w.id, set x.2 w.id w.last)
  unfolding StampsAt TailAt queue_of
  staged x w h s =
      let c = x.0 in
      let d = with_row t c w in
      let now = h.proper in
      let f = stood c w s.id (let a = s.short in let b = law.depth in omega arith) now.instances-length now.queue-length in
      let alone : d.servers ≡ start.servers = f.wired ∙ h.alone in
      record {
        proper = record {
          each = λ j here. by_cases (ℕ_discrete j w.id)
              (λ e. subst⁻¹ (λ (z : ℕ). ProperInstance default t p (instance d z) (slot d z)) e (rw f.mine (row-proper x.1 w (slot d w.id) s f.slots)))
              (λ n. rw (f.others j n) (same-slots (instance c j) (slot c j) (slot d j) (now.each j (sym (ap (λ (v : Instance). v.present) (f.others j n)) ∙ here)) (λ r l. f.beside j r n l)));
          connections = λ l b on. absurd (false≢true (sym (start-unserved l) ∙ sym (ap (λ (y : List ℕ). is_served y l) alone) ∙ on));
          few = rw f.wired now.few;
          done = rw f.done now.done;
          instances-length = f.instances-length;
          queue-length = f.queue-length;
          servers-length = ap length f.wired ∙ now.servers-length;
        };
        tidy = record {
          head = λ j here. by_cases (ℕ_discrete j w.id)
              (λ e. subst⁻¹ (λ (z : ℕ). within (held (instance d z)) (current t (instance d z) (slot d z 0)) ≡ true) e (rw (f.mine, row-head w (slot d w.id) (f.slots 0 (omega arith))) s.inside))
              (λ n. rw (f.others j n, f.beside j 0 n (omega arith)) (h.tidy.head j (sym (ap (λ (v : Instance). v.present) (f.others j n)) ∙ here)));
          gone = λ j off. by_cases (ℕ_discrete j w.id)
              (λ e. absurd (false≢true (sym off ∙ ap (λ (z : ℕ). (instance d z).present) e ∙ ap (λ (v : Instance). v.present) f.mine)))
              (λ n. f.others j n ∙ h.tidy.gone j (sym (ap (λ (v : Instance). v.present) (f.others j n)) ∙ off));
          free = λ j r l m. by_cases (ℕ_discrete j w.id)
              (λ e. ap (λ (z : ℕ). slot d z r) e ∙ f.slots r l ∙ get_or-eq_default w.queue 0 {n = r} (rw (e, f.mine) at m))
              (λ n. f.beside j r n l ∙ h.tidy.free j r l (rw (f.others j n) at m));
        };
        alone = alone;
        first = f.done ∙ h.first;
        free = λ j l.
            let n : j ≢ w.id = λ e. omega arith in
            let a = s.above in
            ap (λ (v : Instance). v.present) (f.others j n) ∙ h.free j (omega arith);
        lasts-length = length-set x.2 w.id _ ∙ h.lasts-length;
        tails = λ has j here. by_cases (ℕ_discrete j w.id) (λ e. subst⁻¹ (TailAt d (set x.2 w.id w.last)) e (own-tail f has)) (λ n. other-tail f has j n here);
        small = set-small x.2 w.id w.last h.small s.last-small;
        fits = λ has j here. by_cases (ℕ_discrete j w.id)
            (λ e. subst⁻¹ (StampsAt d) e (own-stamps f has))
            (λ n. other-stamps f has j n here);
      }
    where
      own-tail : Stood x.0 (with_row t x.0 w) w → has_tickets p.edition ≡ true → TailAt (with_row t x.0 w) (set x.2 w.id w.last) w.id
      own-tail f has some =
          let a = s.short in
          let b = law.depth in
          let n : (instance (with_row t x.0 w) w.id).queued ≡ length w.queue = ap (λ (v : Instance). v.queued) f.mine in
          let q : queue_of (with_row t x.0 w) w.id ≡ w.queue = rw n (list-got w.queue (slot (with_row t x.0 w) w.id) (λ r l. f.slots r (omega arith))) in
          get_or-set_same x.2 w.id w.last 0 (rw h.lasts-length s.id) ∙ s.tail has (λ z. some (q ∙ z)) ∙ ap last_stamp (sym q)

      other-tail : Stood x.0 (with_row t x.0 w) w → has_tickets p.edition ≡ true → (j : ℕ) → j ≢ w.id → (instance (with_row t x.0 w) j).present ≡ true → TailAt (with_row t x.0 w) (set x.2 w.id w.last) j
      other-tail f has j n here some =
          let was : (instance x.0 j).present ≡ true = sym (ap (λ (v : Instance). v.present) (f.others j n)) ∙ here in
          let a = (h.proper.each j was).short in
          let b = law.depth in
          let m : (instance (with_row t x.0 w) j).queued ≡ (instance x.0 j).queued = ap (λ (v : Instance). v.queued) (f.others j n) in
          let q : queue_of (with_row t x.0 w) j ≡ queue_of x.0 j = rw m (list-alike (instance x.0 j).queued (slot (with_row t x.0 w) j) (slot x.0 j) (λ r l. f.beside j r n (omega arith))) in
          get_or-set_other x.2 w.id j w.last 0 n ∙ h.tails has j was (λ z. some (q ∙ z)) ∙ ap last_stamp (sym q)

      own-stamps : Stood x.0 (with_row t x.0 w) w → has_tickets p.edition ≡ true → StampsAt (with_row t x.0 w) w.id
      own-stamps f has =
          let a = s.short in
          let b = law.depth in
          let n : (instance (with_row t x.0 w) w.id).queued ≡ length w.queue = ap (λ (v : Instance). v.queued) f.mine in
          (λ r l. rw (f.slots r (omega (arith, n))) (s.stamps has r (rw n at l)), rw (n, list-got w.queue (slot (with_row t x.0 w) w.id) (λ r l. f.slots r (omega arith))) (s.rises has))

      other-stamps : Stood x.0 (with_row t x.0 w) w → has_tickets p.edition ≡ true → (j : ℕ) → j ≢ w.id → (instance (with_row t x.0 w) j).present ≡ true → StampsAt (with_row t x.0 w) j
      other-stamps f has j n here =
          let was : (instance x.0 j).present ≡ true = sym (ap (λ (v : Instance). v.present) (f.others j n)) ∙ here in
          let (stamps, rises) = h.fits has j was in
          let a = (h.proper.each j was).short in
          let b = law.depth in
          let q : (instance (with_row t x.0 w) j).queued ≡ (instance x.0 j).queued = ap (λ (v : Instance). v.queued) (f.others j n) in
          (λ r l. rw (f.beside j r n (omega (arith, q))) (stamps r (rw q at l)), rw (q, list-alike (instance x.0 j).queued (slot (with_row t x.0 w) j) (slot x.0 j) (λ r l. f.beside j r n (omega arith))) rises)

  runs-instance : (j : ℕ) (x : SoFar) → Stage x → Runs Stage (instance_at p.edition (depth_of default t) t j x)
  unfolding instance_at
  runs-instance j x h = runs_then (runs-line (reads-instance x.1)) (λ w s. runs-give (staged x w h s))

  -- ---- the lines of connections
  abbrev Joined : SoFar → Type 0
  Joined x = Permitted default t p x.0 × Stamps p x.0 × Small x.2 × Tails p x.0 x.2

  reads-connection : (c : Configuration) (m : ℕ) → Reads (λ k. con_check t (standing c) c k ≡ 0) (connection_line t c m)
  unfolding connection_line
  reads-connection c m =
      reads_then (reads-key (bytes "connection=")) (λ _ _. reads_then (reads-four five_digits) (λ (a, b, u, v) _.
      reads_then (reads-check (ends_in t c a b u v) limit-fault) (λ _ _.
      reads_then (reads-check (joins_ok t c m (record { user = a; useport = b; provider = u; provideport = v })) clause-fault) (λ _ e.
      reads-give (eqb-true _ 0 (and_right (leb m (port_number a b)) _ e))))))

  connected-permitted : (c : Configuration) (k : Connection) → Permitted default t p c → con_check t (standing c) c k ≡ 0 → Permitted default t p (connected c k)
  unfolding action_check effect is_add is_push connected with_servers
  connected-permitted c k h ok =
      record {
        proper = action-proper default t p law c h.proper (con k) (record { added = λ j l e. absurd (not-add {a = con k} refl e); pushed = λ j b e. absurd (not-push {a = con k} refl e) }) ok;
        tidy = record { head = h.tidy.head; gone = h.tidy.gone; free = h.tidy.free };
        first = h.first;
      }

  connected-stamps : (c : Configuration) (k : Connection) → Stamps p c → Stamps p (connected c k)
  unfolding connected with_servers StampsAt queue_of
  connected-stamps c k h = h

  connected-tails : (c : Configuration) (k : Connection) (l : List ℕ) → Tails p c l → Tails p (connected c k) l
  unfolding connected with_servers TailAt queue_of
  connected-tails c k l h = h

  runs-connection : (j : ℕ) (x : SoFar) → Joined x → Runs Joined (connection_at t j x)
  unfolding connection_at
  runs-connection j x h = runs_then (runs-line (reads-connection x.0 x.1)) (λ k e. runs-give (connected-permitted x.0 k h.0 e, connected-stamps x.0 k h.1, h.2, connected-tails x.0 k x.2 h.3))

  pub runs-start : Runs (λ x. Permitted default t p x.0 × Stamps p x.0 × Small x.1 × Tails p x.0 x.1) (start_lines p.edition (depth_of default t) t)
  unfolding start_lines start none_begun
  runs-start =
      runs_then (runs-line (reads-due (bytes "start=") 1)) (λ _ _.
      runs_then (runs-line (reads-count (bytes "instances=") instances_ok)) (λ n _.
      runs_then (runs-each (instance_at p.edition (depth_of default t) t) (λ _. Stage) n (λ j x _ h. runs-instance j x h) n 0 (start, 0, none_begun.last) (omega arith) none) (λ x h.
      runs_then (runs-line (reads-count (bytes "connections=") connections_ok)) (λ k _.
      runs_then (runs-each (connection_at t) (λ _. Joined) k (λ j y _ g. runs-connection j y g) k 0 (x.0, 0, x.2) (omega arith) (record { proper = h.proper; tidy = h.tidy; first = h.first }, h.fits, h.small, h.tails)) (λ y g.
      runs_then runs-end (λ _ _. runs-give g))))))
    where
      none : Stage (start, 0, none_begun.last)
      none = record { proper = start-proper default t p; tidy = start-tidy t; alone = refl; first = refl; free = λ j _. ap (λ (v : Instance). v.present) (start-instance j); fits = λ _ j here. absurd (false≢true (sym (ap (λ (v : Instance). v.present) (start-instance j)) ∙ here)); small = λ i. rw (all_alike {A = ℕ} 32 i 0) (omega arith); tails = λ _ j here. absurd (false≢true (sym (ap (λ (v : Instance). v.present) (start-instance j)) ∙ here)); lasts-length = refl }

pub starts-are-permitted : StartsArePermitted
unfolding StartsArePermitted
starts-are-permitted default t p s r x small law e = (run-gives (runs-start default t p (facts default t p small law)) s x r e).0

-- where a start stops: at a rest of its text, with a number from 2 to 5
pub start-stops : (default : ℕ) (t : Tables) (p : Program) (s : List ℕ) → default ≤ 8 → Lawful t p → (n : ℕ) (r : List ℕ) → start_lines p.edition (depth_of default t) t s ≡ stop n r → StopsAt s n r
start-stops default t p s small law n r e = run-stops (runs-start default t p (facts default t p small law)) s n r e

-- nothing up
pub start-permitted : (default : ℕ) (t : Tables) (p : Program) → Permitted default t p start
unfolding start
start-permitted default t p =
    record { proper = start-proper default t p; tidy = start-tidy t; first = refl }

pub nothing-up-may-begin : NothingUpMayBegin
unfolding NothingUpMayBegin AllServed
nothing-up-may-begin default t p =
    record { permitted = start-permitted default t p; served = λ i q h here. absurd (false≢true (sym (ap (λ (v : Instance). v.present) (start-instance i)) ∙ here)) }
