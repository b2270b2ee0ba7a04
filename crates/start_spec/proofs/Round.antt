-- What a report shows is read as a start: the lines of the instances present, then those of the connections, each giving back what it shows.
-- Assumes nothing.
use mathlib.Core.Path.{◌≡◌, refl, sym, ap, ap₂, ◌∙◌, subst, subst⁻¹}
use mathlib.Core.Logic.{◌≢◌, by_cases}
use mathlib.Core.List.{List, [], ◌++◌, append_assoc, append-nil}
use mathlib.Core.Bool.{Bool, true, false, not, ◌&&◌, ◌||◌, and-false, false≢true}
use Prim.Native.Nat.{ℕ, zero, suc, ◌+◌, ◌-◌, ◌/◌, ◌%◌, ◌^◌, ◌≤◌, ◌<◌}
use native.Mathlib.Nat.{lt_of_lt_of_le}
use native.Mathlib.Omega.{arith}
use native.Mathlib.Decide.{ℕ_discrete, dec_lt}
use lib.Dec.{eqb}
use lib.Pow.{pow_mono}
use lib.ListN.{length, get_or, set, length-set, get_or-eq_default}
use lib.Seq.{get_or-set_same, get_or-set_other, ext_get_or}
use borrow.Author.Tests.{eq-eqb, ne_eqb, eqb-true, eqb-false, le-leb, lt-ltb, not-true, not-false}
use Rattle.sets.specs.Mask.{member, collect, joined}
use Rattle.sets.specs.Test.{tally}
use Rattle.sets.proofs.Laws.{none_any, none-overlaps, same-members, collect-lt, member-collect, member-past}
use Rattle.sets.proofs.Tally.{tally-le, tally-one, tally-first}
use Rattle.item_spec.specs.Reader.{got, bytes}
use Rattle.item_spec.specs.Read.{key, one_form, number_from, digit}
use Rattle.item_spec.specs.Write.{only_if, number_text, mask_text, in_turn, one_text, four_text}
use Rattle.item_spec.proofs.Tests.{by-test}
use Rattle.item_spec.proofs.Round.{key-round, one-round, four-round, top_of, top_within}
use Rattle.model.specs.declared.Tables.{Tables}
use Rattle.model.specs.declared.Program.{Program}
use Rattle.model.specs.declared.Instance.{Instance}
use Rattle.model.specs.declared.Connection.{Connection}
use Rattle.model.specs.declared.Configuration.{Configuration}
use Rattle.model.specs.Empty.{start, none_begun, absent, no_server}
use Rattle.model.specs.View.{type_of, instance, slot, queue_of, list_of, port_number, server_number, server, is_served, connection_at, connection, with_servers, with_done}
use Rattle.model.proofs.View.{all_alike, start-instance, start-slot, start-lengths, start-unserved, list_at, length-list, same-instances, same-queues, same-fields}
use Rattle.read_spec.specs.Limits.{has_tickets}
use Rattle.read_spec.specs.Kinds.{due_line, count_line_in, count_line}
use Rattle.read_spec.specs.Lines.{Lines, on, line, each}
use Rattle.rules_spec.specs.Instance.{current}
use Rattle.rules_spec.specs.Standing.{standing, in_table}
use Rattle.rules_spec.specs.Ports.{is_of}
use Rattle.rules_spec.specs.Con.{is_use_port, is_provide_port, con_check, connected}
use Rattle.rules_spec.specs.PushB.{depth_of}
use Rattle.rules_spec.specs.Proper.{slot_limit, Joins, Proper}
use Rattle.rules_spec.specs.Walk.{walk}
use Rattle.rules_spec.proofs.Tables.{Facts, facts}
use Rattle.rules_spec.proofs.Connections.{count-is, Small}
use Rattle.rules_spec.proofs.Proper.{joins-small}
use Rattle.report_spec.specs.Report as report
use Rattle.report_spec.specs.Report.{count_text, queue_text, instance_text, connection_text, instances_text, connections_text, report_with}
use Rattle.report_spec.proofs.Lines.{line_at, lines-in-turn, in-turn-same}
use Rattle.start_spec.specs.Row.{instance_line, with_row, port_in, ends_in, joins_ok, connection_line}
use Rattle.start_spec.specs.Text as text
use Rattle.start_spec.specs.Text.{instances_ok, connections_ok, SoFar, start_lines}
use Rattle.start_spec.specs.Permitted.{Tidy}
use Rattle.start_spec.specs.Round.{state_text, head_text, row_text, row_at, plain_start, start_text, Lasts, PlainStartsAreReports, ReportsEndInTheState, StatesAreReadBack, ReportsAreStarts}
use Rattle.start_spec.proofs.Proper.{stood}
use Rattle.start_spec.proofs.Tidy.{tidy-from}
use Rattle.start_spec.proofs.RowRound.{items-length, every-at, Bare, Stamped, items-below, queue-head, row_of, line-round}

-- ---- lines in turn, some of which are left out

unfoldable turn_from : (ℕ → List ℕ) → ℕ → ℕ → List ℕ
turn_from f i zero = []
turn_from f i (suc k) = f i ++ turn_from f (suc i) k

unfoldable count_from : (ℕ → Bool) → ℕ → ℕ → ℕ
count_from p i zero = 0
count_from p i (suc k) = elim (p i) [ true ↦ suc (count_from p (suc i) k) | false ↦ count_from p (suc i) k ]

turn_last : (f : ℕ → List ℕ) (i k : ℕ) → turn_from f i (suc k) ≡ turn_from f i k ++ f (i + k)
unfolding turn_from
turn_last f i zero = append-nil (f i) ∙ ap f (let e : i ≡ i + 0 = omega arith in e)
turn_last f i (suc k) =
    ap (λ (l : List ℕ). f i ++ l) (turn_last f (suc i) k ∙ ap (λ (n : ℕ). turn_from f (suc i) k ++ f n) (let e : suc i + k ≡ i + suc k = omega arith in e))
    ∙ sym (append_assoc (f i) (turn_from f (suc i) k) (f (i + suc k)))

in-turn-is : (f : ℕ → List ℕ) (n : ℕ) → in_turn f n ≡ turn_from f 0 n
unfolding in_turn turn_from
in-turn-is f zero = refl
in-turn-is f (suc n) = ap (λ (l : List ℕ). l ++ f n) (in-turn-is f n) ∙ ap (λ (m : ℕ). turn_from f 0 n ++ f m) (let e : n ≡ 0 + n = omega arith in e) ∙ sym (turn_last f 0 n)

count-shift : (p : ℕ → Bool) (i k : ℕ) → count_from p (suc i) k ≡ count_from (λ n. p (suc n)) i k
unfolding count_from
count-shift p i zero = refl
count-shift p i (suc k) = by-test (p (suc i)) (λ e. rw (e, count_from, count-shift p (suc i) k)) (λ e. rw (e, count_from, count-shift p (suc i) k))

tally-is : (p : ℕ → Bool) (n : ℕ) → tally n p ≡ count_from p 0 n
unfolding count_from tally
tally-is p zero = refl
tally-is p (suc n) =
    tally-first n p
    ∙ by-test (p 0) (λ e. rw (e, count_from) (omega (arith, tally-is (λ i. p (suc i)) n, count-shift p 0 n))) (λ e. rw (e, count_from) (omega (arith, tally-is (λ i. p (suc i)) n, count-shift p 0 n)))

module _ {A : Type 0} (g : ℕ → A → Lines A) (p : ℕ → Bool) (Line-of : ℕ → List ℕ) (M : ℕ → A → Type 0) (hi : ℕ)
    (skip : (i : ℕ) (a : A) → i < hi → p i ≡ false → M i a → M (suc i) a)
    (take : (i j : ℕ) (a : A) (s : List ℕ) → i < hi → p i ≡ true → M i a → (b : A) × ((g j a (Line-of i ++ s) ≡ on b s) × M (suc i) b)) where
  sparse : (k i j : ℕ) (a : A) (s : List ℕ) → i + k ≡ hi → M i a
      → (b : A) × ((each g (count_from p i k) j a (turn_from (λ n. only_if (p n) (Line-of n)) i k ++ s) ≡ on b s) × M hi b)
  unfolding each count_from turn_from
  sparse zero i j a s e m = (a, (refl, subst (λ (n : ℕ). M n a) (let z : i ≡ hi = omega arith in z) m))
  sparse (suc k) i j a s e m =
      by-test (p i)
      (λ f.
      let (x, taken) = take i j a (turn_from (λ n. only_if (p n) (Line-of n)) (suc i) k ++ s) (omega arith) f m in
      let (b, rest) = sparse k (suc i) (suc j) x s (omega arith) taken.1 in
      (b, (rw (f, count_from, append_assoc (Line-of i) (turn_from (λ n. only_if (p n) (Line-of n)) (suc i) k) s, taken.0) rest.0, rest.1)))
      (λ f.
      let (b, rest) = sparse k (suc i) j a s (omega arith) (skip i a (omega arith) f m) in
      (b, (rw (f, count_from) rest.0, rest.1)))

and-off : (a b : Bool) → b ≡ false → (a && b) ≡ false
and-off a b e = rw e (and-false a)

-- ---- masks by their members
self_pow : (n : ℕ) → n < 2 ^ n
self_pow zero = omega arith
self_pow (suc n) = let h = self_pow n in omega arith

mask_bound : (n m : ℕ) → ((x : ℕ) → member x m ≡ true → x < n) → m < 2 ^ n
mask_bound n m f =
    let b = collect n (λ j. member j m) in
    let e : m ≡ b = same-members (n + m) m b (lt_of_lt_of_le (self_pow m) (pow_mono (omega arith))) (lt_of_lt_of_le (collect-lt n _) (pow_mono (omega arith)))
    (λ j _. by_cases (dec_lt j n) (λ l. sym (member-collect n _ j l)) (λ l. by-test (member j m) (λ q. absurd (omega (arith, f j q))) (λ q. q) ∙ sym (member-past n j b (omega arith) (collect-lt n _)))) in
    subst⁻¹ (λ (z : ℕ). z < 2 ^ n) e (collect-lt n _)

-- ---- the first line, and a line of a count
due-round : (s : List ℕ) → line (due_line (bytes "start=") 1) (bytes "start=1\n" ++ s) ≡ on tt s
unfolding due_line key one_form number_from digit
due-round s = refl

count-round : (k : List ℕ) (limit : ℕ → Bool) (n : ℕ) → n < 10 ^ 5 → limit n ≡ true → (s : List ℕ) → line (count_line k limit) (count_text k n ++ s) ≡ on n s
unfolding count_line_in count_text
count-round k limit n h e s = rw (append_assoc k (one_text n) s, key-round k, one-round 5 (omega arith) (omega arith) n h s, e)

module _ (default : ℕ) (t : Tables) (p : Program) (law : Facts default t p) (c : Configuration) (now : Proper default t p c) (tidy : Tidy t c) (l : List ℕ) (lasts : Lasts p c l) where
  limit-all : slot_limit p ≤ 2056
  unfolding slot_limit
  limit-all = by-test (has_tickets p.edition) (λ e. rw e (omega arith)) (λ e. rw e (omega arith))

  limit-plain : has_tickets p.edition ≡ false → slot_limit p ≡ 8
  unfolding slot_limit
  limit-plain e = rw e

  -- the line of a present instance
  present-line : (i m : ℕ) (s : List ℕ) → i < 32 → m ≤ i → (instance c i).present ≡ true
      → instance_line p.edition (depth_of default t) t m (row_text p.edition i (instance c i) (queue_of c i) (get_or l i 0) ++ s) ≡ got (row_of l c i) s
  unfolding queue_of current
  present-line i m s hi hm here =
      let v = instance c i in
      let ok = now.each i here in
      let known = law.types v.kind ok.kind in
      let marked = mask_bound (type_of t v.kind).places v.marked ok.marked in
      let running = mask_bound (type_of t v.kind).transitions v.running ok.running in
      let ended = mask_bound (type_of t v.kind).transitions v.ended ok.ended in
      let places = known.places in
      let transitions = known.transitions in
      line-round p.edition (depth_of default t) t m i v (queue_of c i) s (get_or l i 0) hi (omega (arith, ok.kind, law.count))
      (lt_of_lt_of_le marked (pow_mono {j = 32} (omega arith))) (lt_of_lt_of_le running (pow_mono {j = 32} (omega arith))) (lt_of_lt_of_le ended (pow_mono {j = 32} (omega arith)))
      (λ e. (every-at Bare v.queued (slot c i) (λ r g. omega (arith, ok.tickets r g, limit-plain e)), lasts.plain e i))
      (λ e. (every-at Stamped v.queued (slot c i) (λ r g. record { some = lasts.stamps e i r here g; small = omega (arith, ok.tickets r g, limit-all) }), lasts.small i))
      (rw (
        le-leb i 31 (omega arith),
        lt-ltb v.kind t.count ok.kind,
        le-leb (top_of v.marked) _ (top_within _ v.marked (omega arith) marked),
        le-leb (top_of v.running) _ (top_within _ v.running (omega arith) running),
        le-leb (top_of v.ended) _ (top_within _ v.ended (omega arith) ended),
        items-below (type_of t v.kind).behaviors v.queued (slot c i) (λ r g. (ok.queue r g, omega (arith, ok.tickets r g, limit-all))),
        le-leb (get_or l i 0) 256 (lasts.small i),
        items-length (list_of v.queued (slot c i)),
        length-list v.queued (slot c i),
        le-leb v.queued (depth_of default t) ok.short,
      ))
      (rw (
        le-leb m i hm,
        none-overlaps v.running v.ended (λ j l e. ok.disjoint j e),
        sym (queue-head t v.kind v.queued (slot c i)),
        tidy.head i here,
      )
      (by-test (has_tickets p.edition) (λ e. rw e (lasts.tail e i here)) (λ e. rw e)))

  -- ---- the instances: what was read so far is c below i, and nothing from i on
  record Shown (i : ℕ) (x : SoFar) : Type 0 where
    below : (j : ℕ) → j < i → instance x.0 j ≡ instance c j
    above : (j : ℕ) → i ≤ j → instance x.0 j ≡ absent
    slots : (j r : ℕ) → j < i → r < 8 → slot x.0 j r ≡ slot c j r
    zeros : (j r : ℕ) → i ≤ j → r < 8 → slot x.0 j r ≡ 0
    servers : x.0.servers ≡ start.servers
    done : x.0.done ≡ 0
    instances-length : length x.0.instances ≡ 32
    queue-length : length x.0.queue ≡ 256
    least : x.1 ≤ i
    told : (j : ℕ) → j < i → get_or x.2 j 0 ≡ get_or l j 0
    untold : (j : ℕ) → i ≤ j → get_or x.2 j 0 ≡ 0
    lasts-length : length x.2 ≡ 32

  shown-start : Shown 0 (start, 0, none_begun.last)
  unfolding start none_begun
  shown-start =
      let (wide, long, _) = start-lengths in
      record {
        below = λ j l. absurd (omega arith);
        above = λ j _. start-instance j;
        slots = λ j r l _. absurd (omega arith);
        zeros = λ j r _ _. start-slot j r;
        servers = refl;
        done = refl;
        instances-length = wide;
        queue-length = long;
        least = omega arith;
        told = λ j g. absurd (omega arith);
        untold = λ j _. all_alike 32 j 0;
        lasts-length = refl;
      }

  -- an absent instance is not shown
  shown-skip : (i : ℕ) (x : SoFar) → i < 32 → (instance c i).present ≡ false → Shown i x → Shown (suc i) x
  shown-skip i x h off m =
      let none = tidy.gone i off in
      record {
        below = λ j l. by_cases (ℕ_discrete j i) (λ e. ap (instance x.0) e ∙ m.above i (omega arith) ∙ sym none ∙ sym (ap (instance c) e)) (λ n. m.below j (omega arith));
        above = λ j l. m.above j (omega arith);
        slots = λ j r l k. by_cases (ℕ_discrete j i)
            (λ e. ap (λ (z : ℕ). slot x.0 z r) e ∙ m.zeros i r (omega arith) k ∙ sym (tidy.free i r k (rw none (omega arith))) ∙ sym (ap (λ (z : ℕ). slot c z r) e))
            (λ n. m.slots j r (omega arith) k);
        zeros = λ j r l k. m.zeros j r (omega arith) k;
        servers = m.servers;
        done = m.done;
        instances-length = m.instances-length;
        queue-length = m.queue-length;
        least = let l = m.least in omega arith;
        told = λ j g. by_cases (ℕ_discrete j i) (λ e. ap (λ (n : ℕ). get_or x.2 n 0) e ∙ m.untold i (omega arith) ∙ sym (lasts.gone i off) ∙ sym (ap (λ (n : ℕ). get_or l n 0) e)) (λ n. m.told j (omega arith));
        untold = λ j g. m.untold j (omega arith);
        lasts-length = m.lasts-length;
      }

  -- the record that a line says is the instance's own
  own-record : (v : Instance) (n : ℕ) → v.present ≡ true → n ≡ v.queued → (record { present = true; kind = v.kind; marked = v.marked; running = v.running; ended = v.ended; queued = n }) ≡ v
  own-record v n here e = λ i. record { present = sym here i; kind = v.kind; marked = v.marked; running = v.running; ended = v.ended; queued = e i }

  own-slot : (i r : ℕ) → r < 8 → get_or (queue_of c i) r 0 ≡ slot c i r
  unfolding queue_of
  own-slot i r h =
      by_cases (dec_lt r (instance c i).queued)
      (λ l. list_at (instance c i).queued (slot c i) 0 r l)
      (λ l. get_or-eq_default (list_of (instance c i).queued (slot c i)) 0 {n = r} (rw (length-list (instance c i).queued (slot c i)) (omega arith)) ∙ sym (tidy.free i r h (omega arith)))

  shown-take : (i j : ℕ) (x : SoFar) (s : List ℕ) → i < 32 → (instance c i).present ≡ true → Shown i x
      → (y : SoFar) × ((text.instance_at p.edition (depth_of default t) t j x (row_text p.edition i (instance c i) (queue_of c i) (get_or l i 0) ++ s) ≡ on y s) × Shown (suc i) y)
  unfolding text.instance_at queue_of
  shown-take i j x s h here m =
      let v = instance c i in
      let w = row_of l c i in
      let ok = now.each i here in
      let count = length-list v.queued (slot c i) in
      let few : length w.queue ≤ 8 = let a = ok.short in let b = law.depth in omega (arith, count) in
      let f = stood default t p law x.0 w h few m.instances-length m.queue-length in
      let mine : instance (with_row t x.0 w) i ≡ v = f.mine ∙ own-record v (length w.queue) here count in (
        (with_row t x.0 w, suc i, set x.2 i (get_or l i 0)),
        (
          rw (present-line i x.1 s h m.least here),
          record {
            below = λ k l. by_cases (ℕ_discrete k i) (λ e. ap (instance (with_row t x.0 w)) e ∙ mine ∙ sym (ap (instance c) e)) (λ n. f.others k n ∙ m.below k (omega arith));
            above = λ k l. f.others k (λ e. omega arith) ∙ m.above k (omega arith);
            slots = λ k r l z. by_cases (ℕ_discrete k i)
                (λ e. ap (λ (y : ℕ). slot (with_row t x.0 w) y r) e ∙ f.slots r z ∙ own-slot i r z ∙ sym (ap (λ (y : ℕ). slot c y r) e))
                (λ n. f.beside k r n z ∙ m.slots k r (omega arith) z);
            zeros = λ k r l z. f.beside k r (λ e. omega arith) z ∙ m.zeros k r (omega arith) z;
            servers = f.wired ∙ m.servers;
            done = f.done ∙ m.done;
            instances-length = f.instances-length;
            queue-length = f.queue-length;
            least = omega arith;
            told = λ k g. by_cases (ℕ_discrete k i)
                (λ e. ap (λ (n : ℕ). get_or (set x.2 i (get_or l i 0)) n 0) e ∙ get_or-set_same x.2 i (get_or l i 0) 0 (rw m.lasts-length h) ∙ sym (ap (λ (n : ℕ). get_or l n 0) e))
                (λ n. get_or-set_other x.2 i k _ 0 n ∙ m.told k (omega arith));
            untold = λ k g. get_or-set_other x.2 i k _ 0 (λ e. omega arith) ∙ m.untold k (omega arith);
            lasts-length = length-set x.2 i _ ∙ m.lasts-length;
          },
        ),
      )

  -- ---- the connections: the instances are c's, and the table is c's below s and free from s on
  record Wired (s : ℕ) (x : SoFar) : Type 0 where
    instances : (j : ℕ) → j < 32 → instance x.0 j ≡ instance c j
    slots : (j r : ℕ) → j < 32 → r < 8 → slot x.0 j r ≡ slot c j r
    below : (n : ℕ) → n < s → server x.0.servers n ≡ server c.servers n
    above : (n : ℕ) → s ≤ n → server x.0.servers n ≡ no_server
    done : x.0.done ≡ 0
    instances-length : length x.0.instances ≡ 32
    queue-length : length x.0.queue ≡ 256
    servers-length : length x.0.servers ≡ 512
    least : x.1 ≤ s
    told : x.2 ≡ l

  free-start : (n : ℕ) → server start.servers n ≡ no_server
  unfolding is_served
  free-start n = eqb-true _ _ (not-false _ (start-unserved n))

  wired-start : (x : SoFar) → Shown 32 x → Wired 0 (x.0, 0, x.2)
  wired-start x m =
      let (_, _, full) = start-lengths in
      record {
        instances = m.below;
        slots = m.slots;
        below = λ n l. absurd (omega arith);
        above = λ n _. ap (λ (y : List ℕ). server y n) m.servers ∙ free-start n;
        done = m.done;
        instances-length = m.instances-length;
        queue-length = m.queue-length;
        servers-length = ap length m.servers ∙ full;
        least = omega arith;
        told = ext_get_or 0 x.2 l (m.lasts-length ∙ sym lasts.long) (λ j g. m.told j (rw m.lasts-length at g));
      }

  wired-skip : (s : ℕ) (x : SoFar) → s < 512 → is_served c.servers s ≡ false → Wired s x → Wired (suc s) x
  unfolding is_served
  wired-skip s x h off m =
      record {
        instances = m.instances;
        slots = m.slots;
        below = λ n l. by_cases (ℕ_discrete n s)
            (λ e. ap (server x.0.servers) e ∙ m.above s (omega arith) ∙ sym (eqb-true _ _ (not-false _ off)) ∙ sym (ap (server c.servers) e))
            (λ z. m.below n (omega arith));
        above = λ n l. m.above n (omega arith);
        done = m.done;
        instances-length = m.instances-length;
        queue-length = m.queue-length;
        servers-length = m.servers-length;
        least = let l = m.least in omega arith;
        told = m.told;
      }

  -- the connection in slot s, beside what was read so far
  module _ (s : ℕ) (x : SoFar) (h : s < 512) (is : is_served c.servers s ≡ true) (m : Wired s x) where
    abbrev k : Connection
    k = connection c s

    there : Joins t c k
    there = now.connections s h is

    small : Small k
    small = joins-small default t p law c now k there

    user-same : instance x.0 k.user ≡ instance c k.user
    user-same = m.instances k.user small.user

    provider-same : instance x.0 k.provider ≡ instance c k.provider
    provider-same = m.instances k.provider small.provider

    its-slot : port_number k.user k.useport ≡ s
    its-slot = omega arith

    -- no connection of its use port yet
    not_yet : (in_table x.0.servers).some (is_of k.user k.useport) ≡ false
    unfolding in_table is_of is_served
    not_yet = none_any 512 _ (λ n l. by_cases (ℕ_discrete n s)
        (λ e. and-off (is_of k.user k.useport (connection_at x.0.servers n)) _ (ap (λ (y : ℕ). not (eqb y no_server)) (ap (server x.0.servers) e ∙ m.above s (omega arith))))
        (λ z. by-test (eqb (n / 16) (s / 16))
        (λ a. by-test (eqb (n % 16) (s % 16)) (λ b. absurd (z (omega (arith, eqb-true (n / 16) (s / 16) a, eqb-true (n % 16) (s % 16) b)))) (λ b. rw (a, b)))
        (λ a. rw a)))

    -- and fewer than 64
    tally-less : (n : ℕ) (p q : ℕ → Bool) → ((j : ℕ) → j < n → p j ≡ true → q j ≡ true) → tally n p ≤ tally n q
    unfolding tally
    tally-less zero p q f = omega arith
    tally-less (suc n) p q f =
        by-test (p n)
        (λ e. rw (e, f n (omega arith) e) (omega (arith, tally-less n p q (λ j l. f j (omega arith)))))
        (λ e. rw e (omega (arith, tally-less n p q (λ j l. f j (omega arith)))))

    one_more : ℕ → Bool
    one_more n = is_served x.0.servers n || eqb n s

    room-left : (standing x.0).count < 64
    unfolding one_more is_served
    room-left =
        let more : tally 512 one_more ≡ suc (tally 512 (is_served x.0.servers)) =
        tally-one 512 s (is_served x.0.servers) one_more h (rw (m.above s (omega arith))) (rw (m.above s (omega arith), eq-eqb s s refl)) (λ n z. rw (ne_eqb n s z) (sym (or_no (is_served x.0.servers n)))) in
        let fewer = tally-less 512 one_more (is_served c.servers) (λ n l e. by_cases (ℕ_discrete n s) (λ z. rw z is) (λ z. old n z (rw (ne_eqb n s z) at e))) in
        omega (arith, more, fewer, count-is x.0.servers m.servers-length, count-is c.servers now.servers-length, now.few)
      where
        or_no : (b : Bool) → (b || false) ≡ b
        or_no true = refl
        or_no false = refl

        old : (n : ℕ) → n ≢ s → (is_served x.0.servers n || false) ≡ true → is_served c.servers n ≡ true
        old n z e =
            by_cases (dec_lt n s)
            (λ l. ap (λ (y : ℕ). not (eqb y no_server)) (sym (m.below n l)) ∙ sym (or_no (is_served x.0.servers n)) ∙ e)
            (λ l. absurd (false≢true (ap (λ (y : ℕ). not (eqb y no_server)) (sym (m.above n (omega arith))) ∙ sym (or_no (is_served x.0.servers n)) ∙ e)))

    allowed-here : con_check t (standing x.0) x.0 k ≡ 0
    unfolding con_check is_use_port is_provide_port
    allowed-here =
        rw (
          user-same,
          provider-same,
          there.user,
          there.provider,
          lt-ltb k.useport _ there.useport,
          there.uses,
          lt-ltb k.provideport _ there.provideport,
          there.provides,
          ne_eqb k.user k.provider there.apart,
          not_yet,
          lt-ltb (standing x.0).count 64 room-left,
        )

    ends-in : ends_in t x.0 k.user k.useport k.provider k.provideport ≡ true
    unfolding port_in
    ends-in =
        let a = small.user in
        let b = small.useport in
        let u = small.provider in
        let v = small.provideport in
        rw (
          le-leb k.user 31 (omega arith),
          le-leb k.useport 15 (omega arith),
          le-leb k.provider 31 (omega arith),
          le-leb k.provideport 15 (omega arith),
          user-same,
          provider-same,
          there.user,
          there.provider,
          lt-ltb k.useport _ there.useport,
          lt-ltb k.provideport _ there.provideport,
        )

    joins-ok : joins_ok t x.0 x.1 k ≡ true
    joins-ok = rw (le-leb x.1 (port_number k.user k.useport) (omega (arith, m.least, its-slot)), allowed-here)

    join-round : (r : List ℕ) → connection_line t x.0 x.1 (connection_text k ++ r) ≡ got k r
    unfolding connection_line connection_text
    join-round r =
        let a = small.user in
        let b = small.useport in
        let u = small.provider in
        let v = small.provideport in
        rw (
          append_assoc (bytes "connection=") (four_text k.user k.useport k.provider k.provideport) r,
          key-round (bytes "connection="),
          four-round 5 (omega arith) (omega arith) k.user k.useport k.provider k.provideport (omega arith) (omega arith) (omega arith) (omega arith) r,
          ends-in,
          joins-ok,
        )

    its-server : server_number k.provider k.provideport ≡ server c.servers s
    unfolding is_served
    its-server = let n = eqb-false (server c.servers s) no_server (not-true _ is) in omega (arith, n)

    wired-take : (j : ℕ) (r : List ℕ) → (y : SoFar) × ((text.connection_at t j x (connection_text k ++ r) ≡ on y r) × Wired (suc s) y)
    unfolding text.connection_at connected with_servers
    wired-take j r = (
      (connected x.0 k, suc (port_number k.user k.useport), x.2),
      (
        rw (join-round r),
        record {
          instances = m.instances;
          slots = m.slots;
          below = λ n l. by_cases (ℕ_discrete n s)
              (λ e. rw (its-slot, its-server, e) (get_or-set_same x.0.servers s (server c.servers s) no_server (rw m.servers-length h)))
              (λ z. rw (its-slot) (get_or-set_other x.0.servers s n _ no_server z ∙ m.below n (omega arith)));
          above = λ n l. rw its-slot (get_or-set_other x.0.servers s n _ no_server (λ e. omega arith) ∙ m.above n (omega arith));
          done = m.done;
          instances-length = m.instances-length;
          queue-length = m.queue-length;
          servers-length = length-set x.0.servers _ _ ∙ m.servers-length;
          least = omega (arith, its-slot);
          told = m.told;
        },
      ),
    )

  -- ---- the whole
  all_same : (x : SoFar) → Wired 512 x → x.0 ≡ with_done c 0
  unfolding with_done
  all_same x m =
      same-fields x.0 (with_done c 0)
      (same-instances x.0 c m.instances-length now.instances-length (λ i h. m.instances i h))
      (same-queues x.0 c m.queue-length now.queue-length (λ i r h l. m.slots i r h l))
      (ext_get_or no_server x.0.servers c.servers (m.servers-length ∙ sym now.servers-length) (λ n l. m.below n (rw m.servers-length at l)))
      m.done

  -- the lines of the instances and of the connections
  abbrev shows : ℕ → Bool
  shows i = (instance c i).present

  abbrev instance_lines : List ℕ
  instance_lines = turn_from (λ i. only_if (shows i) (row_text p.edition i (instance c i) (queue_of c i) (get_or l i 0))) 0 32

  abbrev stands : ℕ → Bool
  stands s = is_served c.servers s

  abbrev connection_lines : List ℕ
  connection_lines = turn_from (λ s. only_if (stands s) (connection_text (connection c s))) 0 512

  instances-are : in_turn (row_at p.edition l c) 32 ≡ instance_lines
  unfolding row_at
  instances-are = in-turn-is (row_at p.edition l c) 32

  connections-are : connections_text c ≡ connection_lines
  unfolding report.connection_line is_served
  connections-are = lines-in-turn c now.servers-length ∙ in-turn-is (line_at c.servers) 512

  abbrev text_of : List ℕ
  text_of =
      bytes "start=1\n" ++ (count_text (bytes "instances=") (count_from shows 0 32) ++ (instance_lines ++ (count_text (bytes "connections=") (count_from stands 0 512) ++ (connection_lines ++ []))))

  text-is : start_text p.edition l c ≡ text_of
  unfolding start_text
  text-is =
      rw (
        tally-is shows 32,
        instances-are,
        count-is c.servers now.servers-length,
        tally-is stands 512,
        connections-are,
        append-nil connection_lines,
        append_assoc (count_text (bytes "instances=") (count_from shows 0 32) ++ instance_lines) (count_text (bytes "connections=") (count_from stands 0 512)) connection_lines,
        append_assoc (count_text (bytes "instances=") (count_from shows 0 32)) instance_lines (count_text (bytes "connections=") (count_from stands 0 512) ++ connection_lines),
      )

  pub read_back : start_lines p.edition (depth_of default t) t (start_text p.edition l c) ≡ on (with_done c 0, l) []
  unfolding start_lines
  read_back =
      let few : count_from shows 0 32 ≤ 32 = omega (arith, tally-is shows 32, tally-le 32 shows) in
      let joined : count_from stands 0 512 ≤ 64 = omega (arith, tally-is stands 512, count-is c.servers now.servers-length, now.few) in
      let (x, (first, m)) = sparse (text.instance_at p.edition (depth_of default t) t) shows (λ i. row_text p.edition i (instance c i) (queue_of c i) (get_or l i 0)) Shown 32 shown-skip (λ i j a s h e n. shown-take i j a s h e n)
      32 0 0 (start, 0, none_begun.last) (count_text (bytes "connections=") (count_from stands 0 512) ++ (connection_lines ++ [])) (omega arith) shown-start in
      let (y, (second, n)) = sparse (text.connection_at t) stands (λ s. connection_text (connection c s)) Wired 512 wired-skip (λ s j a r h e n. wired-take s a h e n j r)
      512 0 0 (x.0, 0, x.2) [] (omega arith) (wired-start x m) in
      ap (start_lines p.edition (depth_of default t) t) text-is
      ∙ rw (
        due-round (count_text (bytes "instances=") (count_from shows 0 32) ++ (instance_lines ++ (count_text (bytes "connections=") (count_from stands 0 512) ++ (connection_lines ++ [])))),
        count-round (bytes "instances=") instances_ok (count_from shows 0 32) (omega arith) (le-leb (count_from shows 0 32) 32 few) (instance_lines ++ (count_text (bytes "connections=") (count_from stands 0 512) ++ (connection_lines ++ []))),
        first,
        count-round (bytes "connections=") connections_ok (count_from stands 0 512) (omega arith) (le-leb (count_from stands 0 512) 64 joined) (connection_lines ++ []),
        second,
      )
      (ap₂ (λ (d : Configuration) (k : List ℕ). on (d, k) []) (all_same y n) n.told)

-- ---- the claims
pub states-are-read-back : StatesAreReadBack
unfolding StatesAreReadBack
states-are-read-back default t p c l small law now tidy lasts = read_back default t p (facts default t p small law) c now tidy l lasts

pub plain-starts-are-reports : PlainStartsAreReports
unfolding PlainStartsAreReports plain_start start_text state_text row_at report.instance_at row_text instance_text instances_text
plain-starts-are-reports e l c plain = rw (lines-plain)
  where
    row_plain : (i : ℕ) (w : Instance) (q : List ℕ) (k : ℕ) → row_text e i w q k ≡ instance_text i w q
    row_plain i w q k = rw plain (ap (λ (a : List ℕ). a ++ bytes "\n") (append-nil (bytes "instance=" ++ number_text i ++ bytes "," ++ number_text w.kind ++ bytes "," ++ mask_text w.marked ++ bytes ","
        ++ mask_text w.running ++ bytes "," ++ mask_text w.ended ++ bytes "," ++ queue_text q)))

    line_plain : (i : ℕ) → row_at e l c i ≡ report.instance_at c i
    line_plain i = ap (only_if (instance c i).present) (row_plain i (instance c i) (queue_of c i) (get_or l i 0))

    lines-plain : in_turn (row_at e l c) 32 ≡ instances_text c
    lines-plain = in-turn-same 32 (row_at e l c) (report.instance_at c) (λ i _. line_plain i)

-- without tickets there is no last one
pub no_lasts : (p : Program) (c : Configuration) → has_tickets p.edition ≡ false → Lasts p c none_begun.last
unfolding none_begun
no_lasts p c plain =
    record {
      long = refl;
      small = λ i. rw (all_alike {A = ℕ} 32 i 0) (omega arith);
      gone = λ i _. all_alike 32 i 0;
      plain = λ _ i. all_alike 32 i 0;
      stamps = λ has. absurd (false≢true (sym plain ∙ has));
      tail = λ has. absurd (false≢true (sym plain ∙ has));
    }

pub reports-are-starts : ReportsAreStarts
unfolding ReportsAreStarts PlainStartsAreReports
reports-are-starts default t p c ss small law plain b =
    let known = facts default t p small law in
    let d = (walk default t p c ss).configuration in
    let (now, tidy) = tidy-from default t p known ss c (b.permitted.proper, b.permitted.tidy) in
    ap (start_lines p.edition (depth_of default t) t) (sym (plain-starts-are-reports p.edition none_begun.last d plain))
    ∙ read_back default t p known d now tidy none_begun.last (no_lasts p d plain)

pub reports-end-in-the-state : ReportsEndInTheState
unfolding ReportsEndInTheState report.report report_with head_text state_text
reports-end-in-the-state w = simp append_assoc refl
