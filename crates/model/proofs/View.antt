-- What the views answer after each update, what no update touches, and the lists that views make.
-- Assumes nothing.
use mathlib.Core.Path.{◌≡◌, refl, sym, ap, ap₂, ◌∙◌, subst}
use mathlib.Core.Logic.{◌⊎◌, inl, inr, ◌≢◌, by_cases}
use mathlib.Core.Bool.{true, false, cond}
use mathlib.Core.List.{List, [], ◌∷◌, ◌++◌, map}
use Prim.Native.Nat.{ℕ, zero, suc, ◌+◌, ◌-◌, ◌*◌, ◌/◌, ◌%◌, ◌≤◌, ◌<◌}
use native.Mathlib.Omega.{arith}
use native.Mathlib.Decide.{ℕ_discrete, dec_lt}
use lib.Dec.{eqb}
use lib.ListN.{length, get_or, set, replicate, length-map, length-set, length-replicate, get_or-eq_default}
use lib.Seq.{get_or-set_same, get_or-set_other, set_out, set-get_or, set-set, ext_get_or}
use borrow.Author.Tests.{eq-eqb, ne_eqb}
use Rattle.model.specs.declared.Instance.{Instance}
use Rattle.model.specs.declared.Connection.{Connection}
use Rattle.model.specs.declared.Configuration.{Configuration}
use Rattle.model.specs.Empty.{absent, no_server, start}
use Rattle.model.specs.View.{instance, slot, port_number, server_number, server, is_served, connection_at, list_of, put, with_queue, with_servers, with_done}

-- ---- past an array's end

-- an array is as long as the list of its machine values
pub array-length : {A B : Type 0} (f : A → B) (xs : List A) {n : ℕ} → length (map f xs) ≡ n → length xs ≡ n
array-length f xs e = sym (length-map xs f) ∙ e

pub past_end : {A : Type 0} (xs : List A) (d : A) {n i : ℕ} → length xs ≡ n → n ≤ i → get_or xs i d ≡ d
past_end xs d e h = get_or-eq_default xs d (rw e h)

-- ---- an instance put

abbrev with_instances : Configuration → List Instance → Configuration
with_instances c vs = record { instances = vs; queue = c.queue; servers = c.servers; done = c.done }

pub put_same : (c : Configuration) (i : ℕ) (w : Instance) → i < length c.instances → instance (put c i w) i ≡ w
unfolding put
put_same c i w h = get_or-set_same c.instances i w absent h

pub put_other : (c : Configuration) (i j : ℕ) (w : Instance) → j ≢ i → instance (put c i w) j ≡ instance c j
unfolding put
put_other c i j w n = get_or-set_other c.instances i j w absent n

pub put-past : (c : Configuration) (i : ℕ) (w : Instance) → length c.instances ≤ i → put c i w ≡ c
unfolding put
put-past c i w h = ap (with_instances c) (set_out c.instances i w h)

pub put-own : (c : Configuration) (i : ℕ) → put c i (instance c i) ≡ c
unfolding put
put-own c i = ap (with_instances c) (set-get_or c.instances i absent)

pub put-twice : (c : Configuration) (i : ℕ) (v w : Instance) → put (put c i v) i w ≡ put c i w
unfolding put
put-twice c i v w = ap (with_instances c) (set-set c.instances i v w)

pub length-put : (c : Configuration) (i : ℕ) (w : Instance) → length (put c i w).instances ≡ length c.instances
unfolding put
length-put c i w = length-set c.instances i w

pub put_rest : (c : Configuration) (i : ℕ) (w : Instance)
    → ((put c i w).queue ≡ c.queue) × ((put c i w).servers ≡ c.servers) × ((put c i w).done ≡ c.done)
unfolding put
put_rest c i w = (refl, refl, refl)

-- ---- a queue slot set

-- slots of two instances are apart
pub apart : (i j r s : ℕ) → i ≢ j → r < 8 → s < 8 → i * 8 + r ≢ j * 8 + s
apart i j r s n a b e = n (omega arith)

-- a slot of another instance stands before or after the first n of i
pub outside : (i j r n : ℕ) → j ≢ i → r < 8 → n ≤ 8 → (j * 8 + r < i * 8) ⊎ (i * 8 + n ≤ j * 8 + r)
outside i j r n d a b = by_cases (dec_lt j i) (λ l. inl (omega arith)) (λ l. inr (omega arith))

module _ (c : Configuration) (i r b : ℕ) where
  -- slot r of i is b
  abbrev pub stored : Configuration
  stored = with_queue c (set c.queue (i * 8 + r) b)

  pub slot_same : i * 8 + r < length c.queue → slot stored i r ≡ b
  unfolding with_queue
  slot_same h = get_or-set_same c.queue (i * 8 + r) b 0 h

  pub slot-beside : (s : ℕ) → s ≢ r → slot stored i s ≡ slot c i s
  unfolding with_queue
  slot-beside s n = get_or-set_other c.queue (i * 8 + r) (i * 8 + s) b 0 (λ e. n (omega arith))

  pub slot-other : (j s : ℕ) → j ≢ i → r < 8 → s < 8 → slot stored j s ≡ slot c j s
  unfolding with_queue
  slot-other j s n h l = get_or-set_other c.queue (i * 8 + r) (j * 8 + s) b 0 (apart j i s r n l h)

  -- every slot of i
  pub slot-set : i * 8 + r < length c.queue → (s : ℕ) → slot stored i s ≡ cond (eqb s r) b (slot c i s)
  slot-set h s =
      by_cases (ℕ_discrete s r) (λ e. rw (eq-eqb s r e, e) (slot_same h)) (λ n. rw (ne_eqb s r n) (slot-beside s n))

pub queue-rest : (c : Configuration) (q : List ℕ)
    → ((with_queue c q).instances ≡ c.instances) × ((with_queue c q).servers ≡ c.servers) × ((with_queue c q).done ≡ c.done)
unfolding with_queue
queue-rest c q = (refl, refl, refl)

-- ---- a server set

-- the connection of k's slot is k where its server is k's, and a slot is its port: no use port has two
pub slot-says : (x : List ℕ) (k : Connection) → k.useport < 16 → k.provideport < 16
    → server x (port_number k.user k.useport) ≡ server_number k.provider k.provideport
    → connection_at x (port_number k.user k.useport) ≡ k
slot-says x k u p e = fields _ _ _ _ (omega arith) (omega arith) (rw e (omega arith)) (rw e (omega arith))
  where
    fields : (a b d f : ℕ) → a ≡ k.user → b ≡ k.useport → d ≡ k.provider → f ≡ k.provideport
        → ◌≡◌ {A = Connection} (record { user = a; useport = b; provider = d; provideport = f }) k
    fields a b d f g h i j = rw (g, h, i, j)

pub slot_is : (x : List ℕ) (s : ℕ) (k : Connection) → connection_at x s ≡ k → s ≡ port_number k.user k.useport
slot_is x s k e =
    let a : s / 16 ≡ k.user = ap (λ (k : Connection). k.user) e in
    let b : s % 16 ≡ k.useport = ap (λ (k : Connection). k.useport) e in
    omega arith

-- of a table y that is x but at the slot a
pub record Beside (x y : List ℕ) (a : ℕ) : Type 0 where
  pub served : (s : ℕ) → s ≢ a → is_served x s ≡ is_served y s
  pub says : (s : ℕ) → s ≢ a → connection_at x s ≡ connection_at y s

pub set-beside : (x : List ℕ) (a v : ℕ) → Beside x (set x a v) a
unfolding is_served
set-beside x a v =
    record {
      served = λ s n. rw (get_or-set_other x a s v no_server n);
      says = λ s n. rw (get_or-set_other x a s v no_server n);
    }

pub set-served : (x : List ℕ) (a v : ℕ) → a < length x → is_served (set x a (suc v)) a ≡ true
unfolding is_served
set-served x a v h = rw (get_or-set_same x a (suc v) no_server h, ne_eqb (suc v) no_server (λ e. omega arith)) refl

pub set_free : (x : List ℕ) (a : ℕ) → a < length x → is_served (set x a no_server) a ≡ false
unfolding is_served
set_free x a h = rw (get_or-set_same x a no_server no_server h) refl

pub servers-rest : (c : Configuration) (x : List ℕ)
    → ((with_servers c x).instances ≡ c.instances) × ((with_servers c x).queue ≡ c.queue) × ((with_servers c x).done ≡ c.done)
unfolding with_servers
servers-rest c x = (refl, refl, refl)

pub done-rest : (c : Configuration) (n : ℕ)
    → ((with_done c n).instances ≡ c.instances) × ((with_done c n).queue ≡ c.queue) × ((with_done c n).servers ≡ c.servers)
unfolding with_done
done-rest c n = (refl, refl, refl)

-- ---- the start: nothing anywhere

pub all_alike : {A : Type 0} (n i : ℕ) (a : A) → get_or (replicate n a) i a ≡ a
all_alike zero i a = refl
all_alike (suc n) zero a = refl
all_alike (suc n) (suc i) a = all_alike n i a

pub start-instance : (i : ℕ) → instance start i ≡ absent
unfolding start
start-instance i = all_alike 32 i absent

pub start-slot : (i r : ℕ) → slot start i r ≡ 0
unfolding start
start-slot i r = all_alike 256 (i * 8 + r) 0

pub start-unserved : (s : ℕ) → is_served start.servers s ≡ false
unfolding start is_served
start-unserved s = rw (all_alike 512 s no_server) refl

pub start-lengths : (length start.instances ≡ 32) × (length start.queue ≡ 256) × (length start.servers ≡ 512)
unfolding start
start-lengths = (length-replicate 32 absent, length-replicate {A = ℕ} 256 0, length-replicate {A = ℕ} 512 0)

-- ---- configurations with the same views are the same

abbrev made : List Instance → List ℕ → List ℕ → ℕ → Configuration
made vs q x m = record { instances = vs; queue = q; servers = x; done = m }

module _ (c d : Configuration) where
  pub same-instances : length c.instances ≡ 32 → length d.instances ≡ 32 → ((i : ℕ) → i < 32 → instance c i ≡ instance d i)
      → c.instances ≡ d.instances
  same-instances a b f = ext_get_or absent c.instances d.instances (a ∙ sym b) (λ i h. f i (rw (← a) h))

  pub same-queues : length c.queue ≡ 256 → length d.queue ≡ 256 → ((i r : ℕ) → i < 32 → r < 8 → slot c i r ≡ slot d i r) → c.queue ≡ d.queue
  same-queues a b f = ext_get_or 0 c.queue d.queue (a ∙ sym b) (λ n h. at n (rw (← a) h))
    where
      at : (n : ℕ) → n < 256 → get_or c.queue n 0 ≡ get_or d.queue n 0
      at n h =
          subst (λ (m : ℕ). get_or c.queue m 0 ≡ get_or d.queue m 0) (let e : n / 8 * 8 + n % 8 ≡ n = omega arith in e)
          (f (n / 8) (n % 8) (omega arith) (omega arith))

  pub same-fields : c.instances ≡ d.instances → c.queue ≡ d.queue → c.servers ≡ d.servers → c.done ≡ d.done
      → c ≡ d
  same-fields a b e f = all
    where
      all : made c.instances c.queue c.servers c.done ≡ made d.instances d.queue d.servers d.done
      all = rw (a, b, e, f)

-- ---- f 0, f 1, .., n of them

module _ {A : Type 0} where
  pub list_same : (n : ℕ) (f g : ℕ → A) → ((r : ℕ) → r < n → f r ≡ g r) → list_of n f ≡ list_of n g
  unfolding list_of
  list_same zero f g e = refl
  list_same (suc n) f g e = ap₂ ◌∷◌ (e 0 (omega arith)) (list_same n (λ r. f (suc r)) (λ r. g (suc r)) (λ r h. e (suc r) (omega arith)))

  pub list-snoc : (n : ℕ) (f : ℕ → A) → list_of (suc n) f ≡ list_of n f ++ (f n ∷ [])
  unfolding list_of
  list-snoc zero f = refl
  list-snoc (suc n) f = ap (◌∷◌ (f 0)) (list-snoc n (λ r. f (suc r)))

  pub list-head : (n : ℕ) (f : ℕ → A) → 0 < n → list_of n f ≡ f 0 ∷ list_of (n - 1) (λ r. f (suc r))
  unfolding list_of
  list-head zero f h = absurd (omega arith)
  list-head (suc n) f h = ap (λ (m : ℕ). f 0 ∷ list_of m (λ r. f (suc r))) (let e : n ≡ suc n - 1 = omega arith in e)

  pub list_at : (n : ℕ) (f : ℕ → A) (d : A) (r : ℕ) → r < n → get_or (list_of n f) r d ≡ f r
  unfolding list_of
  list_at zero f d r h = absurd (omega arith)
  list_at (suc n) f d zero h = refl
  list_at (suc n) f d (suc r) h = list_at n (λ r. f (suc r)) d r (omega arith)

  pub length-list : (n : ℕ) (f : ℕ → A) → length (list_of n f) ≡ n
  unfolding list_of
  length-list zero f = refl
  length-list (suc n) f = ap suc (length-list n (λ r. f (suc r)))
