-- The line of a connection: its key and its numbers, then 3 and 4.
-- Assumes nothing.
use Prim.Native.Nat.{ℕ, suc, ◌+◌, ◌<◌, min, zero-le}
use mathlib.Core.List.{List}
use mathlib.Core.Bool.{Bool, true, false, cond, ◌&&◌}
use mathlib.Core.Path.{◌≡◌, refl, sym, ◌∙◌}
use native.Mathlib.Omega.{arith}
use lib.Dec.{ltb, leb-suc-suc}
use lib.ListN.{length, drop}
use borrow.Author.Tests.{ltb-true, lt-ltb}
use Rattle.item_spec.specs.Refusal.{beyond_limit, bad_clause, number_of}
use Rattle.item_spec.specs.Reader.{Reader, got, refused, read_on, bytes, ◌>>◌, give, check}
use Rattle.item_spec.specs.Read.{key, four_form}
use Rattle.item_spec.proofs.Tests.{and_left, and_right}
use Rattle.model.specs.declared.Tables.{Tables}
use Rattle.model.specs.declared.Connection.{Connection}
use Rattle.model.specs.declared.Configuration.{Configuration}
use Rattle.read_spec.specs.Limits.{five_digits, id_ok, port_ok}
use Rattle.read_items.specs.declared.numbers.Four.{Four}
use Rattle.read_items.specs.declared.numbers.Limits.TheVariants as limits
use Rattle.item_spec.specs.declared.Refusal.{Refusal}
use Rattle.item_spec.specs.declared.Refusal.TheVariants as refusal
use Rattle.std.specs.declared.result.Result.{Result}
use Rattle.std.specs.declared.result.Result.TheVariants.{Ok, Err}
use Rattle.read_items.specs.Reads.{past, fault, Reads}
use Rattle.read_items.specs.Within.{numbers_says, numbers_within}
use Rattle.read_items.specs.Keyed.{keyed}
use Rattle.read_items.proofs.Limits.{form-fault, form-then}
use Rattle.read_items.proofs.Shapes.{bind-same, bind-bind}
use Rattle.read_items.proofs.Within.{four-within, got-within}
use Rattle.model.specs.View.{port_number}
use Rattle.read_lines.specs.Runs.{onto, fault_at, RunsTo}
use Rattle.read_lines.proofs.Lines.{part}
use Rattle.read_lines.specs.declared.LineFault.{LineFault}
use Rattle.read_chain.specs.Chain.{placed}
use Rattle.read_chain.proofs.Placed.{line-put, line-stop}
use Rattle.rules_spec.specs.Con.{connected}
use Rattle.rules_spec.specs.DCon.{disconnected}
use Rattle.start_spec.specs.Text.{connection_at}
use Rattle.start_spec.specs.Row.{port_in, ends_in, joins_ok, connection_line}
use Rattle.read_start.specs.Says.{join_in, join_says, in_type, join_number, SmallJoin}

-- the flat limits first, then those of the types
split-check : (p q t v x y : Bool) (r : List ℕ) (g : Reader Connection)
    → read_on (check (p && ((q && x) && (t && (v && y)))) beyond_limit r) (λ _. g) ≡ read_on (check (p && (q && (t && v))) beyond_limit r) (λ _ o. read_on (check (x && y) beyond_limit o) (λ _. g))
split-check false q t v x y r g = refl
split-check true false t v x y r g = refl
split-check true true false v true y r g = refl
split-check true true false v false y r g = refl
split-check true true true false true y r g = refl
split-check true true true false false y r g = refl
split-check true true true true x y r g = refl

module _ (t : Tables) (c : Configuration) (m : ℕ) where
  abbrev in_types : Four → Bool
  in_types n = in_type t c n.first n.second && in_type t c n.third n.fourth

  abbrev join_rest : Four → Reader Connection
  join_rest n = do
    check (in_types n) beyond_limit
    check (joins_ok t c m (join_in n)) bad_clause
    give (join_in n)

  four_is : (s : List ℕ) → read_on (four_form five_digits s) (λ (a, b, u, v) r. read_on (check (ends_in t c a b u v) beyond_limit r) (λ _ o.
      read_on (check (joins_ok t c m (record { user = a; useport = b; provider = u; provideport = v })) bad_clause o) (λ _. give (record { user = a; useport = b; provider = u; provideport = v }))))
      ≡ read_on (numbers_within five_digits (limits.Four 32 16 32 16) s) join_rest
  unfolding port_in
  four_is s =
      bind-same (four_form five_digits s) _ _ (λ (a, b, u, v) r. split-check (id_ok a) (port_ok b) (id_ok u) (port_ok v) (in_type t c a b) (in_type t c u v) r
      (λ o. read_on (check (joins_ok t c m (record { user = a; useport = b; provider = u; provideport = v })) bad_clause o) (λ _. give (record { user = a; useport = b; provider = u; provideport = v }))))
      ∙ four-within five_digits join_rest s 32 16 32 16 id_ok port_ok id_ok port_ok (λ a. leb-suc-suc a 31) (λ a. leb-suc-suc a 15) (λ a. leb-suc-suc a 31) (λ a. leb-suc-suc a 15)

  join_is : (s : List ℕ) → connection_line t c m s ≡ read_on (keyed (bytes "connection=") (numbers_within five_digits (limits.Four 32 16 32 16)) s) join_rest
  unfolding connection_line keyed
  join_is s =
      bind-same (key (bytes "connection=") s) _ _ (λ u r. four_is r) ∙ sym (bind-bind (key (bytes "connection=") s) (λ _. numbers_within five_digits (limits.Four 32 16 32 16)) join_rest)

  pub join-faulty : (s : List ℕ) {k : ℕ} → Reads s (fault k) (keyed (bytes "connection=") (numbers_within five_digits (limits.Four 32 16 32 16)) s) → Reads s (fault k) (connection_line t c m s)
  join-faulty s h = rw (join_is s) (form-fault _ join_rest h)

  rest-got : (a b : Bool) (x : Connection) (r : List ℕ) → cond a (cond b 0 bad_clause) beyond_limit ≡ 0
      → read_on (check a beyond_limit r) (λ _ o. read_on (check b bad_clause o) (λ _. give x)) ≡ got x r
  rest-got true true x r e = refl
  rest-got true false x r e = absurd (omega (arith, e))
  rest-got false b x r e = absurd (omega (arith, e))

  rest-refused : (a b : Bool) (x : Connection) (r : List ℕ) → (cond a (cond b 0 bad_clause) beyond_limit ≡ 0 → ⊥)
      → read_on (check a beyond_limit r) (λ _ o. read_on (check b bad_clause o) (λ _. give x)) ≡ refused (cond a (cond b 0 bad_clause) beyond_limit)
  rest-refused true true x r e = absurd (e refl)
  rest-refused true false x r e = refl
  rest-refused false b x r e = refl

  module _ (s : List ℕ) (n : Four) (at : ℕ) (h : Reads s (past n at) (keyed (bytes "connection=") (numbers_within five_digits (limits.Four 32 16 32 16)) s)) where
    pub join-got : join_number t c m n ≡ 0 → Reads s (past (join_in n) at) (connection_line t c m s)
    unfolding join_number
    join-got e = rw (join_is s) (form-then _ join_rest h (record { within = h.within; same = sym (rest-got (in_types n) (joins_ok t c m (join_in n)) (join_in n) (drop at s) e) }))

    pub join-refused : (join_number t c m n ≡ 0 → ⊥) → Reads s (fault (join_number t c m n)) (connection_line t c m s)
    unfolding join_number
    join-refused e = rw (join_is s) (form-then _ join_rest h (record { within = zero-le; same = sym (rest-refused (in_types n) (joins_ok t c m (join_in n)) (join_in n) (drop at s) e) }))

-- a refusal has a number
pub refused_number : (r : Refusal) → number_of r ≡ 0 → ⊥
refused_number refusal.TooLong e = omega (arith, e)
refused_number refusal.BadForm e = omega (arith, e)
refused_number refusal.BeyondLimit e = omega (arith, e)
refused_number refusal.BadClause e = omega (arith, e)
refused_number refusal.BytesAfter e = omega (arith, e)

-- ---- a provide port that was read
pub small-join : (t : List ℕ) {s : List ℕ} (r : Result (Four × ℕ) Refusal) → Reads s (numbers_says r) (numbers_within five_digits (limits.Four 32 16 32 16) t) → SmallJoin r
small-join t (Err k) h = tt
small-join t {s} (Ok (n, at)) h =
    let w = got-within five_digits (limits.Four 32 16 32 16) t {s = s} {x = n} {i = at} h in
    let two = and_right (ltb n.first 32) _ w in
    let three = and_right (ltb n.second 16) _ two in
    (ltb-true n.third 32 (and_left (ltb n.third 32) (ltb n.fourth 16) three), ltb-true n.fourth 16 (and_right (ltb n.third 32) (ltb n.fourth 16) three))

-- ---- the line read at a part of the text, and its connection made
-- the number of its provide port is held by a word
pub join-made : (c d : Configuration) (n : Four) → (n.third < 32) × (n.fourth < 16)
    → d ≡ cond (ltb (port_number n.third n.fourth) 4294967295) (connected c (join_in n)) (disconnected c (join_in n)) → d ≡ connected c (join_in n)
join-made c d n small e = e ∙ rw (lt-ltb (port_number n.third n.fourth) 4294967295 (omega (arith, small.0, small.1))) refl

module _ (t : Tables) (m : ℕ) (c : Configuration) (s : List ℕ) (start at : ℕ) (e : at ≡ min start (length s)) (r : Result (Four × ℕ) Refusal)
    (o : Reads (part s at) (join_says r) (connection_line t c m (part s at))) where
  pub join-put : {n : Four} {used : ℕ} → Ok (n, used) ≡ placed at r → (j : ℕ) (l : List ℕ)
      → RunsTo s (onto (connected c (join_in n), suc (port_number n.first n.second), l) (at + used)) (connection_at t j (c, m, l) (drop start s))
  unfolding connection_at
  join-put q j l = line-put join_says (connection_line t c m) (λ k. (connected c k, suc (port_number k.user k.useport), l)) s start at e r o q refl

  pub join-stop : {f : LineFault Refusal} → Err f ≡ placed at r → (j : ℕ) (l : List ℕ) → RunsTo s (fault_at (number_of f.refusal) f.at) (connection_at t j (c, m, l) (drop start s))
  unfolding connection_at
  join-stop q j l = line-stop join_says (connection_line t c m) (λ k. (connected c k, suc (port_number k.user k.useport), l)) s start at e r o q refl
