-- The provide ports in use, gathered row by row: a row adds what its use ports that are left behind employ.
-- Assumes nothing.
use Rattle.std.proofs.Common.{◌≡◌, ℕ, suc, ◌+◌, ◌-◌, ◌/◌, ◌%◌, ◌^◌, ◌<◌, Bool, true, false, cond, not, ◌&&◌, ◌||◌, eqb, ◌≢◌, List, sym, refl, ap, ◌∙◌, true≢false, add-one, arith, lt-ltb, eq-eqb, ne_eqb}
use mathlib.Core.Logic.{by_cases}
use mathlib.Core.Bool.{and-true, and-false, or-false, or_assoc, and-eq-true_iff}
use native.Mathlib.Decide.{ℕ_discrete, dec_lt}
use Rattle.sets.specs.Test.{any_below}
use Rattle.sets.specs.Mask.{member, collect, with, least, later}
use Rattle.sets.proofs.Laws.{none_any, any_same, member-none, member-past, member-collect, collect-lt, collect-is, collect-same}
use Rattle.sets.proofs.Searches.{any-rows, any-one-more}
use Rattle.sets.proofs.Members.{Rest, least-of, least-member, later-own, later-other}
use Rattle.item_spec.proofs.Tests.{by-test}
use Rattle.model.specs.declared.Tables.{Tables}
use Rattle.model.specs.declared.Configuration.{Configuration}
use Rattle.model.specs.View.{instance, port_number, server, is_served, connection_at}
use Rattle.rules_spec.specs.Instance.{active}
use Rattle.rules_spec.specs.Standing.{in_table, standing}
use Rattle.rules_spec.specs.Ports.{employs, in_use}
use Rattle.words.specs.Parts.{server_of}
use Rattle.step_ports.specs.InUse.{served_by, higher, uses_of, employs_by}

-- one less than a server's number, as a word: nobody's is past every instance's
pub served-word : (w v i : ℕ) → w < 2 ^ 32 → (w + 1) % 2 ^ 32 ≡ v → i < 32 → eqb (w / 16) i ≡ (eqb ((v - 1) / 16) i && not (eqb v 0))
served-word w v i h e l =
    by_cases (ℕ_discrete v 0)
    (λ z. ne_eqb (w / 16) i (λ f. omega arith) ∙ rw (z) (sym (and-false (eqb 0 i))))
    (λ n. rw (ne_eqb v 0 n, let same : w / 16 ≡ (v - 1) / 16 = omega arith in same) (sym (and-true (eqb ((v - 1) / 16) i))))

pub higher-at : (p : ℕ → Bool) (q : ℕ) → higher p (q + 1) ≡ p q
higher-at p q = rw (add-one q)

pub uses-start : (p : ℕ → Bool) → 0 ≡ collect (0 + 1) (higher p)
unfolding collect
uses-start p = refl

-- ---- one user

module _ (t : Tables) (c : Configuration) (i u : ℕ) where
  abbrev x : List ℕ
  x = c.servers

  abbrev uses : ℕ
  uses = uses_of x u i

  -- use port r is active and connected to the provide port q of i
  abbrev employing : ℕ → ℕ → Bool
  employing q r = employs t c i q (connection_at x (port_number u r)) && is_served x (port_number u r)

  -- those of the set and those that use ports not in the rest employ
  abbrev pub employed_but : ℕ → ℕ → ℕ → Bool
  employed_but set rest q = member q set || any_below 16 (λ r. employing q r && not (member (suc r) rest))

  in-uses : (r : ℕ) → r < 16 → member (suc r) uses ≡ served_by x i (port_number u r)
  unfolding uses_of
  in-uses r h = member-collect 17 (higher (λ q. served_by x i (port_number u q))) (suc r) (omega arith)

  pub users-start : (set : ℕ) → set < 2 ^ 32 → set ≡ collect 32 (employed_but set uses)
  unfolding served_by employs
  users-start set h =
      collect-is 32 _ set h
      (λ q l. sym (ap (◌||◌ (member q set)) (none_any 16 _ (λ r b. ap (λ (m : Bool). employing q r && not m) (in-uses r b) ∙ none (eqb (connection_at x (port_number u r)).provider i) _ (is_served x (port_number u r))))
      ∙ or-false (member q set)))
    where
      none : (a b s : Bool) → (((a && b) && s) && not (a && s)) ≡ false
      none true true true = refl
      none true true false = refl
      none true false s = refl
      none false b s = refl

  pub users-end : (set rest : ℕ) → rest ≡ 0 → collect 32 (employed_but set rest) ≡ collect 32 (λ q. member q set || employs_by t c i q u)
  unfolding employs_by
  users-end set rest z =
      collect-same 32 _ _
      (λ q h. ap (◌||◌ (member q set)) (any_same 16 _ _ (λ r l. rw (z, member-none (suc r)) (and-true (employing q r)))))

  module _ (rest : ℕ) (within : Rest uses rest) (some : rest ≢ 0) where
    abbrev y : ℕ
    y = least rest

    abbrev port : ℕ
    port = y - 1

    -- the least is a use port's number and one more
    pub least-port : (0 < y) × (port < 16)
    unfolding uses_of
    least-port =
        let on = least-member uses rest within some in (
          by_cases (ℕ_discrete y 0) (λ z. absurd (true≢false (sym on ∙ ap (λ (j : ℕ). member j uses) z ∙ member-collect 17 (higher p) 0 (omega arith)))) (λ n. omega arith),
          by_cases (dec_lt y 17) (λ l. omega arith) (λ n. absurd (true≢false (sym on ∙ member-past 17 y uses (omega arith) (collect-lt 17 (higher p))))),
        )
      where
        p : ℕ → Bool
        p q = served_by x i (port_number u q)

    is-served : served_by x i (port_number u port) ≡ true
    is-served =
        let (above, low) = least-port in
        sym (in-uses port low) ∙ ap (λ (j : ℕ). member j uses) (let e : suc port ≡ y = omega arith in e) ∙ least-member uses rest within some

    -- what that port employs
    abbrev its : ℕ → Bool
    its q = eqb q ((server x (port_number u port) - 1) % 16) && active t (instance c u) port

    its_own : (q : ℕ) → employing q port ≡ its q
    unfolding served_by employs
    its_own q =
        let (above, low) = least-port in
        let (provider, served) = (and-eq-true_iff (eqb (connection_at x (port_number u port)).provider i) _).0 is-served in
        rw (provider, served, let a : port_number u port / 16 ≡ u = omega arith in a, let b : port_number u port % 16 ≡ port = omega arith in b)
        (and-true _ ∙ ap (λ (b : Bool). b && active t (instance c u) port) (turned ((server x (port_number u port) - 1) % 16) q))
      where
        turned : (a b : ℕ) → eqb a b ≡ eqb b a
        turned a b = by_cases (ℕ_discrete a b) (λ e. eq-eqb a b e ∙ sym (eq-eqb b a (sym e))) (λ n. ne_eqb a b n ∙ sym (ne_eqb b a (λ e. n (sym e))))

    more : (set q : ℕ) → employed_but set (later rest) q ≡ (employed_but set rest q || its q)
    more set q =
        let (above, low) = least-port in
        let is : suc port ≡ y = omega arith in
        ap (◌||◌ (member q set))
        (any-one-more 16 port (λ r. employing q r && not (member (suc r) rest)) (λ r. employing q r && not (member (suc r) (later rest))) low
        (rw (is, least-of uses rest within some) (and-false (employing q port)))
        (λ r n. rw (later-other uses rest within some (suc r) (λ e. n (omega arith))))
        ∙ ap (◌||◌ (any_below 16 (λ r. employing q r && not (member (suc r) rest)))) (rw (is, later-own uses rest within some) (and-true (employing q port) ∙ its_own q)))
        ∙ sym (or_assoc (member q set) _ (its q))

    pub users-more : (set all : ℕ) → all ≡ collect 32 (employed_but set rest)
        → cond (active t (instance c u) port) (with ((server_of c u port - 1) % 16) all) all ≡ collect 32 (employed_but set (later rest))
    users-more set all e =
        rw (lt-ltb port 16 least-port.1, e)
        (by-test (active t (instance c u) port)
        (λ on. rw on (collect-same 32 _ _ (λ q h. rw (member-collect 32 (employed_but set rest) q h) (sym (more set q ∙ rw (on, and-true (eqb q ((server x (port_number u port) - 1) % 16))))))))
        (λ off. rw off (collect-same 32 _ _ (λ q h. sym (more set q ∙ rw (off, and-false (eqb q ((server x (port_number u port) - 1) % 16))) (or-false (employed_but set rest q)))))))

-- ---- all users

module _ (t : Tables) (c : Configuration) (i : ℕ) where
  abbrev pub employed_below : ℕ → ℕ
  employed_below n = collect 32 (λ q. any_below n (employs_by t c i q))

  pub in-use-start : 0 ≡ employed_below 0
  unfolding any_below
  in-use-start = collect-is 32 _ 0 (omega arith) (λ q h. member-none q)

  pub in-use-more : (n all : ℕ) → all ≡ employed_below n → collect 32 (λ q. member q all || employs_by t c i q n) ≡ employed_below (n + 1)
  unfolding any_below
  in-use-more n all e =
      rw (add-one n, e) (collect-same 32 _ _ (λ q h. ap (λ (b : Bool). b || employs_by t c i q n) (member-collect 32 (λ j. any_below n (employs_by t c i j)) q h)))

  pub in-use-end : employed_below 32 ≡ in_use t (standing c) c i
  unfolding in_use in_table employs_by
  in-use-end = collect-same 32 _ _ (λ q h. sym (any-rows 32 16 (λ s. employs t c i q (connection_at c.servers s) && is_served c.servers s)))
