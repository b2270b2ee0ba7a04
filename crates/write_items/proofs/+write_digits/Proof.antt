-- The measure is how many digits there may be.
use Prim.Native.Nat.{ℕ, ◌<◌}
use native.Mathlib.Omega.{arith}
use borrow.Author.Rules.{rules}
use borrow.Fn.Kinds.{In}
use borrow.Fn.PlainCycle.{Measures, is, falls, and}
use Rattle.write_items.proofs.Laws.{none, then}
use Rattle.write_items.proofs.Items.{digits-none, digits_last, digits_more}
use Rattle.write_items.proofs.write_digits.Reads as write-digits
use Rattle.write_items.proofs.write_digits.Kinds as write-digits-kinds
use Rattle.write_items.proofs.+write_digits.Lts-write_digits as lts
use Rattle.write_items.proofs.write_byte.Reads as write-byte-reads
use Rattle.write_items.proofs.+write_digits.{statement}
use Rattle.write_items.proofs.+write_digits.Tie.{close}

abbrev μ : Measures 1 write-digits-kinds.ps ℕ
μ κs a = a.1.1.0

abbrev at : ℕ → In 1 write-digits-kinds.ps
at t = and 1 write-digits-kinds.ps (is 1 write-digits-kinds.ps μ t) write-digits.Pre

abbrev below : ℕ → In 1 write-digits-kinds.ps
below t = and 1 write-digits-kinds.ps (falls 1 write-digits-kinds.ps ◌<◌ μ t) write-digits.Pre

abbrev claims : ℕ → lts.Claims
claims t = (write-byte-reads.Asked, write-byte-reads.Learnt, below t, write-digits.Post)

module _ (t : ℕ) where
  returns : lts.Need-returns-then-digits-eq0 (claims t) (at t) write-digits.Post
  returns c = rw (digits-none _ _ c.if-digits-eq0.true) (none _ _)

  returns-2 : lts.Need-returns-then-v-lt10 (claims t) (at t) write-digits.Post
  returns-2 c = let k = c in rw (digits_last _ _ k.if-digits-eq0.false k.if-v-lt10.true) c.write_byte.ensures

  write-digits-requires : lts.Need-write_digits-p-requires (claims t) (at t) write-digits.Post
  write-digits-requires c κs = (omega arith, tt)

  returns-3 : lts.Need-returns (claims t) (at t) write-digits.Post
  returns-3 c =
      let k = c in
      rw (digits_more _ _ k.if-digits-eq0.false k.if-v-lt10.false) (then c.write_digits-p.ensures c.write_byte-2.ensures)

pub +write_digits_spec : {M : Type 1} → statement M
+write_digits_spec = close μ λ t. lts.spec (claims t) (at t) write-digits.Post
    (returns t) (λ c. search rules) (λ c. search rules) (λ c κs. search rules) (λ c. search rules) (returns-2 t) (λ c. search rules)
    (write-digits-requires t) (λ c. search rules) (λ c. search rules) (λ c κs. search rules) (λ c. search rules) (returns-3 t)
