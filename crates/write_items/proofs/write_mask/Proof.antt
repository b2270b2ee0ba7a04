-- Whoever writes the members that are left has written the mask; the members left fall.
use Prim.Native.Nat.{ℕ}
use mathlib.Core.List.{List}
use borrow.Author.Rules.{rules}
use Rattle.sets.proofs.Members.{Rest, rest-start, rest-later, left, left_less}
use Rattle.item_spec.specs.Write.{members, more_text}
use Rattle.write_items.specs.Written.{Written}
use Rattle.write_items.proofs.Laws.{none, then, length-written}
use Rattle.write_items.proofs.Items.{mask-some, mask-none, more-some, more-none}
use Rattle.write_items.proofs.write_mask.Statement.{statement}
use Rattle.write_items.proofs.write_mask.Tie as tie

abbrev invariant-loop : tie.invariant-loop-rest
invariant-loop t₀ at m p₀ rest₀ t p rest = Rest m rest × ((end : List ℕ) (to : ℕ) → Written t (more_text (members rest)) end p to → Written t₀ (more_text (members rest₀)) end p₀ to)

abbrev decreases-loop : tie.decreases-loop-rest
decreases-loop t₀ at m p₀ rest₀ t p rest = left rest

returns : tie.Need-returns-then-m-eq0 invariant-loop decreases-loop
returns c =
    let b = c in
    rw (b.if-m-eq0.true, mask-none) b.write_byte.ensures

loop-holds : tie.Need-loop-rest-init invariant-loop decreases-loop
loop-holds c =
    let start = c in
    let some = c.if-m-eq0.false in
    (rw c.later-rest.ensures (rest-later _ start.args.m (rest-start start.args.m start.ranges.m.fits) some), λ end to v. v)

loop-less : tie.Need-loop-rest-smaller invariant-loop decreases-loop
loop-less c =
    let t = c in
    rw c.later-rest-in-loop-rest.ensures (left_less _ t.loop-rest.rest t.loop-rest.invariant.0 t.loop-rest-test.true)

loop-again : tie.Need-loop-rest-preserved invariant-loop decreases-loop
loop-again c =
    let n = c in
    let b = c in
    let t = c in
    let l = c.loop-rest in
    let some = c.loop-rest-test.true in
    let w = then b.write_byte-p.ensures (rw n.least-in-loop-rest.ensures at n.write_number-p-in-loop-rest.ensures) in
    rw c.later-rest-in-loop-rest.ensures (rest-later _ l.rest l.invariant.0 some, λ end to v. l.invariant.1 end to (rw (more-some l.rest some l.invariant.0.fits) (then w v)))

returns-2 : tie.Need-returns invariant-loop decreases-loop
returns-2 c =
    let l = c.loop-rest in
    let first = c in
    let n = c in
    let start = c in
    let w = rw n.least.ensures at n.write_number-p.ensures in
    let v = l.invariant.1 l.t l.p (rw (c.loop-rest-test.false, more-none) (none l.t l.p)) in
    rw (mask-some start.args.m n.if-m-eq0.false start.ranges.m.fits) (then w (rw first.later-rest.ensures at v))

pub write_mask_spec : {M : Type 1} → statement M
write_mask_spec =
    tie.close
    (tie.spec
    invariant-loop decreases-loop (λ c κs. search rules) (λ c. search rules) returns (λ c κs. search rules) (λ c. search rules) (λ c κs. search rules)
    (λ c κs. search rules) loop-holds (λ c κs. search rules) (λ c κs. search rules) (λ c. search rules) (λ c κs. search rules) (λ c κs. search rules)
    loop-less loop-again (λ c. length-written (returns-2 c)) returns-2)
