use mathlib.Core.Path.{refl}
use native.Mathlib.Omega.{arith}
use Rattle.words.proofs.Rows.{below}
use Rattle.words.proofs.place.Goals as goal

pub overflow_mul-result : goal.overflow_mul-result
overflow_mul-result c =
    let r = c.args.rows in
    record { fits = omega (arith, below c.args.k r.count r.width c.requires.k_lt_n, c.requires.laid.rows) }

pub overflow_add-result : goal.overflow_add-result
overflow_add-result c =
    let r = c.args.rows in
    record { fits = omega (arith, below c.args.k r.count r.width c.requires.k_lt_n, c.requires.laid.rows) }

pub overflow_add-result-2 : goal.overflow_add-result-2
overflow_add-result-2 c =
    let r = c.args.rows in
    record { fits = omega (arith, below c.args.k r.count r.width c.requires.k_lt_n, c.requires.laid.rows, c.requires.laid.column) }

pub returns : goal.returns
returns c =
    let r = c.args.rows in
    record { place = refl; small = omega (arith, below c.args.k r.count r.width c.requires.k_lt_n, c.requires.laid.rows, c.requires.laid.column) }
