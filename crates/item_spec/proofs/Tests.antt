-- Tests taken apart, and a proof by cases of a test.
-- Assumes nothing.
use mathlib.Core.Bool.{Bool, true, false, ◌&&◌, ◌||◌, true≢false}
use mathlib.Core.Path.{◌≡◌, refl, sym}

pub by-test : {W : Type 0} (b : Bool) → (b ≡ true → W) → (b ≡ false → W) → W
by-test true f g = f refl
by-test false f g = g refl

pub and_left : (a b : Bool) → a && b ≡ true → a ≡ true
and_left true b e = refl
and_left false b e = e

pub and_right : (a b : Bool) → a && b ≡ true → b ≡ true
and_right true b e = e
and_right false b e = absurd (true≢false (sym e))

pub or-not : (a b : Bool) → a || b ≡ true → a ≡ false → b ≡ true
or-not true b e h = absurd (true≢false h)
or-not false b e h = e
