-- Tests: what a Bool that is true, or false, says of its parts.
-- Assumes nothing.
use mathlib.Core.Path.{◌≡◌, refl}
use mathlib.Core.Bool.{Bool, true, false, not, ◌&&◌, ◌||◌, true≢false}
use lib.Dec.{T}

-- ---- both of two tests
pub and_left : (a b : Bool) → T (a && b) → T a
and_left true b t = tt
and_left false b t = absurd t

pub and_right : (a b : Bool) → T (a && b) → T b
and_right true b t = t
and_right false b t = absurd t

pub and_both : (a b : Bool) → T a → T b → T (a && b)
and_both true b s t = t
and_both false b s t = absurd s

-- ---- one of two tests
pub or_right : (a b : Bool) → T b → T (a || b)
or_right true b t = tt
or_right false b t = t

-- ---- neither of two tests
pub or-false-left : (a b : Bool) → (a || b) ≡ false → a ≡ false
or-false-left true b e = e
or-false-left false b e = refl

pub or-false-right : (a b : Bool) → (a || b) ≡ false → b ≡ false
or-false-right true b e = absurd (true≢false e)
or-false-right false b e = e

-- ---- not
pub of-not : (b : Bool) → not b ≡ false → T b
of-not true e = tt
of-not false e = absurd (true≢false e)

pub not-of : (b : Bool) → T b → not b ≡ false
not-of true t = refl
not-of false t = absurd t

pub off : (b : Bool) → (T b → ⊥) → b ≡ false
off true h = absurd (h tt)
off false h = refl

-- a test that says the same is the test
pub same_test : (a b : Bool) → (T a → T b) → (T b → T a) → a ≡ b
same_test true true h k = refl
same_test true false h k = absurd (h tt)
same_test false true h k = absurd (k tt)
same_test false false h k = refl
