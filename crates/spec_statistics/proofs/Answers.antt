-- What the statistics answer to possible sums, and what the answer of `central_moments` tells of the sums.
-- Assumes nothing.
use mathlib.Core.Path.{◌≡◌, refl, sym, ap, ◌∙◌}
use mathlib.Core.Bool.{Bool, true, false}
use mathlib.Core.Option.{Option, none, some}
use Prim.Native.Nat.{ℕ}
use native.Mathlib.Omega.{arith}
use borrow.Author.Tests.{eq-eqb, ne_eqb, eqb-true, eqb-false}
use lib.Dec.{eqb}
use Rattle.spec_picture.specs.Refusal.{refused, answered}
use Rattle.spec_statistics.specs.declared.Sums.{Sums}
use Rattle.spec_statistics.specs.declared.CentralMoments.{CentralMoments}
use Rattle.spec_statistics.specs.SixSums.{impossible, unless9, count, no_cell}
use Rattle.spec_statistics.specs.Moments.{unless_empty}
use Rattle.spec_statistics.specs.Central.{central_moments, central_call}
use Rattle.spec_statistics.proofs.Bounds.{Possible, possible-has, answers, refuses}

-- ---- "Mean, variance and deviation answer Empty when N = 0"
pub answers-empty : {A : Type 0} (z : Sums) (r : A) → Possible z → count z ≡ 0 → answered none ≡ unless9 z (unless_empty z r)
unfolding unless_empty
answers-empty {A} z r p e = rw (answers {A = Option A} z (elim (no_cell z) [ true ↦ none | false ↦ some r ]) p, eq-eqb (count z) 0 e)

pub answers-some : {A : Type 0} (z : Sums) (r : A) → Possible z → (count z ≡ 0 → ⊥) → answered (some r) ≡ unless9 z (unless_empty z r)
unfolding unless_empty
answers-some {A} z r p h = rw (answers {A = Option A} z (elim (no_cell z) [ true ↦ none | false ↦ some r ]) p, ne_eqb (count z) 0 h)

-- ---- the three cases of a call
data Case (z : Sums) : Type 0 where
  refusing : impossible z ≡ true → central_call z ≡ refused 9 → Case z
  empty : Possible z → count z ≡ 0 → central_call z ≡ answered none → Case z
  given : Possible z → (count z ≡ 0 → ⊥) → central_call z ≡ answered (some (central_moments z)) → Case z

case-of : (z : Sums) → Case z
unfolding central_call
case-of z = go (impossible z) refl
  where
    filled : Possible z → (b : Bool) → eqb (count z) 0 ≡ b → Case z
    filled p true e = let k = eqb-true (count z) 0 e in empty p k (sym (answers-empty z (central_moments z) p k))
    filled p false e = let k = eqb-false (count z) 0 e in given p k (sym (answers-some z (central_moments z) p k))

    go : (b : Bool) → impossible z ≡ b → Case z
    go true e = refusing e (refuses z (unless_empty z (central_moments z)) e)
    go false e = filled (possible-has z e) (eqb (count z) 0) refl

never : {A : Type 0} → ◌≡◌ {A = ℕ} 0 1 → A
never e = absurd (omega arith)

-- ---- what each answer tells
pub record NoCell (z : Sums) : Type 0 where
  pub possible : Possible z
  pub is : count z ≡ 0

-- the sums are possible, with N not 0, and m is theirs
pub record HasMoments (z : Sums) (m : CentralMoments) : Type 0 where
  pub possible : Possible z
  pub some_cell : count z ≡ 0 → ⊥
  pub is : m ≡ central_moments z

pub empty-has : (z : Sums) → answered none ≡ central_call z → NoCell z
empty-has z e = go (case-of z) e
  where
    go : Case z → answered none ≡ central_call z → NoCell z
    go (refusing i c) e = never (cc)
    go (empty p k c) e = record { possible = p; is = k }
    go (given p k c) e = never (cc)

pub given-has : (z : Sums) (m : CentralMoments) → answered (some m) ≡ central_call z → HasMoments z m
given-has z m e = go (case-of z) e
  where
    go : Case z → answered (some m) ≡ central_call z → HasMoments z m
    go (refusing i c) e = never (cc)
    go (empty p k c) e = never (cc)
    go (given p k c) e = record { possible = p; some_cell = k; is = cc }

-- ---- what a statistic that goes on from it answers
-- Empty, and a value
pub empty-too : {A : Type 0} (z : Sums) (r : A) → answered none ≡ central_call z → answered none ≡ unless9 z (unless_empty z r)
empty-too z r e = let f = empty-has z e in answers-empty z r f.possible f.is

pub given-too : {A : Type 0} (z : Sums) (m : CentralMoments) (v r : A) → answered (some m) ≡ central_call z → v ≡ r → answered (some v) ≡ unless9 z (unless_empty z r)
given-too {A} z m v r e q = let t = given-has z m e in ap (λ (x : A). answered (some x)) q ∙ answers-some z r t.possible t.some_cell
