-- What `central_moments` answers, by what it has tested.
-- Assumes nothing.
use mathlib.Core.Path.{◌≡◌, refl, sym}
use mathlib.Core.Bool.{Bool, true, false}
use mathlib.Core.Option.{none, some}
use Prim.Native.Nat.{ℕ, ◌*◌}
use native.Mathlib.Omega.{arith}
use lib.Dec.{leb}
use borrow.Author.Tests.{leb-true, leb-false}
use lib.IntN.{ℤ, pos, negsuc, nat_abs}
use lib.Signed.{lt_z}
use mir.Syntax.{w64}
use mir.Val.{SFits}
use Rattle.std.specs.Prelude.{Result, Ok, Err, unsigned_abs}
use Rattle.std.specs.Int.{FitsUnsignedBits}
use Rattle.std.specs.Result.{OkIff}
use Rattle.spec_picture.specs.Refusal.{refused, answered}
use Rattle.spec_statistics.specs.declared.Sums.{Sums}
use Rattle.spec_statistics.specs.SixSums.{Vf, Vg, covariance, unbounded, count}
use Rattle.spec_statistics.specs.Moments.{unless_empty}
use Rattle.spec_statistics.specs.Central.{central_moments, central_call}
use Rattle.spec_statistics.specs.Limits.{Factors}
use Rattle.spec_statistics.proofs.Fits.{Fit}
use Rattle.spec_statistics.proofs.Bounds.{Possible, bounded-has, bounded_of, not-below, at_least, not-possible, schwarz-has, schwarz-of, refuses}
use Rattle.spec_statistics.proofs.Answers.{answers-empty, answers-some}

-- ---- the sums and the three forms, as the code holds them
pub record Held (z : Sums) (f g c : ℤ) : Type 0 where
  pub sums : Fit z
  pub vf : SFits w64 f
  pub vg : SFits w64 g
  pub covariance : SFits w64 c

-- ---- a form that is no natural number
pub negative : {E : Type 0} (x : ℤ) (r : Result ℕ E) → SFits w64 x → OkIff r (FitsUnsignedBits 64 x) (unsigned_abs x) → ((v : ℕ) → r ≡ Ok v → ⊥) → lt_z x (pos 0) ≡ true
negative x (Ok v) f o h = absurd (h v refl)
negative (pos n) (Err e) f o h = absurd (o (omega (arith, f.sfits)))
negative (negsuc n) (Err e) f o h = refl

-- ---- the refusals
refused-where : (z : Sums) → (Possible z → ⊥) → central_call z ≡ refused 9
unfolding central_call
refused-where z f = refuses z (unless_empty z (central_moments z)) (not-possible z f)

pub refused-unbounded : (z : Sums) → unbounded z ≡ true → central_call z ≡ refused 9
refused-unbounded z e = refused-where z (λ p. let y : ◌≡◌ {A = ℕ} 0 1 = cc (bounded_of z p.bounded) in omega arith)

pub refused-f : (z : Sums) → lt_z (Vf z) (pos 0) ≡ true → central_call z ≡ refused 9
refused-f z e = refused-where z (λ p. let y : ◌≡◌ {A = ℕ} 0 1 = cc (not-below p.spread_f) in omega arith)

pub refused-g : (z : Sums) → lt_z (Vg z) (pos 0) ≡ true → central_call z ≡ refused 9
refused-g z e = refused-where z (λ p. let y : ◌≡◌ {A = ℕ} 0 1 = cc (not-below p.spread_g) in omega arith)

-- C² ≤ Vf-as-Vg, as the code tests it
abbrev pub within : Sums → Bool
within z = leb (nat_abs (covariance z) * nat_abs (covariance z)) (nat_abs (Vf z) * nat_abs (Vg z))

pub refused-c : (z : Sums) → within z ≡ false → central_call z ≡ refused 9
refused-c z e = refused-where z (λ p. omega (arith, schwarz-has z p, leb-false (nat_abs (covariance z) * nat_abs (covariance z)) (nat_abs (Vf z) * nat_abs (Vg z)) e))

-- ---- no condition of 9 holds
module _ (z : Sums) (b : unbounded z ≡ false) (f : lt_z (Vf z) (pos 0) ≡ false) (g : lt_z (Vg z) (pos 0) ≡ false) (w : within z ≡ true) where
  possible : Possible z
  possible =
      let hf = at_least (Vf z) (pos 0) f in
      let hg = at_least (Vg z) (pos 0) g in
      let l = leb-true (nat_abs (covariance z) * nat_abs (covariance z)) (nat_abs (Vf z) * nat_abs (Vg z)) w in
      record { bounded = bounded-has z b; spread_f = hf; spread_g = hg; schwarz = schwarz-of (covariance z) (Vf z) (Vg z) hf hg l }

  pub empty : count z ≡ 0 → central_call z ≡ answered none
  unfolding central_call
  empty e = sym (answers-empty z (central_moments z) possible e)

  pub given : (count z ≡ 0 → ⊥) → central_call z ≡ answered (some (central_moments z))
  unfolding central_call
  given h = sym (answers-some z (central_moments z) possible h)

-- ---- within the bounds, what the three forms require
module _ (z : Sums) (e : unbounded z ≡ false) where
  pub factors-f : Factors z.n z.s z.s z.a
  factors-f = let b = bounded-has z e in record { count = b.few; first = omega (arith, b.few, b.first); second = omega (arith, b.few, b.first); product = omega (arith, b.few, b.square_f) }

  pub factors-g : Factors z.n z.t z.t z.b
  factors-g = let b = bounded-has z e in record { count = b.few; first = omega (arith, b.few, b.second); second = omega (arith, b.few, b.second); product = omega (arith, b.few, b.square_g) }

  pub factors-c : Factors z.n z.s z.t z.p
  factors-c = let b = bounded-has z e in record { count = b.few; first = omega (arith, b.few, b.first); second = omega (arith, b.few, b.second); product = omega (arith, b.few, b.product) }
