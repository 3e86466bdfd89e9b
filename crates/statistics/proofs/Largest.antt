-- "the sign of C times the largest whole c": what the code compares, and what it multiplies.
-- Assumes nothing.
use mathlib.Core.Logic.{◌⊎◌, inl, inr}
use mathlib.Core.Option.{none, some}
use mathlib.Core.Path.{◌≡◌, sym, ap, ◌∙◌}
use Prim.Native.Nat.{ℕ, zero, suc, ◌*◌, ◌≤◌, ◌<◌, min}
use native.Mathlib.Omega.{arith}
use native.Mathlib.Nat.{mul-pos, mul-le-mul_left}
use borrow.Author.Tests.{eq-eqb, ne_eqb}
use lib.IntN.{ℤ, pos, negsuc, nat_abs, ◌*ℤ◌}
use mir.Syntax.{w64}
use mir.Val.{SFits, to_z, of_z}
use mir.Facts.{to_z-of_z}
use Rattle.std.specs.Int.{int_signum}
use Rattle.numbers.specs.Round.{root_over}
use Rattle.numbers.proofs.Laws.{neg-one-mulℤ}
use Rattle.numbers.proofs.Magnitudes.{fits64}
use Rattle.numbers.proofs.Rounds.{root-over-law}
use Rattle.spec_picture.specs.Refusal.{answered}
use Rattle.spec_statistics.specs.declared.Sums.{Sums}
use Rattle.spec_statistics.specs.declared.CentralMoments.{CentralMoments}
use Rattle.spec_statistics.specs.SixSums.{Vf, Vg, covariance, count}
use Rattle.spec_statistics.specs.Central.{central_call}
use Rattle.spec_statistics.specs.Coefficient.{empty, flat, value, signed, magnitude, coefficient, coefficient_call}
use Rattle.spec_statistics.specs.Limits.{Correlated}
use Rattle.spec_statistics.proofs.Bounds.{answers, schwarz-has}
use Rattle.spec_statistics.proofs.Values.{magnitude-bound, size-signed}
use Rattle.spec_statistics.proofs.Inner.{moments-given, vf-is, vg-is, c-is}
use Rattle.spec_statistics.proofs.Answers.{empty-has}

-- where C is 0, so is c
no-root : (r x : ℕ) → 0 < x → r * r * x ≤ 0 → r ≡ 0
no-root zero x h k = omega arith
no-root (suc r) x h k = let l : 0 < suc r * suc r * x = mul-pos (mul-pos (omega arith) (omega arith)) h in absurd (omega arith)

root-of-0 : (y x : ℕ) → 0 < x → y ≡ 0 → root_over y x ≡ 0
root-of-0 y x h e = no-root (root_over y x) x h (let l = root-over-law y x h in omega (arith, l.reached))

sign-times : (c : ℤ) (n : ℕ) → (nat_abs c ≡ 0 → n ≡ 0) → int_signum c *ℤ pos n ≡ signed c n
unfolding signed
sign-times (pos zero) n h = ap pos (omega (arith, h (omega arith)))
sign-times (pos (suc c)) n h = let e : min (suc c) 1 ≡ 1 = omega arith in rw e (ap pos (omega arith))
sign-times (negsuc c) n h = neg-one-mulℤ (pos n)

pub empty-answer : (z : Sums) → answered none ≡ central_call z → answered empty ≡ coefficient_call z
unfolding coefficient_call coefficient
empty-answer z e =
    let t = empty-has z e in
    rw (answers z (coefficient z) t.possible, eq-eqb (count z) 0 t.is, coefficient)

module _ (z : Sums) (m : CentralMoments) (e : answered (some m) ≡ central_call z) where
  pub flat-answer : (m.vf ≡ 0) ⊎ ((m.vf ≡ 0 → ⊥) × (m.vg ≡ 0)) → answered flat ≡ coefficient_call z
  unfolding coefficient_call coefficient
  flat-answer (inl f) =
      let t = moments-given z m e in
      rw (answers z (coefficient z) t.possible, ne_eqb (count z) 0 t.some_cell, eq-eqb (nat_abs (Vf z)) 0 (sym (vf-is z m e) ∙ f), coefficient)
  flat-answer (inr g) =
      let t = moments-given z m e in
      rw (answers z (coefficient z) t.possible, ne_eqb (count z) 0 t.some_cell, ne_eqb (nat_abs (Vf z)) 0 (λ k. g.0 (vf-is z m e ∙ k)), eq-eqb (nat_abs (Vg z)) 0 (sym (vg-is z m e) ∙ g.1), coefficient)

  -- x is Vf-as-Vg, and y is 1,000,000 C²
  module _ (f : m.vf ≡ 0 → ⊥) (g : m.vg ≡ 0 → ⊥) (x : ℕ) (x-is : x ≡ m.vf * m.vg) (size square y : ℕ) (fits : SFits w64 m.c) (size-is : size ≡ nat_abs (to_z w64 (of_z w64 m.c))) (square-is : square ≡ size * size) (y-is : y ≡ 1000000 * square) where
    some-f : nat_abs (Vf z) ≡ 0 → ⊥
    some-f k = f (vf-is z m e ∙ k)

    some-g : nat_abs (Vg z) ≡ 0 → ⊥
    some-g k = g (vg-is z m e ∙ k)

    some-x : 0 < nat_abs (Vf z) * nat_abs (Vg z)
    some-x = let a = some-f in let b = some-g in mul-pos (omega arith) (omega arith)

    x-whole : x ≡ nat_abs (Vf z) * nat_abs (Vg z)
    x-whole = rw (x-is, vf-is z m e, vg-is z m e)

    y-whole : y ≡ 1000000 * (nat_abs (covariance z) * nat_abs (covariance z))
    y-whole = let k : size ≡ nat_abs (covariance z) = simp (to_z-of_z, fits) at size-is ∙ ap nat_abs (c-is z m e) in rw (y-is, square-is, k)

    pub correlated : Correlated x y
    correlated = rw (y-whole, x-whole) (record { some = some-x; small = mul-le-mul_left 1000000 (schwarz-has z (moments-given z m e).possible) })

    module _ (c : ℕ) (c-root : c ≡ root_over y x) (n : ℤ) (n-is : n ≡ pos c) (sign : ℤ) (sign-fits : SFits w64 sign) (sign-is : sign ≡ int_signum (to_z w64 (of_z w64 m.c))) where
      largest : c ≡ magnitude z
      unfolding magnitude
      largest = rw (c-root, y-whole, x-whole)

      small : c ≤ 1000
      small = omega (arith, largest, magnitude-bound z (moments-given z m e).possible some-x)

      n-fits : SFits w64 n
      n-fits = rw n-is (record { sfits = omega (arith, small) })

      none-of-0 : nat_abs (covariance z) ≡ 0 → magnitude z ≡ 0
      unfolding magnitude
      none-of-0 h = root-of-0 _ _ some-x (rw h)

      times : sign *ℤ n ≡ signed (covariance z) (magnitude z)
      times =
          let s : sign ≡ int_signum (covariance z) = simp (to_z-of_z, fits) at sign-is ∙ ap int_signum (c-is z m e) in
          rw (s, n-is, largest) (sign-times (covariance z) (magnitude z) none-of-0)

      times-fits : SFits w64 (sign *ℤ n)
      times-fits = rw times (fits64 (signed (covariance z) (magnitude z)) (omega (arith, size-signed (covariance z) (magnitude z), largest, small)))

      pub product-fits : SFits w64 (to_z w64 (of_z w64 sign) *ℤ to_z w64 (of_z w64 n))
      product-fits = simp (to_z-of_z, sign-fits, n-fits) times-fits

      pub value-answer : answered (value (to_z w64 (of_z w64 (to_z w64 (of_z w64 sign) *ℤ to_z w64 (of_z w64 n))))) ≡ coefficient_call z
      unfolding coefficient_call coefficient
      value-answer =
          let t = moments-given z m e in
          simp (to_z-of_z, sign-fits, n-fits, times-fits)
          (rw (answers z (coefficient z) t.possible, ne_eqb (count z) 0 t.some_cell, ne_eqb (nat_abs (Vf z)) 0 some-f, ne_eqb (nat_abs (Vg z)) 0 some-g, coefficient, times))
