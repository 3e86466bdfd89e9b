-- Refusal 9 taken apart: what six sums have whose bounds hold, and what possible ones have.
-- Assumes nothing.
use mathlib.Core.Path.{◌≡◌, refl, ◌∙◌}
use mathlib.Core.Bool.{Bool, true, false, ◌||◌}
use mathlib.Core.List.{[], ◌∷◌}
use Prim.Native.Nat.{ℕ, suc, ◌*◌, ◌^◌, ◌≤◌}
use native.Mathlib.Omega.{arith}
use lib.IntN.{ℤ, pos, negsuc, nat_abs, ◌*ℤ◌}
use lib.Signed.{◌≤ℤ◌, lt_z, lt_z_yes, lt_z_no, <ℤ_irrefl, <ℤ-≤ℤ_trans}
use Rattle.numbers.proofs.Integers.{leℤ, of_le}
use Rattle.numbers.proofs.Tests.{off, or-false-left, or-false-right}
use Rattle.spec_picture.specs.Refusal.{refused, answered, refusal, ◌when◌}
use Rattle.spec_picture.proofs.Refusals.{stop, pass, no-checks, outcome-none, outcome-some}
use Rattle.spec_statistics.specs.declared.Sums.{Sums}
use Rattle.spec_statistics.specs.SixSums.{Vf, Vg, covariance, unbounded, impossible, unless9, count}

-- the bounds of 9, on the magnitudes
pub record Bounded (z : Sums) : Type 0 where
  pub whole : pos 0 ≤ℤ z.n
  pub few : count z ≤ 65025
  pub first : nat_abs z.s ≤ 32768 * count z
  pub second : nat_abs z.t ≤ 32768 * count z
  pub square_f_whole : pos 0 ≤ℤ z.a
  pub square_f : nat_abs z.a ≤ 2 ^ 30 * count z
  pub square_g_whole : pos 0 ≤ℤ z.b
  pub square_g : nat_abs z.b ≤ 2 ^ 30 * count z
  pub product : nat_abs z.p ≤ 2 ^ 30 * count z

pub record Possible (z : Sums) : Type 0 where
  pub bounded : Bounded z
  pub spread_f : pos 0 ≤ℤ (Vf z)
  pub spread_g : pos 0 ≤ℤ (Vg z)
  pub schwarz : (covariance z *ℤ covariance z) ≤ℤ (Vf z *ℤ Vg z)

-- ---- one test
pub not-below : {a b : ℤ} → b ≤ℤ a → lt_z a b ≡ false
not-below {a} {b} h = off (lt_z a b) (λ t. <ℤ_irrefl (<ℤ-≤ℤ_trans (lt_z_yes t) h))

pub at_least : (a b : ℤ) → lt_z a b ≡ false → b ≤ℤ a
at_least a b e = lt_z_no (rw e tt)

-- a bound of M for each cell, on integers and on magnitudes
size_below : (x n : ℤ) (M : ℕ) → pos 0 ≤ℤ n → nat_abs x ≤ M * nat_abs n → pos (nat_abs x) ≤ℤ (pos M *ℤ n)
size_below x (pos n) M h k = leℤ (pos (nat_abs x)) (pos (M * n)) (omega arith)
size_below x (negsuc n) M h k = absurd h.le

below-size : (x n : ℤ) (M : ℕ) → pos 0 ≤ℤ n → pos (nat_abs x) ≤ℤ (pos M *ℤ n) → nat_abs x ≤ M * nat_abs n
below-size x (pos n) M h k = omega (arith, of_le k)
below-size x (negsuc n) M h k = absurd h.le

pub is-size : (x : ℤ) → pos 0 ≤ℤ x → pos (nat_abs x) ≡ x
is-size (pos x) h = refl
is-size (negsuc x) h = absurd h.le

-- ---- the bounds
pub bounded-has : (z : Sums) → unbounded z ≡ false → Bounded z
bounded-has z e8 =
    let level = pos 32768 *ℤ z.n in
    let square = pos (2 ^ 30) *ℤ z.n in
    let t0 = lt_z (pos 65025) z.n in
    let t1 = lt_z z.n (pos 0) in
    let t2 = lt_z level (pos (nat_abs z.s)) in
    let t3 = lt_z level (pos (nat_abs z.t)) in
    let t4 = lt_z z.a (pos 0) in
    let t5 = lt_z square z.a in
    let t6 = lt_z z.b (pos 0) in
    let t7 = lt_z square z.b in
    let t8 = lt_z square (pos (nat_abs z.p)) in
    let e7 = or-false-left (t0 || t1 || t2 || t3 || t4 || t5 || t6 || t7) t8 e8 in
    let e6 = or-false-left (t0 || t1 || t2 || t3 || t4 || t5 || t6) t7 e7 in
    let e5 = or-false-left (t0 || t1 || t2 || t3 || t4 || t5) t6 e6 in
    let e4 = or-false-left (t0 || t1 || t2 || t3 || t4) t5 e5 in
    let e3 = or-false-left (t0 || t1 || t2 || t3) t4 e4 in
    let e2 = or-false-left (t0 || t1 || t2) t3 e3 in
    let e1 = or-false-left (t0 || t1) t2 e2 in
    let n = at_least z.n (pos 0) (or-false-right t0 t1 e1) in
    let a = at_least z.a (pos 0) (or-false-right (t0 || t1 || t2 || t3) t4 e4) in
    let b = at_least z.b (pos 0) (or-false-right (t0 || t1 || t2 || t3 || t4 || t5) t6 e6) in
    record {
      whole = n;
      few = few z.n n (at_least (pos 65025) z.n (or-false-left t0 t1 e1));
      first = below-size z.s z.n 32768 n (at_least level (pos (nat_abs z.s)) (or-false-right (t0 || t1) t2 e2));
      second = below-size z.t z.n 32768 n (at_least level (pos (nat_abs z.t)) (or-false-right (t0 || t1 || t2) t3 e3));
      square_f_whole = a;
      square_f = below-size z.a z.n (2 ^ 30) n (rw (is-size z.a a) (at_least square z.a (or-false-right (t0 || t1 || t2 || t3 || t4) t5 e5)));
      square_g_whole = b;
      square_g = below-size z.b z.n (2 ^ 30) n (rw (is-size z.b b) (at_least square z.b (or-false-right (t0 || t1 || t2 || t3 || t4 || t5 || t6) t7 e7)));
      product = below-size z.p z.n (2 ^ 30) n (at_least square (pos (nat_abs z.p)) (or-false-right (t0 || t1 || t2 || t3 || t4 || t5 || t6 || t7) t8 e8));
    }
  where
    few : (n : ℤ) → pos 0 ≤ℤ n → n ≤ℤ pos 65025 → nat_abs n ≤ 65025
    few (pos n) h k = omega (arith, of_le k)
    few (negsuc n) h k = absurd h.le

pub bounded_of : (z : Sums) → Bounded z → unbounded z ≡ false
bounded_of z b =
    let n = b.whole in
    rw (
      not-below (few z.n n b.few),
      not-below n,
      not-below (size_below z.s z.n 32768 n b.first),
      not-below (size_below z.t z.n 32768 n b.second),
      not-below b.square_f_whole,
      not-below (rw (is-size z.a b.square_f_whole) at (size_below z.a z.n (2 ^ 30) n b.square_f)),
      not-below b.square_g_whole,
      not-below (rw (is-size z.b b.square_g_whole) at (size_below z.b z.n (2 ^ 30) n b.square_g)),
      not-below (size_below z.p z.n (2 ^ 30) n b.product),
    )
  where
    few : (n : ℤ) → pos 0 ≤ℤ n → nat_abs n ≤ 65025 → n ≤ℤ pos 65025
    few (pos n) h k = leℤ (pos n) (pos 65025) (omega arith)
    few (negsuc n) h k = absurd h.le

-- ---- the whole of 9
pub possible-has : (z : Sums) → impossible z ≡ false → Possible z
unfolding impossible
possible-has z e3 =
    let t0 = unbounded z in
    let t1 = lt_z (Vf z) (pos 0) in
    let t2 = lt_z (Vg z) (pos 0) in
    let t3 = lt_z (Vf z *ℤ Vg z) (covariance z *ℤ covariance z) in
    let e2 = or-false-left (t0 || t1 || t2) t3 e3 in
    let e1 = or-false-left (t0 || t1) t2 e2 in
    record {
      bounded = bounded-has z (or-false-left t0 t1 e1);
      spread_f = at_least (Vf z) (pos 0) (or-false-right t0 t1 e1);
      spread_g = at_least (Vg z) (pos 0) (or-false-right (t0 || t1) t2 e2);
      schwarz = at_least (Vf z *ℤ Vg z) (covariance z *ℤ covariance z) (or-false-right (t0 || t1 || t2) t3 e3);
    }

pub possible-of : (z : Sums) → Possible z → impossible z ≡ false
unfolding impossible
possible-of z p = rw (bounded_of z p.bounded, not-below p.spread_f, not-below p.spread_g, not-below p.schwarz)

pub not-possible : (z : Sums) → (Possible z → ⊥) → impossible z ≡ true
not-possible z f = go (impossible z) refl
  where
    go : (b : Bool) → impossible z ≡ b → b ≡ true
    go true e = refl
    go false e = absurd (f (possible-has z e))

-- ---- C² ≤ Vf-as-Vg, on the magnitudes
pub schwarz-has : (z : Sums) → Possible z → nat_abs (covariance z) * nat_abs (covariance z) ≤ nat_abs (Vf z) * nat_abs (Vg z)
schwarz-has z p = go (covariance z) (Vf z) (Vg z) p.spread_f p.spread_g p.schwarz
  where
    go : (c f g : ℤ) → pos 0 ≤ℤ f → pos 0 ≤ℤ g → (c *ℤ c) ≤ℤ (f *ℤ g) → nat_abs c * nat_abs c ≤ nat_abs f * nat_abs g
    go (pos c) (pos f) (pos g) h k l = omega (arith, of_le l)
    go (negsuc c) (pos f) (pos g) h k l = omega (arith, of_le l)
    go c (negsuc f) g h k l = absurd h.le
    go c (pos f) (negsuc g) h k l = absurd k.le

pub schwarz-of : (c f g : ℤ) → pos 0 ≤ℤ f → pos 0 ≤ℤ g → nat_abs c * nat_abs c ≤ nat_abs f * nat_abs g → (c *ℤ c) ≤ℤ (f *ℤ g)
schwarz-of (pos c) (pos f) (pos g) h k l = leℤ (pos (c * c)) (pos (f * g)) (omega arith)
schwarz-of (negsuc c) (pos f) (pos g) h k l = leℤ (pos (suc c * suc c)) (pos (f * g)) (omega arith)
schwarz-of c (negsuc f) g h k l = absurd h.le
schwarz-of c (pos f) (negsuc g) h k l = absurd k.le

-- ---- a statistic's one check
pub answers : {A : Type 0} (z : Sums) (r : A) → Possible z → unless9 z r ≡ answered r
answers z r p = outcome-none (refusal ((9 when impossible z) ∷ [])) r (pass 9 (impossible z) [] (possible-of z p) ∙ no-checks)

pub refuses : {A : Type 0} (z : Sums) (r : A) → impossible z ≡ true → unless9 z r ≡ refused 9
refuses z r e = outcome-some (refusal ((9 when impossible z) ∷ [])) r 9 (stop 9 (impossible z) [] (rw e tt))
