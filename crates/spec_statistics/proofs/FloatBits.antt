-- The bits of a level and of a spread, as `to_bits` writes them: the sign, the exponent and the digits of m / 32768.
-- Assumes nothing.
use mathlib.Core.Path.{◌≡◌, refl, sym, ap, ap₂, ◌∙◌, subst}
use Prim.Native.Nat.{ℕ, suc, ◌+◌, ◌-◌, ◌*◌, ◌/◌, ◌^◌, ◌≤◌, ◌<◌}
use native.Mathlib.Omega.{arith}
use native.Mathlib.Decide.{dec_lt}
use native.Mathlib.Nat.{add-mul, mul_assoc, mul_right_comm, mul-div_cancel, mul-lt-mul_of_pos_right, mul-le-mul_right}
use mathlib.Core.Bool.{Bool, false, cond}
use lib.IntN.{ℤ, pos, nat_abs}
use lib.Pow.{pow-add, pow_pos, pow_mono}
use lib.Ieee.{Float, nan, inf, fin, binary32, size, up, down, round, of_bits, to_bits}
use lib.Ieee.Bits.{of_bits-to_bits}
use lib.Ieee.Digits.{size-lt, size-le}
use lib.Ieee.Exact.{HasValue}
use lib.Ieee.Fits.{down_pos, round-fits}
use Rattle.spec_statistics.specs.declared.Sums.{Sums}
use Rattle.spec_statistics.specs.SixSums.{count}
use Rattle.spec_statistics.specs.Moments.{mean, deviation}
use Rattle.spec_statistics.specs.Voice.{negative, over32768}
use Rattle.spec_statistics.proofs.Bounds.{Possible}
use Rattle.spec_statistics.proofs.Values.{exact, mean-bound, deviation-bound}

-- the pattern of a float of the sign s and the size a / 32768, where 2^t is the largest power of two that is not above a: the sign's bit, the exponent
-- t - 15 with the bias 127, which is t + 112, and the 23 digits below the leading one
abbrev pub pattern : Bool → (t a : ℕ) → ℕ
pattern s t a = cond s (2 ^ 31) 0 + (t + 112) * 2 ^ 23 + (a - 2 ^ t) * 2 ^ (23 - t)

-- a / 32768, counted in the smallest floats
in-units : (m a : ℕ) (e : ℤ) → m * up e * 32768 ≡ a * down e → m * up e * 2 ^ 149 / down e ≡ a * 2 ^ 134
in-units m a e h =
    ap (λ (n : ℕ). n / down e)
    (ap (λ (n : ℕ). m * up e * n) (pow-add 2 15 134) ∙ sym (mul_assoc (m * up e) (2 ^ 15) (2 ^ 134)) ∙ ap (λ (n : ℕ). n * 2 ^ 134) h ∙ mul_right_comm a (down e) (2 ^ 134))
    ∙ mul-div_cancel (a * 2 ^ 134) (down_pos e)

-- how many digits that has
digits : (t a : ℕ) → 2 ^ t ≤ a → a < 2 ^ suc t → size (a * 2 ^ 134) ≡ t + 135
digits t a l h = go (dec_lt (t + 134) (size n))
  where
    n : ℕ
    n = a * 2 ^ 134

    above : size n ≤ t + 135
    above =
        let e : suc t + 134 ≡ t + 135 = omega arith in
        size-le n (t + 135) (subst (λ (k : ℕ). n < k) (sym (pow-add 2 (suc t) 134) ∙ ap (λ (k : ℕ). 2 ^ k) e) (mul-lt-mul_of_pos_right h (pow_pos 134)))

    go : Dec (t + 134 < size n) → size n ≡ t + 135
    go (yes k) = omega (arith, above)
    go (no k) = absurd (omega (arith, size-lt n, pow_mono {i = size n} {j = t + 134} (omega arith), pow-add 2 t 134, mul-le-mul_right (2 ^ 134) l))

-- the digits, and the leading one with the exponent
written : (t a : ℕ) → t ≤ 23 → 2 ^ t ≤ a → (t + 111) * 2 ^ 23 + a * 2 ^ 134 / 2 ^ (t + 111) ≡ (t + 112) * 2 ^ 23 + (a - 2 ^ t) * 2 ^ (23 - t)
written t a few l =
    let e : 134 ≡ (23 - t) + (t + 111) = omega arith in
    let whole : t + (23 - t) ≡ 23 = omega arith in
    let kept : a * 2 ^ 134 / 2 ^ (t + 111) ≡ a * 2 ^ (23 - t) =
    ap (λ (n : ℕ). n / 2 ^ (t + 111)) (ap (λ (n : ℕ). a * 2 ^ n) e ∙ ap (λ (n : ℕ). a * n) (pow-add 2 (23 - t) (t + 111)) ∙ sym (mul_assoc a (2 ^ (23 - t)) (2 ^ (t + 111)))) ∙ mul-div_cancel (a * 2 ^ (23 - t)) (pow_pos (t + 111)) in
    let parts : a ≡ 2 ^ t + (a - 2 ^ t) = omega arith in
    let leading : 2 ^ t * 2 ^ (23 - t) ≡ 2 ^ 23 = sym (pow-add 2 t (23 - t)) ∙ ap (λ (n : ℕ). 2 ^ n) whole in
    let split : a * 2 ^ (23 - t) ≡ 2 ^ 23 + (a - 2 ^ t) * 2 ^ (23 - t) =
    ap (λ (n : ℕ). n * 2 ^ (23 - t)) parts ∙ add-mul (2 ^ t) (a - 2 ^ t) (2 ^ (23 - t)) ∙ ap (λ (n : ℕ). n + (a - 2 ^ t) * 2 ^ (23 - t)) leading in
    omega (arith, kept, split)

value-bits : (x : Float) (s : Bool) (t a : ℕ) → HasValue x s a 32768 → t ≤ 23 → 2 ^ t ≤ a → a < 2 ^ suc t → to_bits binary32 x ≡ pattern s t a
unfolding to_bits
value-bits nan s t a v few l h = absurd v
value-bits (inf u) s t a v few l h = absurd v
value-bits (fin u m e) s t a v few l h =
    let d : size (a * 2 ^ 134) - 24 ≡ t + 111 = omega (arith, digits t a l h) in
    ap₂ (λ (b : Bool) (n : ℕ). cond b (2 ^ 31) 0 + (size n - 24) * 2 ^ 23 + n / 2 ^ (size n - 24)) v.0 (in-units m a e v.1)
    ∙ ap (λ (k : ℕ). cond s (2 ^ 31) 0 + k * 2 ^ 23 + a * 2 ^ 134 / 2 ^ k) d
    ∙ omega (arith, written t a few l)

few-digits : (t a : ℕ) → 2 ^ t ≤ a → a ≤ 32768 → t ≤ 23
few-digits t a l h = go (dec_lt t 24)
  where
    go : Dec (t < 24) → t ≤ 23
    go (yes k) = omega arith
    go (no k) = absurd (omega (arith, pow_mono {i = 24} {j = t} (omega arith)))

-- the bits of m / 32768, for an m other than 0
pub over-bits : (m : ℤ) (t : ℕ) → nat_abs m ≤ 32768 → 2 ^ t ≤ nat_abs m → nat_abs m < 2 ^ suc t → to_bits binary32 (over32768 m) ≡ pattern (negative m) t (nat_abs m)
over-bits m t h l k = value-bits (over32768 m) (negative m) t (nat_abs m) (exact m h) (few-digits t (nat_abs m) l h) l k

-- "Zero is positive zero": no bit is set
pub zero-bits : to_bits binary32 (over32768 (pos 0)) ≡ 0
unfolding to_bits size over32768 round
zero-bits = refl

-- the bits of the level, and of the spread
pub level-bits : (z : Sums) (t : ℕ) → Possible z → 0 < count z → 2 ^ t ≤ nat_abs (mean z) → nat_abs (mean z) < 2 ^ suc t →
    to_bits binary32 (over32768 (mean z)) ≡ pattern (negative (mean z)) t (nat_abs (mean z))
level-bits z t p h l k = over-bits (mean z) t (mean-bound z p h) l k

pub spread-bits : (z : Sums) (t : ℕ) → Possible z → 0 < count z → 2 ^ t ≤ deviation z → deviation z < 2 ^ suc t →
    to_bits binary32 (over32768 (pos (deviation z))) ≡ pattern false t (deviation z)
spread-bits z t p h l k = over-bits (pos (deviation z)) t (deviation-bound z p h) l k

-- the bits are read back as the same float: nothing is lost
pub bits-read : (m : ℤ) → of_bits binary32 (to_bits binary32 (over32768 m)) ≡ over32768 m
unfolding over32768
bits-read m = of_bits-to_bits binary32 (round binary32 (negative m) (nat_abs m) 32768) (round-fits binary32 (negative m) (nat_abs m) 32768)
