-- A value is written as a float in one way: two floats of a format that have the same value are the same.
-- Assumes nothing.
use mathlib.Core.Path.{◌≡◌, refl, sym, ap, ◌∙◌}
use mathlib.Core.Bool.{Bool, ◌&&◌}
use Prim.Native.Nat.{ℕ, zero, suc, ◌+◌, ◌*◌, ◌%◌, ◌^◌, ◌<◌}
use native.Mathlib.Omega.{arith}
use native.Mathlib.Nat.{mul-pos, pow-suc, zero-lt-suc, eq_of_mul-eq-mul_right}
use lib.Dec.{T, eqb, ltb, leb, eqb→eq}
use lib.IntN.{ℤ, pos, negsuc}
use lib.Pow.{pow-add}
use lib.Ieee.{Float, fin, nan, inf, Format, prec, emax, low, up, down, fits}
use lib.Ieee.Exact.{HasValue}
use lib.Ieee.Fits.{and_l, up_pos, down_pos}

-- ---- an odd number times a power of two
odd-powers : (m n i j : ℕ) → m % 2 ≡ 1 → n % 2 ≡ 1 → m * 2 ^ i ≡ n * 2 ^ j → (m ≡ n) × (i ≡ j)
odd-powers m n zero zero o p h = (omega arith, refl)
odd-powers m n zero (suc j) o p h = absurd (omega (arith, ap (λ (x : ℕ). n * x) (pow-suc 2 j)))
odd-powers m n (suc i) zero o p h = absurd (omega (arith, ap (λ (x : ℕ). m * x) (pow-suc 2 i)))
odd-powers m n (suc i) (suc j) o p h =
    let r = odd-powers m n i j o p (omega (arith, ap (λ (x : ℕ). m * x) (pow-suc 2 i), ap (λ (x : ℕ). n * x) (pow-suc 2 j))) in
    (r.0, ap suc r.1)

-- ---- the digits and the exponent of a float that fits: odd, or 0 with the exponent 0
is_odd : (f : Format) (s : Bool) (m : ℕ) (e : ℤ) → T (fits f (fin s (suc m) e)) → suc m % 2 ≡ 1
unfolding fits
is_odd f s m e t =
    let a = eqb (suc m % 2) 1 in
    let b = ltb (suc m) (2 ^ prec f) in
    let c = leb (down e) (2 ^ low f) in
    eqb→eq (suc m % 2) 1 (and_l a b (and_l (a && b) c (and_l (a && b && c) (ltb (suc m * up e) (2 ^ suc (emax f) * down e)) t)))

zero_exponent : (f : Format) (s : Bool) (e : ℤ) → T (fits f (fin s zero e)) → e ≡ pos 0
unfolding fits
zero_exponent f s e t = go e (eqb→eq (up e * down e) 1 t)
  where
    go : (e : ℤ) → up e * down e ≡ 1 → e ≡ pos 0
    go (pos zero) h = refl
    go (pos (suc k)) h = absurd (omega (arith, pow-suc 2 k))
    go (negsuc k) h = absurd (omega (arith, pow-suc 2 k))

-- ---- two fractions of the same size
exponents : (m n : ℕ) (e g : ℤ) → m % 2 ≡ 1 → n % 2 ≡ 1 → m * up e * down g ≡ n * up g * down e → (m ≡ n) × (e ≡ g)
exponents m n (pos i) (pos j) o p h = let r = odd-powers m n i j o p (omega arith) in (r.0, ap pos r.1)
exponents m n (pos i) (negsuc j) o p h = let r = odd-powers m n (i + suc j) 0 o p (omega (arith, ap (λ (x : ℕ). m * x) (pow-add 2 i (suc j)))) in absurd (omega (arith, r.1))
exponents m n (negsuc i) (pos j) o p h = let r = odd-powers m n 0 (j + suc i) o p (omega (arith, ap (λ (x : ℕ). n * x) (pow-add 2 j (suc i)))) in absurd (omega (arith, r.1))
exponents m n (negsuc i) (negsuc j) o p h = let r = odd-powers m n (suc j) (suc i) o p (omega arith) in (r.0, ap negsuc (omega (arith, r.1)))

crossed : (a c x y u v : ℕ) → 0 < c → x * c ≡ a * u → y * c ≡ a * v → x * v ≡ y * u
crossed a c x y u v h e d =
    eq_of_mul-eq-mul_right c h (x * v) (y * u) (omega (arith, ap (λ (n : ℕ). n * v) e, ap (λ (n : ℕ). n * u) d))

pub value-unique : (f : Format) (x y : Float) (s : Bool) (a c : ℕ) → 0 < c → T (fits f x) → T (fits f y) → HasValue x s a c → HasValue y s a c → x ≡ y
value-unique f (fin t zero e) (fin u zero g) s a c h p q v w = λ i. fin ((v.0 ∙ sym w.0) i) zero ((zero_exponent f t e p ∙ sym (zero_exponent f u g q)) i)
value-unique f (fin t zero e) (fin u (suc n) g) s a c h p q v w = absurd (omega (arith, crossed a c (zero * up e) (suc n * up g) (down e) (down g) h v.1 w.1, mul-pos (mul-pos (zero-lt-suc n) (up_pos g)) (down_pos e)))
value-unique f (fin t (suc m) e) (fin u zero g) s a c h p q v w = absurd (omega (arith, crossed a c (suc m * up e) (zero * up g) (down e) (down g) h v.1 w.1, mul-pos (mul-pos (zero-lt-suc m) (up_pos e)) (down_pos g)))
value-unique f (fin t (suc m) e) (fin u (suc n) g) s a c h p q v w =
    let r = exponents (suc m) (suc n) e g (is_odd f t m e p) (is_odd f u n g q) (crossed a c (suc m * up e) (suc n * up g) (down e) (down g) h v.1 w.1) in
    λ i. fin ((v.0 ∙ sym w.0) i) (r.0 i) (r.1 i)
value-unique f nan y s a c h p q v w = elim v [ ]
value-unique f (inf _) y s a c h p q v w = elim v [ ]
value-unique f (fin t zero e) nan s a c h p q v w = elim w [ ]
value-unique f (fin t zero e) (inf _) s a c h p q v w = elim w [ ]
value-unique f (fin t (suc m) e) nan s a c h p q v w = elim w [ ]
value-unique f (fin t (suc m) e) (inf _) s a c h p q v w = elim w [ ]
