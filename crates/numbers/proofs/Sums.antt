-- The laws of a sum over the first n naturals.
-- Assumes nothing.
use mathlib.Core.Path.{◌≡◌, refl, sym, ◌∙◌, ap, ap₂}
use Prim.Native.Nat.{ℕ, zero, suc, ◌+◌, ◌-◌, ◌*◌, ◌≤◌, ◌<◌, min}
use native.Mathlib.Omega.{arith}
use native.Mathlib.Decide.{dec_lt}
use mathlib.Core.Bool.{Bool, true, false, not}
use lib.Dec.{T, ltb, leb, lt→ltb, le→leb, leb→le, ltb→lt, nltb→le}
use lib.IntN.{ℤ, pos, ◌+ℤ◌, ◌-ℤ◌, nat_abs, +ℤ_idr, +ℤ_assoc, +ℤ_invr}
use native.Mathlib.Nat.{add-zero, add-suc, min-zero}
use Rattle.numbers.specs.Sum.{sum_to, pick, dist}
use Rattle.numbers.proofs.Linear.{any, sums, ring}
use Rattle.numbers.proofs.Magnitudes.{size-add}

pub sum-suc : (n : ℕ) (f : ℕ → ℤ) → sum_to (suc n) f ≡ sum_to n f +ℤ f n
unfolding sum_to
sum-suc n f = refl

pub sum-cong : (n : ℕ) (f g : ℕ → ℤ) → ((k : ℕ) → k < n → f k ≡ g k) → sum_to n f ≡ sum_to n g
unfolding sum_to
sum-cong zero f g h = refl
sum-cong (suc n) f g h = ap₂ ◌+ℤ◌ (sum-cong n f g (λ k l. h k (omega arith))) (h n (omega arith))

pub sum-zero : (n : ℕ) → sum_to n (λ k. pos 0) ≡ pos 0
unfolding sum_to
sum-zero zero = refl
sum-zero (suc n) = rw (sum-zero n)

pub sum-none : (n : ℕ) (f : ℕ → ℤ) → ((k : ℕ) → k < n → f k ≡ pos 0) → sum_to n f ≡ pos 0
sum-none n f h = sum-cong n f (λ k. pos 0) h ∙ sum-zero n

add4 : (a b c d : ℤ) → (a +ℤ b) +ℤ (c +ℤ d) ≡ (a +ℤ c) +ℤ (b +ℤ d)
add4 a b c d = ring (search (sums, any a, any b, any c, any d)) (omega arith)

sub4 : (a b c d : ℤ) → (a -ℤ b) +ℤ (c -ℤ d) ≡ (a +ℤ c) -ℤ (b +ℤ d)
sub4 a b c d = ring (search (sums, any a, any b, any c, any d)) (omega arith)

pub sum-add : (n : ℕ) (f g : ℕ → ℤ) → sum_to n (λ k. f k +ℤ g k) ≡ sum_to n f +ℤ sum_to n g
unfolding sum_to
sum-add zero f g = refl
sum-add (suc n) f g = rw (sum-add n f g) (add4 (sum_to n f) (sum_to n g) (f n) (g n))

pub sum-sub : (n : ℕ) (f g : ℕ → ℤ) → sum_to n (λ k. f k -ℤ g k) ≡ sum_to n f -ℤ sum_to n g
unfolding sum_to
sum-sub zero f g = refl
sum-sub (suc n) f g = rw (sum-sub n f g) (sub4 (sum_to n f) (sum_to n g) (f n) (g n))

pub sum-swap : (m n : ℕ) (f : ℕ → ℕ → ℤ) → sum_to m (λ i. sum_to n (λ j. f i j)) ≡ sum_to n (λ j. sum_to m (λ i. f i j))
unfolding sum_to
sum-swap zero n f = sym (sum-zero n)
sum-swap (suc m) n f = rw (sum-swap m n f) (sym (sum-add n (λ j. sum_to m (λ i. f i j)) (f m)))

pub pick_yes : (b : Bool) (x : ℤ) → T b → pick b x ≡ x
unfolding pick
pick_yes true x t = refl
pick_yes false x t = absurd t

pub pick_no : (b : Bool) (x : ℤ) → (T b → ⊥) → pick b x ≡ pos 0
unfolding pick
pick_no true x t = absurd (t tt)
pick_no false x t = refl

pub sum-split : (m n : ℕ) (f : ℕ → ℤ) → sum_to (m + n) f ≡ sum_to m f +ℤ sum_to n (λ k. f (m + k))
unfolding sum_to
sum-split m zero f = rw (add-zero, +ℤ_idr)
sum-split m (suc n) f = rw (add-suc, sum-split m n f) (+ℤ_assoc (sum_to m f) (sum_to n (λ k. f (m + k))) (f (m + n)))

pub pick-in : (m n : ℕ) (x : ℤ) → m < n → pick (ltb m n) x ≡ x
pick-in m n x h = pick_yes (ltb m n) x (lt→ltb m n h)

pub pick_out : (m n : ℕ) (x : ℤ) → n ≤ m → pick (ltb m n) x ≡ pos 0
pick_out m n x h = pick_no (ltb m n) x (λ t. omega (arith, ltb→lt m n t))

-- the first n values, of which those before p count: the first p, or all
pub sum-prefix : (n p : ℕ) (f : ℕ → ℤ) → sum_to n (λ k. pick (ltb k p) (f k)) ≡ sum_to (min p n) f
unfolding sum_to
sum-prefix zero p f = rw min-zero
sum-prefix (suc n) p f = go (sum-prefix n p f) (dec_lt n p)
  where
    go : sum_to n (λ k. pick (ltb k p) (f k)) ≡ sum_to (min p n) f → Dec (n < p) → sum_to n (λ k. pick (ltb k p) (f k)) +ℤ pick (ltb n p) (f n) ≡ sum_to (min p (suc n)) f
    go ih (yes h) =
        let e : min p n ≡ n = omega arith in
        let e' : min p (suc n) ≡ suc n = omega arith in
        rw (ih, pick-in n p (f n) h, e, e')
    go ih (no h) =
        let e : min p (suc n) ≡ min p n = omega arith in
        rw (ih, pick_out n p (f n) (omega arith), e, +ℤ_idr)

-- a test that is one test and not another, narrower, one
pub pick-diff : (a b c : Bool) (x : ℤ) → (T a → T b) → (T a → T c → ⊥) → (T b → T (not c) → T a) → (T c → T b) → pick a x ≡ pick b x -ℤ pick c x
unfolding pick
pick-diff true true true x h1 h2 h3 h4 = absurd (h2 tt tt)
pick-diff true true false x h1 h2 h3 h4 = sym (+ℤ_idr x)
pick-diff true false c x h1 h2 h3 h4 = absurd (h1 tt)
pick-diff false true true x h1 h2 h3 h4 = sym (+ℤ_invr x)
pick-diff false true false x h1 h2 h3 h4 = absurd (h3 tt tt)
pick-diff false false true x h1 h2 h3 h4 = absurd (h4 tt)
pick-diff false false false x h1 h2 h3 h4 = refl

-- a value at most r from j is one before j + r + 1 and not before j - r
near : (j k r : ℕ) (x : ℤ) → pick (leb (dist j k) r) x ≡ pick (ltb k (suc (j + r))) x -ℤ pick (ltb k (j - r)) x
near j k r x = pick-diff (leb (dist j k) r) (ltb k (suc (j + r))) (ltb k (j - r)) x
    (λ t. omega (arith, leb→le, lt→ltb))
    (λ t u. omega (arith, leb→le, ltb→lt))
    (λ t u. omega (arith, ltb→lt, nltb→le, le→leb))
    (λ t. omega (arith, ltb→lt, lt→ltb))

pub sum_near : (n j r : ℕ) (f : ℕ → ℤ) → sum_to n (λ k. pick (leb (dist j k) r) (f k)) ≡ sum_to (min (suc (j + r)) n) f -ℤ sum_to (min (j - r) n) f
sum_near n j r f = simp (near j, sum-sub, sum-prefix)

-- one more of the first p of n values
pub sum_more : (n p : ℕ) (f : ℕ → ℤ) → sum_to (min (suc p) n) f ≡ sum_to (min p n) f +ℤ pick (ltb p n) (f p)
unfolding sum_to
sum_more n p f = go (dec_lt p n)
  where
    go : Dec (p < n) → sum_to (min (suc p) n) f ≡ sum_to (min p n) f +ℤ pick (ltb p n) (f p)
    go (yes h) =
        let e : min (suc p) n ≡ suc p = omega arith in
        let e' : min p n ≡ p = omega arith in
        rw (e, e', pick-in p n (f p) h)
    go (no h) =
        let e : min (suc p) n ≡ min p n = omega arith in
        rw (e, pick_out p n (f p) (omega arith), +ℤ_idr)

-- the same before a distance below i: where i is less than r, none leaves
pub sum_less : (n i r : ℕ) (f : ℕ → ℤ) → sum_to (min (suc i - r) n) f ≡ sum_to (min (i - r) n) f +ℤ pick (leb r i) (pick (ltb (i - r) n) (f (i - r)))
sum_less n i r f = go (dec_lt i r)
  where
    go : Dec (i < r) → sum_to (min (suc i - r) n) f ≡ sum_to (min (i - r) n) f +ℤ pick (leb r i) (pick (ltb (i - r) n) (f (i - r)))
    go (yes h) =
        let e : suc i - r ≡ i - r = omega arith in
        rw (e, pick_no (leb r i) (pick (ltb (i - r) n) (f (i - r))) (λ t. omega (arith, leb→le)), +ℤ_idr)
    go (no h) =
        let e : suc i - r ≡ suc (i - r) = omega arith in
        rw (e, pick_yes (leb r i) (pick (ltb (i - r) n) (f (i - r))) (omega (arith, le→leb))) (sum_more n (i - r) f)

step4 : (a b c d : ℤ) → (a +ℤ b) -ℤ (c +ℤ d) ≡ (a -ℤ c) +ℤ (b -ℤ d)
step4 a b c d = ring (search (sums, any a, any b, any c, any d)) (omega arith)

-- the centre moves by one: one value enters, and one leaves
pub near_step : (n i r : ℕ) (f : ℕ → ℤ) →
    sum_to n (λ k. pick (leb (dist (suc i) k) r) (f k)) ≡ sum_to n (λ k. pick (leb (dist i k) r) (f k)) +ℤ (pick (ltb (suc i + r) n) (f (suc i + r)) -ℤ pick (leb r i) (pick (ltb (i - r) n) (f (i - r))))
near_step n i r f =
    let e : suc (i + r) ≡ suc i + r = omega arith in
    rw (sum_near n (suc i) r f, sum_near n i r f, sum_more n (suc i + r) f, sum_less n i r f, e)
    (step4 (sum_to (min (suc i + r) n) f) (pick (ltb (suc i + r) n) (f (suc i + r))) (sum_to (min (i - r) n) f) (pick (leb r i) (pick (ltb (i - r) n) (f (i - r)))))

-- what enters less what leaves where the centre moves to i, among n values
abbrev pub near-change : (n r : ℕ) (f : ℕ → ℤ) → ℕ → ℤ
near-change n r f i = pick (ltb (i + r) n) (f (i + r)) -ℤ pick (leb (suc r) i) (pick (ltb (i - suc r) n) (f (i - suc r)))

ends-moved : (n r m : ℕ) (f : ℕ → ℤ) → sum_to (min (m + r) n) f -ℤ sum_to (min (m - suc r) n) f ≡ sum_to (min r n) f +ℤ sum_to m (near-change n r f)
unfolding sum_to
ends-moved n r zero f =
    let e : min (0 + r) n ≡ min r n = omega arith in
    let e' : min (0 - suc r) n ≡ 0 = omega arith in
    rw (e, e')
ends-moved n r (suc m) f =
    let e : min (suc m + r) n ≡ min (suc (m + r)) n = omega arith in
    rw (e, sum_more n (m + r) f, sum_less n m (suc r) f)
    (step4 (sum_to (min (m + r) n) f) (pick (ltb (m + r) n) (f (m + r))) (sum_to (min (m - suc r) n) f) (pick (leb (suc r) m) (pick (ltb (m - suc r) n) (f (m - suc r))))
    ∙ ap (λ (z : ℤ). z +ℤ near-change n r f m) (ends-moved n r m f)
    ∙ +ℤ_assoc (sum_to (min r n) f) (sum_to m (near-change n r f)) (near-change n r f m))

-- the values at most r from j: the first r, and what entered less what left as the centre moved from 0 to j
pub near-moved : (n j r : ℕ) (f : ℕ → ℤ) → sum_to n (λ k. pick (leb (dist j k) r) (f k)) ≡ sum_to (min r n) f +ℤ sum_to (j + 1) (near-change n r f)
near-moved n j r f =
    let e : min (suc (j + r)) n ≡ min (j + 1 + r) n = omega arith in
    let e' : min (j - r) n ≡ min (j + 1 - suc r) n = omega arith in
    rw (sum_near n j r f, e, e') (ends-moved n r (j + 1) f)

-- a sum of n values none of which is larger than M
pub sum_bound : (n M : ℕ) (f : ℕ → ℤ) → ((k : ℕ) → k < n → nat_abs (f k) ≤ M) → nat_abs (sum_to n f) ≤ n * M
unfolding sum_to
sum_bound zero M f h = omega arith
sum_bound (suc n) M f h = omega (arith, sum_bound n M f (λ k l. h k (omega arith)), h n (omega arith), size-add (sum_to n f) (f n))

pub pick-bound : (b : Bool) (x : ℤ) → nat_abs (pick b x) ≤ nat_abs x
unfolding pick
pick-bound true x = omega arith
pick-bound false x = omega arith

-- the values from lo up to hi, as their own sum
pub sum-range : (lo hi : ℕ) (f : ℕ → ℤ) → lo ≤ hi → sum_to hi f -ℤ sum_to lo f ≡ sum_to (hi - lo) (λ k. f (lo + k))
sum-range lo hi f h =
    let e : hi ≡ lo + (hi - lo) = omega arith in
    let w : sum_to hi f ≡ sum_to lo f +ℤ sum_to (hi - lo) (λ k. f (lo + k)) = ap (λ (n : ℕ). sum_to n f) e ∙ sum-split lo (hi - lo) f in
    rw w (ring (search (sums, any (sum_to lo f), any (sum_to (hi - lo) (λ k. f (lo + k))))) (omega arith))

-- at most 2 r + 1 values lie at most r from j
pub near-bound : (n j r M : ℕ) (f : ℕ → ℤ) → ((k : ℕ) → nat_abs (f k) ≤ M) → nat_abs (sum_to n (λ k. pick (leb (dist j k) r) (f k))) ≤ (2 * r + 1) * M
near-bound n j r M f h =
    let lo = min (j - r) n in
    let hi = min (suc (j + r)) n in
    let e : hi - lo ≤ 2 * r + 1 = omega arith in
    rw (sum_near n j r f, sum-range lo hi f (omega arith))
    (omega (arith, sum_bound (hi - lo) M (λ k. f (lo + k)) (λ k l. h (lo + k)), native.Mathlib.Nat.mul-le-mul_right M e))

-- the values at most r from j, as a loop goes over them: from j - r to j + r, clipped
pub near-range : (n j r : ℕ) (f : ℕ → ℤ) → sum_to n (λ k. pick (leb (dist j k) r) (f k)) ≡ sum_to (min (suc (j + r)) n - min (j - r) n) (λ k. f (min (j - r) n + k))
near-range n j r f = sum_near n j r f ∙ sum-range (min (j - r) n) (min (suc (j + r)) n) f (omega arith)
