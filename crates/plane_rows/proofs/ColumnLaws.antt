-- The columns that count where they clip and where they wrap: the remainder of a shift, and the two stretches.
-- Assumes nothing.
use mathlib.Core.Path.{◌≡◌, refl, sym, ◌∙◌, ap}
use mathlib.Core.Bool.{Bool, true, false, not, ◌&&◌, ◌||◌, true≢false}
use Prim.Native.Nat.{ℕ, zero, suc, ◌+◌, ◌-◌, ◌*◌, ◌%◌, ◌/◌, ◌≤◌, ◌<◌}
use native.Mathlib.Omega.{arith}
use native.Mathlib.Decide.{dec_lt}
use native.Mathlib.Nat.{div-add-mod'}
use lib.Dec.{T, leb, ltb, ltb→lt}
use lib.Signed.{lt_z}
use lib.IntN.{ℤ, pos, negsuc, nat_abs, sub_ℕ, ◌+ℤ◌}
use Rattle.std.proofs.lemmas.Nat.{mod-mul-add, mod_below}
use Rattle.numbers.proofs.Tests.{off, of-not}
use Rattle.numbers.proofs.Wraps.{sub_low, sub-high}
use Rattle.spec_picture.specs.declared.Frame.{Frame}
use Rattle.spec_picture.specs.Frame.{in_range, remainder, column_of}
use Rattle.plane_rows.specs.declared.overlaps.overlap.Overlap.{Overlap}
use Rattle.plane_rows.specs.declared.columns.Columns.{Columns}
use Rattle.plane_rows.specs.Overlaps.{Overlapping}
use Rattle.plane_rows.specs.Columns.{Wrapping}
use Rattle.plane_rows.proofs.OverlapLaws.{overlap, among, not_among}

-- ---- remainders
pub rest-small : (k n : ℕ) → k < n → k % n ≡ k
rest-small k n h =
    let e : k ≡ 0 * n + k = omega arith in
    ap (λ (m : ℕ). m % n) e ∙ mod-mul-add 0 n k h

-- that of a place which is q rows and r columns on
rest-at : (k n q r : ℕ) → k ≡ q * n + r → r < n → k % n ≡ r
rest-at k n q r e h = ap (λ (m : ℕ). m % n) e ∙ mod-mul-add q n r h

-- k columns on from column r, in the same row and in the next
rest-on : (n m k q r : ℕ) → m ≡ q * n + r → k + r < n → (k + m) % n ≡ r + k
rest-on n m k q r e h = rest-at (k + m) n q (r + k) (omega (arith, e)) (omega arith)

rest-next : (n m k q r : ℕ) → m ≡ q * n + r → k < n → r < n → n ≤ k + r → (k + m) % n ≡ k - (n - r)
rest-next n m k q r e k< r< h =
    let t : suc q * n ≡ q * n + n = omega arith in
    rest-at (k + m) n (suc q) (k - (n - r)) (omega (arith, e, t)) (omega arith)

-- k columns before column r, in the same row and in the one before
rest-back : (n m k q r : ℕ) → m ≡ q * n + r → k ≤ r → r < n → (m - k) % n ≡ r - k
rest-back n m k q r e h r< = rest-at (m - k) n q (r - k) (omega (arith, e)) (omega arith)

rest-before : (n m k q r : ℕ) → m ≡ suc q * n + r → r < k → k < n → (m - k) % n ≡ n + r - k
rest-before n m k q r e h k< =
    let t : suc q * n ≡ q * n + n = omega arith in
    rest-at (m - k) n q (n + r - k) (omega (arith, e, t)) (omega arith)

-- a shift's remainder is a column
pub remainder-below : (n : ℕ) (d : ℤ) → 1 ≤ n → remainder n d < n
unfolding remainder
remainder-below n (pos k) h = mod_below k n h
remainder-below n (negsuc k) h = omega arith

-- the code's two cases
pub remainder-before : (n far : ℕ) (d : ℤ) (k : ℕ) → far ≡ nat_abs d → lt_z d (pos 0) ≡ true → k ≡ (far - 1) % n → n - 1 - k ≡ remainder n d
unfolding remainder
remainder-before n far (pos d) k e t r = absurd (omega (arith, ltb→lt d 0 (rw t tt)))
remainder-before n far (negsuc d) k e t r =
    let s : far - 1 ≡ d = omega (arith, e) in
    let q : k ≡ d % n = r ∙ ap (λ (m : ℕ). m % n) s in
    omega (arith, q)

pub remainder-after : (n far : ℕ) (d : ℤ) (k : ℕ) → far ≡ nat_abs d → lt_z d (pos 0) ≡ false → k ≡ far % n → k ≡ remainder n d
unfolding remainder
remainder-after n far (pos d) k e t r = r ∙ ap (λ (m : ℕ). m % n) e
remainder-after n far (negsuc d) k e t r = absurd (true≢false t)

-- ---- the column of g that belongs to column k: from the shift's remainder on, and from the seam on again from 0
pub up-to-seam : (n : ℕ) (d : ℤ) (k : ℕ) → k < n → k < n - remainder n d → remainder n (pos k +ℤ d) ≡ remainder n d + k
unfolding remainder
up-to-seam n (pos m) k k< h = rest-on n m k (m / n) (m % n) (sym (div-add-mod' m n)) (omega arith)
up-to-seam n (negsuc m) k k< h = go (dec_lt m k)
  where
    r : ℕ
    r = m % n

    r< : r < n
    r< = mod_below m n (omega arith)

    k≤ : k ≤ r
    k≤ = omega arith

    go : Dec (m < k) → remainder n (sub_ℕ k (suc m)) ≡ (n - suc r) + k
    go (yes l) =
        let e : m % n ≡ m = rest-small m n (omega arith) in
        absurd (omega arith)
    go (no l) =
        ap (remainder n) (sub_low k (suc m) (omega arith))
        ∙ ap (λ (x : ℕ). n - suc (x % n)) (omega arith)
        ∙ ap (λ (x : ℕ). n - suc x) (rest-back n m k (m / n) r (sym (div-add-mod' m n)) k≤ r<)
        ∙ omega arith

pub from_seam : (n : ℕ) (d : ℤ) (k : ℕ) → k < n → n - remainder n d ≤ k → remainder n (pos k +ℤ d) ≡ k - (n - remainder n d)
unfolding remainder
from_seam n (pos m) k k< h = rest-next n m k (m / n) (m % n) (sym (div-add-mod' m n)) k< (mod_below m n (omega arith)) (omega (arith, mod_below m n (omega arith)))
from_seam n (negsuc m) k k< h = go (dec_lt m k) (m / n) refl
  where
    r : ℕ
    r = m % n

    r< : r < n
    r< = mod_below m n (omega arith)

    r<k : r < k
    r<k = omega arith

    e : (q : ℕ) → m / n ≡ q → m ≡ q * n + r
    e q p = sym (div-add-mod' m n) ∙ ap (λ (x : ℕ). x * n + r) p

    go : Dec (m < k) → (q : ℕ) → m / n ≡ q → remainder n (sub_ℕ k (suc m)) ≡ k - (n - (n - suc r))
    go (yes l) q p =
        let s : r ≡ m = rest-small m n (omega arith) in
        ap (remainder n) (sub-high k (suc m) (omega arith)) ∙ rest-small (k - suc m) n (omega arith) ∙ omega arith
    go (no l) zero p = absurd (omega (arith, e zero p))
    go (no l) (suc q) p =
        ap (remainder n) (sub_low k (suc m) (omega arith))
        ∙ ap (λ (x : ℕ). n - suc (x % n)) (omega arith)
        ∙ ap (λ (x : ℕ). n - suc x) (rest-before n m k q r (e (suc q) p) r<k k<)
        ∙ omega arith

-- ---- the code's two cases
abbrev columns : Overlap → Overlap → Columns
columns a r = record { along = a; round = r }

clipped-column : (b : Bool) (n : ℕ) (c : ℤ) → b ≡ false → column_of b n c ≡ nat_abs c
clipped-column b n c e = rw e refl

wrapped-column : (b : Bool) (n : ℕ) (c : ℤ) → T b → column_of b n c ≡ remainder n c
wrapped-column true n c t = refl
wrapped-column false n c t = absurd t

or-right : (a b : Bool) → a ≡ false → (a || b) ≡ b
or-right a b e = rw e refl

or_left : (a b : Bool) → T a → T (a || b)
or_left true b t = tt
or_left false b t = absurd t

clips : (b : Bool) → not b ≡ true → b ≡ false
clips true e = absurd (true≢false (sym e))
clips false e = refl

-- where columns clip, those that count are as for rows
pub clip-columns : (z : Frame) (d : ℤ) (o : Overlap) → not z.columns_wrap ≡ true → Overlapping z.columns d o → (p : o.end ≤ o.end) → Wrapping z d (columns o (overlap o.end o.end 0 p))
clip-columns z d o u v p = let w = clips z.columns_wrap u in record {
  along = record {
    within = v.within;
    within_g = v.within_g;
    counts = λ k a b. rw (or-right z.columns_wrap (in_range z.columns (pos k +ℤ d)) w, v.counts k (omega (arith, v.within))) (among o.first o.end k a b);
    place = λ k a b. clipped-column z.columns_wrap z.columns (pos k +ℤ d) w ∙ v.place k a b;
  };
  round = record { within = v.within; within_g = omega arith; counts = λ k a b. absurd (omega arith); place = λ k a b. absurd (omega arith) };
  joined = refl;
  clipped = λ u. refl;
  others = λ k k< never. or-right z.columns_wrap (in_range z.columns (pos k +ℤ d)) w ∙ v.counts k k< ∙ off (leb o.first k && ltb k o.end) (not_among o.first o.end k never);
}

-- where they wrap, all count
pub wrap-columns : (z : Frame) (d : ℤ) (ahead : ℕ) → not z.columns_wrap ≡ false → 1 ≤ z.columns → ahead ≡ remainder z.columns d → (p : 0 ≤ z.columns - ahead) (q : z.columns - ahead ≤ z.columns) →
    Wrapping z d (columns (overlap 0 (z.columns - ahead) ahead p) (overlap (z.columns - ahead) z.columns 0 q))
wrap-columns z d ahead u some e p q = let w = of-not z.columns_wrap u in record {
  along = record {
    within = omega arith;
    within_g = omega (arith, e, remainder-below z.columns d some);
    counts = λ k a b. or_left z.columns_wrap (in_range z.columns (pos k +ℤ d)) w;
    place = λ k a b. wrapped-column z.columns_wrap z.columns (pos k +ℤ d) w ∙ up-to-seam z.columns d k (omega arith) (omega (arith, e)) ∙ omega (arith, e);
  };
  round = record {
    within = omega arith;
    within_g = omega arith;
    counts = λ k a b. or_left z.columns_wrap (in_range z.columns (pos k +ℤ d)) w;
    place = λ k a b. wrapped-column z.columns_wrap z.columns (pos k +ℤ d) w ∙ from_seam z.columns d k b (omega (arith, e)) ∙ omega (arith, e);
  };
  joined = refl;
  clipped = λ t. absurd (rw t at w);
  others = λ k k< never. absurd (never (omega arith) k<);
}
