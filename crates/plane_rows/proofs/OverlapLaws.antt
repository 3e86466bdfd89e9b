-- The places that count under a shift, and a plane's values along one row.
-- Assumes nothing.
use mathlib.Core.Path.{◌≡◌, refl, sym, ◌∙◌, ap}
use Prim.Native.Nat.{ℕ, suc, ◌+◌, ◌-◌, ◌≤◌, ◌<◌}
use native.Mathlib.Omega.{arith}
use native.Mathlib.Decide.{dec_lt}
use mathlib.Core.Bool.{Bool, true, false, ◌&&◌, true≢false}
use lib.Dec.{T, leb, ltb, leb→le, ltb→lt, le→leb, lt→ltb}
use lib.IntN.{ℤ, pos, negsuc, nat_abs, sub_ℕ, ◌+ℤ◌}
use lib.Signed.{lt_z}
use mir.Facts.{to_z-of_z}
use mir.Syntax.{w32}
use mir.Val.{SFits, of_z, to_z}
use Rattle.numbers.proofs.Tests.{and_left, and_right, and_both, same_test, off}
use Rattle.numbers.proofs.Wraps.{sub_low, sub-high}
use Rattle.plane_rows.specs.declared.overlaps.overlap.Overlap.{Overlap}
use Rattle.spec_picture.specs.Frame.{in_range}
use Rattle.plane_rows.specs.Overlaps.{Overlapping}

-- ---- the test that k is one of the places from lo up to hi
module _ (lo hi k : ℕ) where
  abbrev test : Bool
  test = leb lo k && ltb k hi

  pub among : lo ≤ k → k < hi → T test
  among a b = and_both (leb lo k) (ltb k hi) (le→leb lo k a) (lt→ltb k hi b)

  pub among-from : T test → lo ≤ k
  among-from t = leb→le lo k (and_left (leb lo k) (ltb k hi) t)

  pub among-upto : T test → k < hi
  among-upto t = ltb→lt k hi (and_right (leb lo k) (ltb k hi) t)

  pub not_among : (lo ≤ k → k < hi → ⊥) → T test → ⊥
  not_among never t = never (among-from t) (among-upto t)

  -- where the test fails, k is none of them
  pub none-among : (b : Bool) → b ≡ test → b ≡ false → lo ≤ k → k < hi → ⊥
  none-among b is none u v = rw (← is, none) at among u v

  -- and where it holds, k is one of them
  pub some-among : (b : Bool) → b ≡ test → b ≡ true → (lo ≤ k) × (k < hi)
  some-among b is all =
      let t : T test = rw (← is, all) tt in
      (among-from t, among-upto t)

abbrev pub overlap : (first end first_in_g : ℕ) → first ≤ end → Overlap
overlap first end first_in_g p = record { first = first; end = end; first_in_g = first_in_g; ordered = p }

-- ---- a place k that is shifted by d
on : (n k d : ℕ) → in_range n (pos k +ℤ pos d) ≡ ltb (k + d) n
unfolding in_range
on n k d = refl

back_low : (n k d : ℕ) → k < d → in_range n (sub_ℕ k d) ≡ false
unfolding in_range
back_low n k d h = rw (sub_low k d h)

back-high : (n k d : ℕ) → d ≤ k → in_range n (sub_ℕ k d) ≡ ltb (k - d) n
unfolding in_range
back-high n k d h = rw (sub-high k d h)

-- k - d is one of n places exactly where k is from d on, and below n + d
back : (n k d : ℕ) → in_range n (sub_ℕ k d) ≡ (leb d k && ltb k (n + d))
back n k d = go (dec_lt k d)
  where
    go : Dec (k < d) → in_range n (sub_ℕ k d) ≡ (leb d k && ltb k (n + d))
    go (yes h) = back_low n k d h ∙ sym (off (leb d k && ltb k (n + d)) (λ t. omega (arith, among-from d (n + d) k t)))
    go (no h) =
        back-high n k d (omega arith)
        ∙ same_test (ltb (k - d) n) (leb d k && ltb k (n + d))
        (λ t. among d (n + d) k (omega arith) (omega (arith, ltb→lt (k - d) n t)))
        (λ t. lt→ltb (k - d) n (omega (arith, among-upto d (n + d) k t)))

no_place : (k : ℕ) → (leb 0 k && ltb k 0) ≡ false
no_place k = off (leb 0 k && ltb k 0) (λ t. omega (arith, among-upto 0 0 k t))

-- ---- the three cases of the code: no place counts, g lies before, g lies after
pub overlap-none : (n : ℕ) (d : ℤ) (far : ℕ) → far ≡ nat_abs d → n ≤ far → (p : 0 ≤ 0) → Overlapping n d (overlap 0 0 0 p)
overlap-none n d far e h p = record {
  within = omega arith;
  within_g = omega arith;
  counts = λ k k<. none d (omega (arith, e)) k k< ∙ sym (no_place k);
  place = λ k a b. absurd (omega arith);
}
  where
    none : (d : ℤ) → n ≤ nat_abs d → (k : ℕ) → k < n → in_range n (pos k +ℤ d) ≡ false
    none (pos d) h k k< = on n k d ∙ off (ltb (k + d) n) (λ t. omega (arith, ltb→lt (k + d) n t))
    none (negsuc d) h k k< = back_low n k (suc d) (omega arith)

pub overlap-before : (n : ℕ) (d : ℤ) (far : ℕ) → far ≡ nat_abs d → far < n → lt_z d (pos 0) ≡ true → (p : far ≤ n) → Overlapping n d (overlap far n 0 p)
overlap-before n (pos d) far e h t = absurd (omega (arith, ltb→lt d 0 (rw t tt)))
overlap-before n (negsuc d) far e h t = rw e (λ p. record {
  within = omega arith;
  within_g = omega arith;
  counts = λ k k<. back n k (suc d) ∙ same_test (leb (suc d) k && ltb k (n + suc d)) (leb (suc d) k && ltb k n)
      (λ t. among (suc d) n k (among-from (suc d) (n + suc d) k t) k<)
      (λ t. among (suc d) (n + suc d) k (among-from (suc d) n k t) (omega arith));
  place = λ k a b. ap nat_abs (sub-high k (suc d) a) ∙ omega arith;
})

pub overlap-after : (n : ℕ) (d : ℤ) (far : ℕ) → far ≡ nat_abs d → far < n → lt_z d (pos 0) ≡ false → (p : 0 ≤ n - far) → Overlapping n d (overlap 0 (n - far) far p)
overlap-after n (pos d) far e h t = rw e (λ p. record {
  within = omega arith;
  within_g = omega (arith, e);
  counts = λ k k<. on n k d ∙ same_test (ltb (k + d) n) (leb 0 k && ltb k (n - d))
      (λ t. among 0 (n - d) k (omega arith) (omega (arith, ltb→lt (k + d) n t)))
      (λ t. lt→ltb (k + d) n (omega (arith, among-upto 0 (n - d) k t)));
  place = λ k a b. omega arith;
})
overlap-after n (negsuc d) far e h t = absurd (true≢false t)

-- a call's answer, which speaks of the shift's bits, by the shift itself
pub by_shift : {n : ℕ} {d : ℤ} {o : Overlap} → SFits w32 d → Overlapping n (to_z w32 (of_z w32 d)) o → Overlapping n d o
by_shift f v = simp (to_z-of_z, f) at v
