-- What enters and what leaves the neighbours of a column as it moves on, where columns wrap.
-- Assumes nothing.
use mathlib.Core.Path.{◌≡◌, sym, ◌∙◌, ap, ap₂}
use mathlib.Core.Bool.{true}
use Prim.Native.Nat.{ℕ, zero, suc, ◌+◌, ◌-◌, ◌*◌, ◌≤◌, ◌<◌, min}
use native.Mathlib.Omega.{arith}
use lib.Dec.{ltb, leb, leb→le, le→leb}
use lib.IntN.{ℤ, pos, ◌+ℤ◌, ◌-ℤ◌}
use Rattle.numbers.specs.Sum.{sum_to, pick}
use Rattle.numbers.proofs.Linear.{any, sums, ring}
use Rattle.numbers.proofs.Sums.{sum-add, sum_near, near-change, near-moved, pick_yes, pick_no, pick-in, pick_out}
use Rattle.spec_picture.specs.Frame.{gap_of}
use Rattle.spec_picture.specs.Sides.{round_end}
use Rattle.spec_picture.proofs.Gaps.{sum-round, end-more, begin-more}

none-yet : (s d : ℤ) → pos 0 +ℤ (s -ℤ d) ≡ (s -ℤ d) +ℤ pos 0
none-yet s d = ring (search (sums, any s, any d)) (omega arith)

one-more : (a u s d v : ℤ) → (a +ℤ u) +ℤ (s -ℤ (d +ℤ v)) ≡ (a +ℤ (s -ℤ d)) +ℤ (u -ℤ v)
one-more a u s d v = ring (search (sums, any a, any u, any s, any d, any v) depth 12) (omega arith)

regroup : (a b c d : ℤ) → (a +ℤ b) +ℤ (c +ℤ d) ≡ (a +ℤ c) +ℤ (b +ℤ d)
regroup a b c d = ring (search (sums, any a, any b, any c, any d) depth 12) (omega arith)

last-added : (a b c : ℤ) → (a +ℤ b) +ℤ c ≡ a +ℤ (b +ℤ c)
last-added a b c = ring (search (sums, any a, any b, any c)) (omega arith)

first-columns : (x v : ℤ) → x -ℤ v ≡ (x -ℤ pos 0) +ℤ (pos 0 -ℤ v)
first-columns x v = ring (search (sums, any x, any v)) (omega arith)

middle-columns : (x y : ℤ) → x -ℤ y ≡ (x -ℤ y) +ℤ (pos 0 -ℤ pos 0)
middle-columns x y = ring (search (sums, any x, any y)) (omega arith)

last-columns : (u y : ℤ) → u -ℤ y ≡ (pos 0 -ℤ y) +ℤ (u -ℤ pos 0)
last-columns u y = ring (search (sums, any u, any y)) (omega arith)

module _ (n r : ℕ) (f : ℕ → ℤ) where
  -- what enters less what leaves past the ends of the row, where the centre moves to i
  abbrev end-change : ℕ → ℤ
  end-change i = pick (leb n (i + r)) (f (i + r - n)) -ℤ pick (ltb i (suc r)) (f (n - (suc r - i)))

  -- with what enters and leaves along the row
  abbrev pub round-change : ℕ → ℤ
  round-change i = near-change n r f i +ℤ end-change i

  -- the neighbours of the column before the first, past the row's end and along it
  abbrev pub before-first : ℤ
  before-first = sum_to (min r n) f +ℤ (sum_to n f -ℤ sum_to (n - suc r) f)

  ends-moved : (m : ℕ) → suc r ≤ n → sum_to (m + r - n) f +ℤ (sum_to n f -ℤ sum_to (n - (suc r - m)) f) ≡ (sum_to n f -ℤ sum_to (n - suc r) f) +ℤ sum_to m end-change
  unfolding sum_to
  ends-moved zero h =
      let e : 0 + r - n ≡ 0 = omega arith in
      let e' : suc r - 0 ≡ suc r = omega arith in
      rw (e, e') (none-yet (sum_to n f) (sum_to (n - suc r) f))
  ends-moved (suc m) h =
      let e : suc m + r - n ≡ suc (m + r) - n = omega arith in
      let e' : suc r - suc m ≡ r - m = omega arith in
      rw (e, e', end-more n (m + r) f, begin-more n m r f h)
      (one-more (sum_to (m + r - n) f) (pick (leb n (m + r)) (f (m + r - n))) (sum_to n f) (sum_to (n - (suc r - m)) f) (pick (ltb m (suc r)) (f (n - (suc r - m))))
      ∙ ap (λ (x : ℤ). x +ℤ end-change m) (ends-moved m h)
      ∙ last-added (sum_to n f -ℤ sum_to (n - suc r) f) (sum_to m end-change) (end-change m))

  -- the values at most r from j, round the circle: those of the column before the first, and what entered less what left as the centre moved from 0 to j
  pub round-moved : (j : ℕ) → j < n → 2 * r + 1 ≤ n → sum_to n (λ k. pick (leb (gap_of true n j k) r) (f k)) ≡ before-first +ℤ sum_to (j + 1) round-change
  round-moved j j< h =
      let e : suc (j + r) - n ≡ j + 1 + r - n = omega arith in
      let e' : r - j ≡ suc r - (j + 1) = omega arith in
      let past : round_end true n j r f ≡ (sum_to n f -ℤ sum_to (n - suc r) f) +ℤ sum_to (j + 1) end-change =
      ap₂ (λ (a b : ℕ). sum_to a f +ℤ (sum_to n f -ℤ sum_to (n - b) f)) e e' ∙ ends-moved (j + 1) (omega arith) in
      sum-round n j r j< h f
      ∙ ap₂ ◌+ℤ◌ (sym (sum_near n j r f) ∙ near-moved n j r f) past
      ∙ regroup (sum_to (min r n) f) (sum_to (j + 1) (near-change n r f)) (sum_to n f -ℤ sum_to (n - suc r) f) (sum_to (j + 1) end-change)
      ∙ ap (λ (x : ℤ). before-first +ℤ x) (sym (sum-add (j + 1) (near-change n r f) end-change))

  -- ---- the change at a column, by whether what leaves is at the row's end, and what enters at its beginning
  abbrev entering : ℕ → ℤ
  entering i = pick (ltb (i + r) n) (f (i + r))

  abbrev leaving : ℕ → ℤ
  leaving i = pick (leb (suc r) i) (pick (ltb (i - suc r) n) (f (i - suc r)))

  abbrev entering_past : ℕ → ℤ
  entering_past i = pick (leb n (i + r)) (f (i + r - n))

  abbrev leaving_past : ℕ → ℤ
  leaving_past i = pick (ltb i (suc r)) (f (n - (suc r - i)))

  change-of : (i : ℕ) (x y u v : ℤ) → entering i ≡ x → leaving i ≡ y → entering_past i ≡ u → leaving_past i ≡ v → round-change i ≡ (x -ℤ y) +ℤ (u -ℤ v)
  change-of i x y u v a b c d = ap₂ ◌+ℤ◌ (ap₂ ◌-ℤ◌ a b) (ap₂ ◌-ℤ◌ c d)

  leaves-along : (i : ℕ) → suc r ≤ i → i < n → leaving i ≡ f (i - suc r)
  leaves-along i h k = pick_yes (leb (suc r) i) (pick (ltb (i - suc r) n) (f (i - suc r))) (le→leb (suc r) i h) ∙ pick-in (i - suc r) n (f (i - suc r)) (omega arith)

  enters_none : (i : ℕ) → i + r < n → entering_past i ≡ pos 0
  enters_none i h = pick_no (leb n (i + r)) (f (i + r - n)) (λ t. omega (arith, leb→le n (i + r) t))

  pub round-first : (i : ℕ) → i ≤ r → i + r < n → f (i + r) -ℤ f (n - (suc r - i)) ≡ round-change i
  round-first i h k =
      first-columns (f (i + r)) (f (n - (suc r - i)))
      ∙ sym (change-of i (f (i + r)) (pos 0) (pos 0) (f (n - (suc r - i))) (pick-in (i + r) n (f (i + r)) k)
      (pick_no (leb (suc r) i) (pick (ltb (i - suc r) n) (f (i - suc r))) (λ t. omega (arith, leb→le (suc r) i t)))
      (enters_none i k) (pick-in i (suc r) (f (n - (suc r - i))) (omega arith)))

  pub round-middle : (i : ℕ) → suc r ≤ i → i + r < n → f (i + r) -ℤ f (i - suc r) ≡ round-change i
  round-middle i h k =
      middle-columns (f (i + r)) (f (i - suc r))
      ∙ sym (change-of i (f (i + r)) (f (i - suc r)) (pos 0) (pos 0) (pick-in (i + r) n (f (i + r)) k) (leaves-along i h (omega arith))
      (enters_none i k) (pick_out i (suc r) (f (n - (suc r - i))) h))

  pub round-last : (i : ℕ) → suc r ≤ i → i < n → n ≤ i + r → f (i + r - n) -ℤ f (i - suc r) ≡ round-change i
  round-last i h k l =
      last-columns (f (i + r - n)) (f (i - suc r))
      ∙ sym (change-of i (pos 0) (f (i - suc r)) (f (i + r - n)) (pos 0) (pick_out (i + r) n (f (i + r)) l) (leaves-along i h k)
      (pick_yes (leb n (i + r)) (f (i + r - n)) (le→leb n (i + r) l)) (pick_out i (suc r) (f (n - (suc r - i))) h))
