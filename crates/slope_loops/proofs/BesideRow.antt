-- A row among zeros, or among the cells at its other end.
-- Assumes nothing.
use mathlib.Core.Path.{◌≡◌, refl, sym, ◌∙◌, ap, ap₂}
use Prim.Native.Nat.{ℕ, ◌+◌, ◌-◌, ◌*◌, ◌≤◌, ◌<◌}
use native.Mathlib.Omega.{arith}
use native.Mathlib.Decide.{dec_lt}
use mathlib.Core.Bool.{Bool, true, false, not}
use lib.Dec.{T, leb, ltb, leb→le, ltb→lt, le→leb, lt→ltb}
use lib.IntN.{ℤ, pos, nat_abs, ◌+ℤ◌, ◌-ℤ◌}
use Rattle.numbers.specs.Sum.{pick}
use Rattle.numbers.proofs.Linear.{any, sums, ring}
use Rattle.numbers.proofs.Sums.{pick_yes, pick_no, pick-in, pick_out, pick-bound}
use Rattle.spec_picture.specs.Sides.{at_both}
use Rattle.slope_loops.specs.declared.padding.TheConstants.{MARGIN}
use Rattle.slope_loops.specs.Slopes.{round_by, column_round, beside_row}

pub pick-zero : (b : Bool) → pick b (pos 0) ≡ pos 0
unfolding pick
pick-zero true = refl
pick-zero false = refl

-- ---- the column at a place
by-left : (b w : Bool) (c x : ℕ) → T b → round_by b w c x ≡ x + c - MARGIN
by-left true w c x t = refl
by-left false w c x t = absurd t

by-middle : (b w : Bool) (c x : ℕ) → (T b → ⊥) → T w → round_by b w c x ≡ x - MARGIN
by-middle true w c x n t = absurd (n tt)
by-middle false true c x n t = refl
by-middle false false c x n t = absurd t

by-right : (b w : Bool) (c x : ℕ) → (T b → ⊥) → (T w → ⊥) → round_by b w c x ≡ x - MARGIN - c
by-right true w c x n m = absurd (n tt)
by-right false true c x n m = absurd (m tt)
by-right false false c x n m = refl

pub round-left : (c x : ℕ) → x < MARGIN → column_round c x ≡ x + c - MARGIN
round-left c x h = by-left (ltb x MARGIN) (ltb x (MARGIN + c)) c x (lt→ltb x MARGIN h)

pub round-middle : (c x : ℕ) → MARGIN ≤ x → x < MARGIN + c → column_round c x ≡ x - MARGIN
round-middle c x h l = by-middle (ltb x MARGIN) (ltb x (MARGIN + c)) c x (λ t. omega (arith, ltb→lt x MARGIN t)) (lt→ltb x (MARGIN + c) l)

pub round-right : (c x : ℕ) → MARGIN + c ≤ x → column_round c x ≡ x - MARGIN - c
round-right c x h = by-right (ltb x MARGIN) (ltb x (MARGIN + c)) c x (λ t. omega (arith, ltb→lt x MARGIN t)) (λ t. omega (arith, ltb→lt x (MARGIN + c) t))

-- ---- a row among zeros or wrapped cells
pub beside-inside : (b : Bool) (c : ℕ) (f : ℕ → ℤ) (n : ℕ) → n < c → beside_row b c f (MARGIN + n) ≡ f n
beside-inside false c f n h =
    let e : MARGIN + n - MARGIN ≡ n = omega arith in
    pick_yes (leb MARGIN (MARGIN + n)) (f (MARGIN + n - MARGIN)) (le→leb MARGIN (MARGIN + n) (omega arith)) ∙ ap f e
beside-inside true c f n h =
    let e : MARGIN + n - MARGIN ≡ n = omega arith in
    ap f (round-middle c (MARGIN + n) (omega arith) (omega arith) ∙ e)

pub beside-zero : (b : Bool) (c : ℕ) (f : ℕ → ℤ) → ((n : ℕ) → f n ≡ pos 0) → (x : ℕ) → beside_row b c f x ≡ pos 0
beside-zero false c f none x = ap (pick (leb MARGIN x)) (none (x - MARGIN)) ∙ pick-zero (leb MARGIN x)
beside-zero true c f none x = none (column_round c x)

pub beside-bound : (b : Bool) (c : ℕ) (f : ℕ → ℤ) (M : ℕ) → ((n : ℕ) → nat_abs (f n) ≤ M) → (x : ℕ) → nat_abs (beside_row b c f x) ≤ M
beside-bound false c f M small x = omega (arith, pick-bound (leb MARGIN x) (f (x - MARGIN)), small (x - MARGIN))
beside-bound true c f M small x = small (column_round c x)

pub beside-cong : (b : Bool) (c : ℕ) (f g : ℕ → ℤ) → ((n : ℕ) → f n ≡ g n) → (x : ℕ) → beside_row b c f x ≡ beside_row b c g x
beside-cong false c f g e x = ap (pick (leb MARGIN x)) (e (x - MARGIN))
beside-cong true c f g e x = e (column_round c x)

-- of a difference of two rows
pick-sub : (b : Bool) (u v : ℤ) → pick b (u -ℤ v) ≡ pick b u -ℤ pick b v
unfolding pick
pick-sub true u v = refl
pick-sub false u v = refl

pub beside-sub : (b : Bool) (c : ℕ) (f g : ℕ → ℤ) (x : ℕ) → beside_row b c (λ n. f n -ℤ g n) x ≡ beside_row b c f x -ℤ beside_row b c g x
beside-sub false c f g x = pick-sub (leb MARGIN x) (f (x - MARGIN)) (g (x - MARGIN))
beside-sub true c f g x = refl

-- where columns clip
pub clipped-left : (b : Bool) → T (not b) → (c : ℕ) (f : ℕ → ℤ) (x : ℕ) → x < MARGIN → beside_row b c f x ≡ pos 0
clipped-left true clips c f x h = absurd clips
clipped-left false clips c f x h = pick_no (leb MARGIN x) (f (x - MARGIN)) (λ t. omega (arith, leb→le MARGIN x t))

pub clipped-right : (b : Bool) → T (not b) → (c : ℕ) (f : ℕ → ℤ) → ((n : ℕ) → c ≤ n → f n ≡ pos 0) → (x : ℕ) → MARGIN + c ≤ x → beside_row b c f x ≡ pos 0
clipped-right true clips c f beside x h = absurd clips
clipped-right false clips c f beside x h = ap (pick (leb MARGIN x)) (beside (x - MARGIN) (omega arith)) ∙ pick-zero (leb MARGIN x)

-- where they wrap
pub wrapped-left : (b : Bool) → T b → (c : ℕ) (f : ℕ → ℤ) (x : ℕ) → x < MARGIN → beside_row b c f x ≡ f (x + c - MARGIN)
wrapped-left false wraps c f x h = absurd wraps
wrapped-left true wraps c f x h = ap f (round-left c x h)

pub wrapped-right : (b : Bool) → T b → (c : ℕ) (f : ℕ → ℤ) (x : ℕ) → MARGIN + c ≤ x → beside_row b c f x ≡ f (x - MARGIN - c)
wrapped-right false wraps c f x h = absurd wraps
wrapped-right true wraps c f x h = ap f (round-right c x h)

pub round-once : (b : Bool) → T b → (c : ℕ) (f : ℕ → ℤ) (x : ℕ) → MARGIN ≤ x + c → x < MARGIN + c → beside_row b c f (x + c) ≡ beside_row b c f x
round-once false wraps c f x h l = absurd wraps
round-once true wraps c f x h l = go (dec_lt x MARGIN)
  where
    go : Dec (x < MARGIN) → f (column_round c (x + c)) ≡ f (column_round c x)
    go (yes k) = ap f (round-middle c (x + c) h (omega arith) ∙ sym (round-left c x k))
    go (no k) =
        let e : x + c - MARGIN - c ≡ x - MARGIN = omega arith in
        ap f (round-right c (x + c) (omega arith) ∙ e ∙ sym (round-middle c x (omega arith) l))

-- ---- the cells at one distance from a column
module _ (c j r : ℕ) (f : ℕ → ℤ) (j< : j < c) where
  pub left-clipped : r ≤ MARGIN → beside_row false c f (MARGIN + j - r) ≡ pick (leb r j) (f (j - r))
  left-clipped few = go (dec_lt j r)
    where
      go : Dec (j < r) → beside_row false c f (MARGIN + j - r) ≡ pick (leb r j) (f (j - r))
      go (yes h) = clipped-left false tt c f (MARGIN + j - r) (omega arith) ∙ sym (pick_no (leb r j) (f (j - r)) (λ t. omega (arith, leb→le r j t)))
      go (no h) =
          let e : MARGIN + j - r ≡ MARGIN + (j - r) = omega arith in
          ap (beside_row false c f) e ∙ beside-inside false c f (j - r) (omega arith) ∙ sym (pick_yes (leb r j) (f (j - r)) (le→leb r j (omega arith)))

  pub right-clipped : ((n : ℕ) → c ≤ n → f n ≡ pos 0) → beside_row false c f (MARGIN + j + r) ≡ pick (ltb (j + r) c) (f (j + r))
  right-clipped beside = go (dec_lt (j + r) c)
    where
      go : Dec (j + r < c) → beside_row false c f (MARGIN + j + r) ≡ pick (ltb (j + r) c) (f (j + r))
      go (yes h) =
          let e : MARGIN + j + r ≡ MARGIN + (j + r) = omega arith in
          ap (beside_row false c f) e ∙ beside-inside false c f (j + r) h ∙ sym (pick-in (j + r) c (f (j + r)) h)
      go (no h) = clipped-right false tt c f beside (MARGIN + j + r) (omega arith) ∙ sym (pick_out (j + r) c (f (j + r)) (omega arith))

  pub left-wrapped : r ≤ MARGIN → r ≤ c → beside_row true c f (MARGIN + j - r) ≡ pick (leb r j) (f (j - r)) +ℤ pick (ltb j r) (f (c - (r - j)))
  left-wrapped few once = go (dec_lt j r)
    where
      go : Dec (j < r) → beside_row true c f (MARGIN + j - r) ≡ pick (leb r j) (f (j - r)) +ℤ pick (ltb j r) (f (c - (r - j)))
      go (yes h) =
          let e : MARGIN + j - r + c - MARGIN ≡ c - (r - j) = omega arith in
          wrapped-left true tt c f (MARGIN + j - r) (omega arith) ∙ ap f e
          ∙ sym (ap₂ ◌+ℤ◌ (pick_no (leb r j) (f (j - r)) (λ t. omega (arith, leb→le r j t))) (pick-in j r (f (c - (r - j))) h) ∙ ring (search (sums, any (f (c - (r - j))))) (omega arith))
      go (no h) =
          let e : MARGIN + j - r ≡ MARGIN + (j - r) = omega arith in
          ap (beside_row true c f) e ∙ beside-inside true c f (j - r) (omega arith)
          ∙ sym (ap₂ ◌+ℤ◌ (pick_yes (leb r j) (f (j - r)) (le→leb r j (omega arith))) (pick_out j r (f (c - (r - j))) (omega arith)) ∙ ring (search (sums, any (f (j - r)))) (omega arith))

  pub right-wrapped : beside_row true c f (MARGIN + j + r) ≡ pick (ltb (j + r) c) (f (j + r)) +ℤ pick (leb c (j + r)) (f (j + r - c))
  right-wrapped = go (dec_lt (j + r) c)
    where
      go : Dec (j + r < c) → beside_row true c f (MARGIN + j + r) ≡ pick (ltb (j + r) c) (f (j + r)) +ℤ pick (leb c (j + r)) (f (j + r - c))
      go (yes h) =
          let e : MARGIN + j + r ≡ MARGIN + (j + r) = omega arith in
          ap (beside_row true c f) e ∙ beside-inside true c f (j + r) h
          ∙ sym (ap₂ ◌+ℤ◌ (pick-in (j + r) c (f (j + r)) h) (pick_no (leb c (j + r)) (f (j + r - c)) (λ t. omega (arith, leb→le c (j + r) t))) ∙ ring (search (sums, any (f (j + r)))) (omega arith))
      go (no h) =
          let e : MARGIN + j + r - MARGIN - c ≡ j + r - c = omega arith in
          wrapped-right true tt c f (MARGIN + j + r) (omega arith) ∙ ap f e
          ∙ sym (ap₂ ◌+ℤ◌ (pick_out (j + r) c (f (j + r)) (omega arith)) (pick_yes (leb c (j + r)) (f (j + r - c)) (le→leb c (j + r) (omega arith))) ∙ ring (search (sums, any (f (j + r - c)))) (omega arith))

paired : (a b c d : ℤ) → (a +ℤ b) +ℤ (c +ℤ d) ≡ (a +ℤ c) +ℤ (b +ℤ d)
paired a b c d = ring (search (sums, any a, any b, any c, any d) depth 12) (omega arith)

-- the values at distance r, on the left and on the right
pub both-beside : (b : Bool) (c j r : ℕ) (f : ℕ → ℤ) → j < c → ((n : ℕ) → c ≤ n → f n ≡ pos 0) → r ≤ MARGIN → (T b → 2 * r + 1 ≤ c) →
    at_both b c r j f ≡ beside_row b c f (MARGIN + j - r) +ℤ beside_row b c f (MARGIN + j + r)
both-beside false c j r f j< beside few apart = sym (ap₂ ◌+ℤ◌ (left-clipped c j r f j< few) (right-clipped c j r f j< beside))
both-beside true c j r f j< beside few apart =
    paired (pick (leb r j) (f (j - r))) (pick (ltb (j + r) c) (f (j + r))) (pick (ltb j r) (f (c - (r - j)))) (pick (leb c (j + r)) (f (j + r - c)))
    ∙ sym (ap₂ ◌+ℤ◌ (left-wrapped c j r f j< few (omega (arith, apart tt))) (right-wrapped c j r f j<))
