-- Sums to which numbers are added and from which numbers are subtracted: how large they get, and a loop that replaces them from one place on.
-- Assumes nothing.
use mathlib.Core.Path.{◌≡◌, refl, sym, ◌∙◌, ap}
use Prim.Native.Nat.{ℕ, ◌+◌, ◌-◌, ◌≤◌, ◌<◌}
use native.Mathlib.Omega.{arith}
use native.Mathlib.Decide.{ℕ_discrete, dec_lt}
use mathlib.Core.List.{List}
use lib.ListN.{length, set, length-set}
use lib.Seq.{get_or-set_same, get_or-set_other}
use lib.IntN.{ℤ, pos, negsuc, nat_abs, ◌+ℤ◌, ◌-ℤ◌}
use lib.Signed.{mag}
use Rattle.numbers.proofs.Linear.{sums, any, ring}
use Rattle.numbers.proofs.Magnitudes.{size-add, size-sub}
use Rattle.numbers.proofs.Writes.{at}
use Rattle.slope_loops.specs.declared.padding.TheConstants.{ROW_LENGTH}
use Rattle.slope_loops.specs.Loops.{Replaced}

-- ---- how large a sum gets
mag_low : (x : ℤ) → mag x ≤ nat_abs x
mag_low (pos n) = omega arith
mag_low (negsuc n) = omega arith

mag_high : (x : ℤ) → nat_abs x ≤ mag x + 1
mag_high (pos n) = omega arith
mag_high (negsuc n) = omega arith

pub mag-add : (x y : ℤ) → mag (x +ℤ y) ≤ mag x + mag y + 2
mag-add x y = omega (arith, mag_low (x +ℤ y), mag_high x, mag_high y, size-add x y)

pub mag-sub : (x y : ℤ) → mag (x -ℤ y) ≤ mag x + mag y + 2
mag-sub x y = omega (arith, mag_low (x -ℤ y), mag_high x, mag_high y, size-sub x y)

-- what goes is what comes the other way round
pub add_turned : (x y z : ℤ) → x +ℤ (y -ℤ z) ≡ x -ℤ (z -ℤ y)
add_turned x y z = ring (search (sums, any x, any y, any z)) (omega arith)

-- ---- a loop that moves the numbers from place s on
pub replaced_none : (F : ℕ → ℤ) (old : List ℤ) (s : ℕ) → length old ≡ ROW_LENGTH → Replaced F old old s 0
replaced_none F old s e = record { size = e; done = λ x l. absurd (omega arith); low = λ x l. refl; high = λ x l. refl }

module _ {F : ℕ → ℤ} {old now : List ℤ} {s n : ℕ} (u : Replaced F old now s n) where
  -- the next is not replaced yet
  pub replaced-next : at now (n + s) ≡ at old (n + s)
  replaced-next = u.high (n + s) (omega arith)

  done-by : (v : ℤ) → n + s < ROW_LENGTH → v ≡ F n → (x : ℕ) → x < n + 1 → Dec (x ≡ n) → at (set now (n + s) v) (x + s) ≡ F x
  done-by v l e x h (yes p) = rw p (get_or-set_same now (n + s) v (pos 0) (omega (arith, u.size)) ∙ e)
  done-by v l e x h (no p) = get_or-set_other now (n + s) (x + s) v (pos 0) (λ q. p (omega arith)) ∙ u.done x (omega arith)

  pub replaced_more : (v : ℤ) → n + s < ROW_LENGTH → v ≡ F n → Replaced F old (set now (n + s) v) s (n + 1)
  replaced_more v l e = record {
    size = length-set now (n + s) v ∙ u.size;
    done = λ x h. done-by v l e x h (ℕ_discrete x n);
    low = λ x h. get_or-set_other now (n + s) x v (pos 0) (λ q. omega arith) ∙ u.low x h;
    high = λ x h. get_or-set_other now (n + s) x v (pos 0) (λ q. omega arith) ∙ u.high x (omega arith);
  }

  -- what is at each place, where those before and after the replaced ones are right as they were
  pub replaced-all : (G : ℕ → ℤ) → ((x : ℕ) → x < n → F x ≡ G (x + s)) → (p : ℕ) → (p < s → at old p ≡ G p) → (s + n ≤ p → at old p ≡ G p) → at now p ≡ G p
  replaced-all G f p before after = go (dec_lt p s) (dec_lt p (s + n))
    where
      go : Dec (p < s) → Dec (p < s + n) → at now p ≡ G p
      go (yes a) b = u.low p a ∙ before a
      go (no a) (no b) = u.high p (omega arith) ∙ after (omega arith)
      go (no a) (yes b) =
          let e : p - s + s ≡ p = omega arith in
          ap (at now) (sym e) ∙ u.done (p - s) (omega arith) ∙ f (p - s) (omega arith) ∙ ap G e
