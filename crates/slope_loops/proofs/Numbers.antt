-- Lists of numbers, by the integers that they stand for.
-- Assumes nothing.
use mathlib.Core.Path.{◌≡◌, sym, ◌∙◌}
use Prim.Native.Nat.{ℕ, ◌+◌, ◌*◌, ◌≤◌, ◌<◌}
use native.Mathlib.Omega.{arith}
use mathlib.Core.List.{List, map}
use lib.ListN.{length, get_or, set}
use lib.IntN.{ℤ, pos, ◌+ℤ◌, ◌-ℤ◌}
use lib.Signed.{mag}
use Rattle.std.proofs.lemmas.List.{get_or-map, map-set}
use Rattle.numbers.proofs.Writes.{at}
use Rattle.slope_loops.specs.declared.padding.TheConstants.{ROW_LENGTH}
use Rattle.slope_loops.specs.Loops.{Replaced}
use Rattle.slope_loops.proofs.LoopLaws.{replaced-next, replaced_more, mag-add, mag-sub}

module _ {X : Type 0} (f : X → ℤ) where
  -- what a number that was read stands for
  pub read : (l : List X) (k : ℕ) (d : X) → k < length l → f (get_or l k d) ≡ at (map f l) k
  read l k d h = sym (get_or-map f l k d (pos 0) h)

  -- a loop that moves the numbers from place s on, and has moved n
  module _ (old now : List X) {F : ℕ → ℤ} {s n : ℕ} (u : Replaced F (map f old) (map f now) s n) where
    pub next_read : (d : X) → n + s < length now → f (get_or now (n + s) d) ≡ at (map f old) (n + s)
    next_read d h = read now (n + s) d h ∙ replaced-next u

    pub next_replaced : (v : X) → n + s < ROW_LENGTH → f v ≡ F n → Replaced F (map f old) (map f (set now (n + s) v)) s (n + 1)
    next_replaced v h e = rw (map-set f now (n + s) v) (replaced_more u (f v) h e)

-- how large a sum is when a number was added and one subtracted
pub added-small : (s a b : ℤ) (M V N : ℕ) → mag s ≤ M → mag a ≤ V → mag b ≤ V → M + 2 * V + 4 ≤ N → mag (s +ℤ (a -ℤ b)) ≤ N
added-small s a b M V N hs ha hb room = omega (arith, hs, ha, hb, room, mag-add s (a -ℤ b), mag-sub a b)
