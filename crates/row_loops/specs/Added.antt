-- A row of sums to each of which a number was added.
-- Assumes nothing.
use Rattle.std.specs.Prelude.{◌≡◌, ℕ, ◌<◌, List, length, get_or, ℤ, pos, ◌+ℤ◌}
use Rattle.numbers.specs.Wrap.{wrap}

-- to the sum at each place k a number was added that is `By k`, and the sum is wrapped at 64 bits
pub record AddedEach (By : ℕ → ℤ → Type 0) (old new : List ℤ) : Type 0 where
  pub size : length new ≡ length old
  pub each : (k : ℕ) → k < length old → (x : ℤ) × By k x × (get_or new k (pos 0) ≡ wrap (get_or old k (pos 0) +ℤ x))

-- four rows of as many numbers as there are sums
pub record ProductsRequires (a b c d sums : List ℤ) : Type 0 where
  pub length_a : length a ≡ length sums
  pub length_b : length b ≡ length sums
  pub length_c : length c ≡ length sums
  pub length_d : length d ≡ length sums

-- every number is of 64 bits
pub record Numbers (l : List ℤ) : Type 0 where
  pub whole : (k : ℕ) → wrap (get_or l k (pos 0)) ≡ get_or l k (pos 0)
