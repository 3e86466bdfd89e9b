-- The columns on both sides of a column: along the row, and where columns wrap past its ends too.
-- Assumes nothing.
use Rattle.std.specs.Prelude.{ℕ, suc, ◌+◌, ◌-◌, Bool, true, false, leb, ltb, ℤ, pos, ◌+ℤ◌, ◌-ℤ◌}
use Rattle.numbers.specs.Sum.{sum_to, pick}

-- the values of f at the columns at distance r from column j, where r is 1 at least
abbrev pub at_both : Bool → (columns r j : ℕ) → (ℕ → ℤ) → ℤ
at_both false n r j f = pick (leb r j) (f (j - r)) +ℤ pick (ltb (j + r) n) (f (j + r))
at_both true n r j f = (pick (leb r j) (f (j - r)) +ℤ pick (ltb (j + r) n) (f (j + r))) +ℤ (pick (ltb j r) (f (n - (r - j))) +ℤ pick (leb n (j + r)) (f (j + r - n)))

-- the sum of f over the columns past either end of the row that are at most r from column j
abbrev pub round_end : Bool → (columns j r : ℕ) → (ℕ → ℤ) → ℤ
round_end false n j r f = pos 0
round_end true n j r f = sum_to (suc (j + r) - n) f +ℤ (sum_to n f -ℤ sum_to (n - (r - j)) f)
