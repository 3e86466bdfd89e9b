-- By which method many rows are computed.
-- Assumes nothing.
use Rattle.std.specs.Prelude.{◌≡◌, ℕ, ◌≤◌, Bool, false, T}
use Rattle.spec_picture.specs.declared.Window.{Window}
use Rattle.spec_picture.specs.Window.{shape_of, is_rectangle, height}

-- where the slopes are used, the window is no rectangle, and a row is asked for
pub record BySlopes (w : Window) (n : ℕ) (answer : Bool) : Type 0 where
  pub slanted : T answer → is_rectangle (shape_of w) ≡ false
  pub some : T answer → 1 ≤ n

-- where row 0 is computed by the slopes too, it is the first row, of ones or levels, over a window that has slopes, and a row is asked for
pub record TopBySlopes (position : ℕ) (w : Window) (plane n : ℕ) (answer : Bool) : Type 0 where
  pub first : T answer → position ≡ 0
  pub slanted : T answer → is_rectangle (shape_of w) ≡ false
  pub high : T answer → 1 ≤ height (shape_of w)
  pub level : T answer → plane ≤ 2
  pub some : T answer → 1 ≤ n
