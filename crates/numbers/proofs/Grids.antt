-- The laws of lists written out from a function.
-- Assumes nothing.
use mathlib.Core.Path.{◌≡◌, refl, sym, ◌∙◌, ap, ap₂}
use mathlib.Core.List.{◌∷◌, ◌++◌, append_assoc}
use Prim.Native.Nat.{ℕ, zero, suc, ◌+◌, ◌*◌, ◌≤◌, ◌<◌}
use native.Mathlib.Omega.{arith}
use lib.ListN.{length, get_or, length-append, get_or-append}
use lib.Seq.{get_or-append-add}
use Rattle.numbers.specs.Grid.{tabulate, rows_from, grid}

module _ {A : Type 0} where
  pub length-tabulate : (n : ℕ) (f : ℕ → A) → length (tabulate n f) ≡ n
  unfolding tabulate
  length-tabulate zero f = refl
  length-tabulate (suc n) f = ap suc (length-tabulate n (λ k. f (suc k)))

  pub get_d_tabulate : (n k : ℕ) (f : ℕ → A) (d : A) → k < n → get_or (tabulate n f) k d ≡ f k
  unfolding tabulate
  get_d_tabulate zero k f d h = absurd (omega arith)
  get_d_tabulate (suc n) zero f d h = refl
  get_d_tabulate (suc n) (suc k) f d h = get_d_tabulate n k (λ i. f (suc i)) d (omega arith)

  pub tabulate-cong : (n : ℕ) (f g : ℕ → A) → ((k : ℕ) → k < n → f k ≡ g k) → tabulate n f ≡ tabulate n g
  unfolding tabulate
  tabulate-cong zero f g h = refl
  tabulate-cong (suc n) f g h = ap₂ ◌∷◌ (h 0 (omega arith)) (tabulate-cong n (λ k. f (suc k)) (λ k. g (suc k)) (λ k l. h (suc k) (omega arith)))

  pub length-rows : (i n c : ℕ) (f : ℕ → ℕ → A) → length (rows_from i n c f) ≡ n * c
  unfolding rows_from
  length-rows i zero c f = omega arith
  length-rows i (suc n) c f = length-append (tabulate c (f i)) (rows_from (suc i) n c f) ∙ omega (arith, length-tabulate c (f i), length-rows (suc i) n c f)

  -- the number at k rows and j columns
  pub get_d_rows : (i n c k j : ℕ) (f : ℕ → ℕ → A) (d : A) → k < n → j < c → get_or (rows_from i n c f) (k * c + j) d ≡ f (i + k) j
  unfolding rows_from
  get_d_rows i zero c k j f d h l = absurd (omega arith)
  get_d_rows i (suc n) c zero j f d h l =
      let e : 0 * c + j ≡ j = omega arith in
      let z : i + 0 ≡ i = omega arith in
      rw (e, z) (get_or-append (tabulate c (f i)) (rows_from (suc i) n c f) d j (omega (arith, length-tabulate c (f i))) ∙ get_d_tabulate c j (f i) d l)
  get_d_rows i (suc n) c (suc k) j f d h l =
      let e : suc k * c + j ≡ length (tabulate c (f i)) + (k * c + j) = omega (arith, length-tabulate c (f i)) in
      let z : i + suc k ≡ suc i + k = omega arith in
      rw (e, z) (get_or-append-add (tabulate c (f i)) (rows_from (suc i) n c f) (k * c + j) d ∙ get_d_rows (suc i) n c k j f d (omega arith) l)

  pub rows_join : (i n m c : ℕ) (f : ℕ → ℕ → A) → rows_from i (n + m) c f ≡ rows_from i n c f ++ rows_from (i + n) m c f
  unfolding rows_from
  rows_join i zero m c f =
      let e : i + 0 ≡ i = omega arith in
      let z : 0 + m ≡ m = omega arith in
      rw (e, z)
  rows_join i (suc n) m c f =
      let e : i + suc n ≡ suc i + n = omega arith in
      let z : suc n + m ≡ suc (n + m) = omega arith in
      rw (e, z, rows_join (suc i) n m c f) (sym (append_assoc (tabulate c (f i)) (rows_from (suc i) n c f) (rows_from (suc i + n) m c f)))

-- a place of a picture is a place of its list
pub place_inside : {rows columns m n : ℕ} → m < rows → n < columns → m * columns + n < rows * columns
place_inside {rows} {columns} {m} {n} h k =
    let l : suc m * columns ≤ rows * columns = native.Mathlib.Nat.mul-le-mul_right columns h in
    omega arith

pub get_or-grid : {A : Type 0} (n c k j : ℕ) (f : ℕ → ℕ → A) (d : A) → k < n → j < c → get_or (grid n c f) (k * c + j) d ≡ f k j
get_or-grid n c k j f d h l =
    let e : 0 + k ≡ k = omega arith in
    get_d_rows 0 n c k j f d h l ∙ ap (λ (i : ℕ). f i j) e
