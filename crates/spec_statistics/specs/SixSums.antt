-- The six sums of a window, what they give together, and when they are impossible.
-- Assumes nothing.
use Rattle.std.specs.Prelude.{ℕ, ◌^◌, Bool, ◌||◌, [], ◌∷◌, eqb, ℤ, pos, nat_abs, ◌-ℤ◌, ◌*ℤ◌}
use Rattle.std.specs.Int.Signed.{lt_z}
use Rattle.spec_picture.specs.Refusal.{Outcome, ◌when◌, refusal, outcome}
use Rattle.spec_picture.specs.Picture.{Inputs, inputs}
use Rattle.spec_picture.specs.Direct.{direct_sum}
use Rattle.spec_statistics.specs.declared.Sums.{Sums}

-- the inputs with another plane
abbrev pub on_plane : Inputs → ℕ → Inputs
on_plane x k = inputs x.source.frame x.source.f x.source.g x.window x.source.shift k

-- "six sums N, S, T, A, B, P (planes 0 to 5)": the six direct sums at the cell (i, j)
abbrev pub six_sums : Inputs → (i j : ℕ) → Sums
six_sums x i j = record {
  n = direct_sum (on_plane x 0) i j;
  s = direct_sum (on_plane x 1) i j;
  t = direct_sum (on_plane x 2) i j;
  a = direct_sum (on_plane x 3) i j;
  b = direct_sum (on_plane x 4) i j;
  p = direct_sum (on_plane x 5) i j;
}

-- "Vf = N·A - S², Vg = N·B - T², C = N·P - S·T"
abbrev pub Vf : Sums → ℤ
Vf z = z.n *ℤ z.a -ℤ z.s *ℤ z.s

abbrev pub Vg : Sums → ℤ
Vg z = z.n *ℤ z.b -ℤ z.t *ℤ z.t

abbrev pub covariance : Sums → ℤ
covariance z = z.n *ℤ z.p -ℤ z.s *ℤ z.t

-- 9: "N above 65,025 or negative; |S| or |T| above 32,768·N; A or B negative or above 2^30·N; |P| above 2^30·N"
abbrev pub unbounded : Sums → Bool
unbounded z =
    lt_z (pos 65025) z.n || lt_z z.n (pos 0) ||
    lt_z (pos 32768 *ℤ z.n) (pos (nat_abs z.s)) || lt_z (pos 32768 *ℤ z.n) (pos (nat_abs z.t)) ||
    lt_z z.a (pos 0) || lt_z (pos (2 ^ 30) *ℤ z.n) z.a || lt_z z.b (pos 0) || lt_z (pos (2 ^ 30) *ℤ z.n) z.b ||
    lt_z (pos (2 ^ 30) *ℤ z.n) (pos (nat_abs z.p))

-- 9, whole: ".. Vf or Vg negative; C² above Vf·Vg"
unfoldable pub impossible : Sums → Bool
impossible z =
    unbounded z || lt_z (Vf z) (pos 0) || lt_z (Vg z) (pos 0) || lt_z (Vf z *ℤ Vg z) (covariance z *ℤ covariance z)

-- a statistic has one check, 9
abbrev pub unless9 : {A : Type 0} → Sums → A → Outcome A
unless9 z r = outcome (refusal ((9 when impossible z) ∷ [])) r

-- N, as a count
abbrev pub count : Sums → ℕ
count z = nat_abs z.n

-- N = 0
abbrev pub no_cell : Sums → Bool
no_cell z = eqb (count z) 0

abbrev pub is_zero : ℤ → Bool
is_zero z = eqb (nat_abs z) 0
