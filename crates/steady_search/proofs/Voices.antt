-- The voice answer of a cell: it is never refused, and N, S and A alone decide it.
-- Assumes nothing.
use mathlib.Core.Path.{◌≡◌, refl, sym, ◌∙◌, ap}
use mathlib.Core.Bool.{Bool, false}
use mathlib.Core.List.{List}
use Prim.Native.Nat.{ℕ, ◌+◌, ◌*◌, ◌<◌}
use native.Mathlib.Omega.{arith}
use lib.IntN.{pos, ℤ, *ℤ-zero}
use lib.Signed.{≤ℤ_refl}
use Rattle.spec_picture.specs.Refusal.{Outcome, refused, answered}
use Rattle.spec_picture.specs.Picture.{Inputs}
use Rattle.spec_picture.proofs.Found.{Checked}
use Rattle.spec_statistics.specs.declared.Sums.{Sums}
use Rattle.spec_statistics.specs.SixSums.{on_plane, six_sums, impossible}
use Rattle.spec_statistics.specs.Moments.{mean, deviation}
use Rattle.spec_statistics.specs.Voice.{Voice, voice, voice_call}
use Rattle.spec_statistics.proofs.Bounds.{possible-has, possible-of, answers}
use Rattle.spec_statistics.proofs.Possible.{sums-possible}
use Rattle.spec_smoothing.specs.Steady.{is_steady, find_cell, first_steady}
use Rattle.row_session.specs.Blocks.{RowSums}
use Rattle.steady_search.specs.SteadyCells.{first_sums, sums_at, steady_in}
use Rattle.steady_search.proofs.Places.{same-cells}
use Rattle.steady_search.proofs.Searching.{steady_at}

-- ---- N, S and A alone
pub voice-first : (z : Sums) → voice (first_sums z.n z.s z.a) ≡ voice z
unfolding voice mean deviation
voice-first z = refl

pub possible-first : (z : Sums) → impossible z ≡ false → impossible (first_sums z.n z.s z.a) ≡ false
possible-first z e =
    let p = possible-has z e in
    let b = p.bounded in
    possible-of (first_sums z.n z.s z.a) (record {
      bounded = record {
        whole = b.whole;
        few = b.few;
        first = b.first;
        second = omega arith;
        square_f_whole = b.square_f_whole;
        square_f = b.square_f;
        square_g_whole = ≤ℤ_refl (pos 0);
        square_g = omega arith;
        product = omega arith;
      };
      spread_f = p.spread_f;
      spread_g = rw *ℤ-zero (≤ℤ_refl (pos 0));
      schwarz = simp *ℤ-zero (≤ℤ_refl (pos 0));
    })

-- ---- the public answer
module _ (x : Inputs) (c : Checked x) where
  pub cell-possible : (i j : ℕ) → j < x.source.frame.columns → impossible (six_sums x i j) ≡ false
  cell-possible i j j< = sums-possible x c.levels_f c.levels_g c.window c.fitting i j j<

  pub voice_answers : (i j : ℕ) → j < x.source.frame.columns → voice_call (six_sums x i j) ≡ answered (voice (six_sums x i j))
  unfolding voice_call
  voice_answers i j j< = answers (six_sums x i j) (voice (six_sums x i j)) (possible-has (six_sums x i j) (cell-possible i j j<))

-- a voice answer that is Steady
abbrev pub answers_steady : Outcome Voice → Bool
answers_steady (refused n) = false
answers_steady (answered v) = is_steady v

-- "the first cell in row order whose voice answer is Steady": the answer to the six direct sums of the cell
pub first-by-answers : (x : Inputs) → Checked x → first_steady x ≡ find_cell (λ i j. answers_steady (voice_call (six_sums x i j))) x.source.frame.columns 0 x.source.frame.rows
unfolding first_steady
first-by-answers x c =
    same-cells (λ i j. is_steady (voice (six_sums x i j))) (λ i j. answers_steady (voice_call (six_sums x i j))) x.source.frame.columns 0 x.source.frame.rows
    (λ i j i< j<. ap answers_steady (sym (voice_answers x c i j j<)))

-- ---- from N, S and A of m rows from row i on
pub record RowsHeard (x : Inputs) (i m : ℕ) (n s a : List ℤ) : Type 0 where
  pub counted : RowSums (on_plane x 0) i m n
  pub summed : RowSums (on_plane x 1) i m s
  pub squared : RowSums (on_plane x 3) i m a

module _ (x : Inputs) (i m : ℕ) (n s a : List ℤ) (h : RowsHeard x i m n s a) where
  sums-are : (r j : ℕ) → r < m → j < x.source.frame.columns → sums_at n s a (r * x.source.frame.columns + j) ≡ first_sums (six_sums x (i + r) j).n (six_sums x (i + r) j).s (six_sums x (i + r) j).a
  sums-are r j k l = rw (h.counted r j k l, h.summed r j k l, h.squared r j k l)

  pub rows-possible : Checked x → (r j : ℕ) → r < m → j < x.source.frame.columns → impossible (sums_at n s a (r * x.source.frame.columns + j)) ≡ false
  rows-possible c r j k l = ap impossible (sums-are r j k l) ∙ possible-first (six_sums x (i + r) j) (cell-possible x c (i + r) j l)

  -- the first steady cell of those numbers is that of the rows
  pub rows-steady : find_cell (steady_in x.source.frame.columns n s a) x.source.frame.columns 0 m ≡ find_cell (λ r. steady_at x (i + r)) x.source.frame.columns 0 m
  rows-steady =
      same-cells (steady_in x.source.frame.columns n s a) (λ r. steady_at x (i + r)) x.source.frame.columns 0 m
      (λ r j k l. ap is_steady (ap voice (sums-are r j (omega (arith, k)) l) ∙ voice-first (six_sums x (i + r) j)))
