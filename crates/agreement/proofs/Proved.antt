-- Demand 3, proved at the level of the definitions.
-- Assumes nothing.
use mathlib.Core.Path.{◌≡◌, refl, sym, ◌∙◌, ap, ap₂, subst}
use Prim.Native.Nat.{ℕ, suc, ◌+◌, ◌*◌, ◌≤◌, ◌<◌}
use native.Mathlib.Omega.{arith}
use mathlib.Core.Bool.{false}
use mathlib.Core.List.{List, [], ◌∷◌, ◌++◌}
use mathlib.Core.Option.{Option, none, some}
use lib.ListN.{length, get_or}
use lib.IntN.{ℤ, pos}
use Rattle.numbers.specs.Grid.{tabulate, grid, rows_from}
use Rattle.numbers.proofs.Grids.{length-tabulate, get_d_tabulate, length-rows, get_or-grid, rows_join}
use Rattle.spec_picture.specs.Refusal.{Filling, answered, refusal, outcome, ◌when◌}
use Rattle.spec_picture.specs.Window.{Shape, Slanted, rectangle, slanted, shape_of}
use Rattle.spec_picture.specs.Frame.{cells}
use Rattle.spec_picture.specs.Picture.{Levels, Inputs, plane_at}
use Rattle.spec_picture.specs.Conditions.{accepted}
use Rattle.spec_picture.specs.Direct.{window_sum, direct_sum}
use Rattle.spec_picture.proofs.Refusals.{InLimits, in-limits, accepted-has, direct-answers, outcome-none, pass, no-checks}
use Rattle.spec_picture.proofs.Planes.{plane-bound}
use Rattle.spec_table.specs.Table.{build_call, read_call}
use Rattle.spec_table.proofs.Reading.{build-fills, read-answers}
use Rattle.spec_rows.specs.Rows.{RowOutcome, column_sum, work_value, row_call, row_result, row_checks}
use Rattle.spec_rows.proofs.Calls.{row-answers, granted-has}
use Rattle.spec_rows.proofs.Steps.{Ready, strip-done}
use Rattle.spec_statistics.specs.declared.Sums.{Sums}
use Rattle.spec_statistics.specs.SixSums.{six_sums, impossible, unless9}
use Rattle.spec_statistics.specs.Moments.{unless_empty, mean, variance, deviation, mean_call, variance_call, deviation_call}
use Rattle.spec_statistics.specs.Voice.{voice, voice_call}
use Rattle.spec_statistics.specs.Coefficient.{coefficient, coefficient_call}
use Rattle.spec_statistics.proofs.Possible.{sums-possible}
use Rattle.spec_statistics.proofs.Values.{coefficient_range}
use Rattle.agreement.specs.Agreement.{Call, Progress, fresh, count_of, rows_of, next, after, Agreement, Demand3}

answers : {A : Type 0} (z : Sums) (r : A) → impossible z ≡ false → unless9 z r ≡ answered r
answers z r e = outcome-none (refusal ((9 when impossible z) ∷ [])) r (pass 9 (impossible z) [] e ∙ no-checks)

module _ (x : Inputs) (ok : accepted x) (hf : Levels x.source.f) (hg : Levels x.source.g) where
  lim : InLimits x.source.frame
  lim = in-limits x.source.frame (accepted-has x ok).frame

  abbrev shape : Shape
  shape = shape_of x.window

  abbrev P : ℕ → ℕ → ℤ
  P = plane_at x.source

  -- what holds after every list of calls
  record Good (s : Progress) : Type 0 where
    position_is : s.position ≡ s.granted
    within : s.granted ≤ x.source.frame.rows
    joined_is : s.joined ≡ grid s.granted x.source.frame.columns (window_sum x.source.frame shape P)
    ready : Ready x.source.frame P lim (plane-bound x.source hf hg) shape s.granted s.work

  good-fresh : (work : List ℤ) → Good (fresh work)
  good-fresh work = record { position_is = refl; within = omega arith; joined_is = unfold rows_from in refl; ready = tt }

  good-next : (s : Progress) (c : Call) → Good s → Good (next x s c)
  unfolding next row_call count_of rows_of row_result
  good-next s c g = go (refusal (row_checks x s.granted c.request s.work c.output)) refl
    where
      -- the session's position is the sum of the granted counts
      at : (p : ℕ) → p ≡ s.granted → (v : Option ℕ) → refusal (row_checks x s.granted c.request s.work c.output) ≡ v →
          row_result x (refusal (row_checks x p c.request s.work c.output)) p c.request s.work c.output ≡ row_result x v s.granted c.request s.work c.output
      at p e v ev = rw (e, ev)

      left : (v : Option ℕ) → RowOutcome → Progress
      left v r = record { position = r.position; work = r.work; granted = s.granted + count_of v c; joined = s.joined ++ rows_of v r }

      room : refusal (row_checks x s.granted c.request s.work c.output) ≡ none → s.granted + c.request ≤ x.source.frame.rows
      room e = (granted-has x s.granted c.request s.work c.output e).within

      after_none : refusal (row_checks x s.granted c.request s.work c.output) ≡ none → Good (left none (row_result x none s.granted c.request s.work c.output))
      after_none e =
          let d = strip-done x.source.frame P lim (plane-bound x.source hf hg) shape s.granted c.request s.work g.ready in
          let z : 0 + s.granted ≡ s.granted = omega arith in
          record {
            position_is = refl;
            within = room e;
            joined_is = ap₂ ◌++◌ g.joined_is (d.rows ∙ ap (λ (k : ℕ). rows_from k c.request x.source.frame.columns (window_sum x.source.frame shape P)) (sym z)) ∙ sym (rows_join 0 s.granted c.request x.source.frame.columns (window_sum x.source.frame shape P));
            ready = d.ready;
          }

      after-some : (k : ℕ) → Good (left (some k) (row_result x (some k) s.granted c.request s.work c.output))
      after-some k =
          let z : s.granted + 0 ≡ s.granted = omega arith in
          record {
            position_is = sym z;
            within = omega (arith, g.within);
            joined_is = rw z (mathlib.Core.List.append-nil s.joined ∙ g.joined_is);
            ready = rw z g.ready;
          }

      go : (v : Option ℕ) → refusal (row_checks x s.granted c.request s.work c.output) ≡ v → Good (next x s c)
      go none e = subst Good (ap₂ left (sym e) (sym (at s.position g.position_is none e))) (after_none e)
      go (some k) e = subst Good (ap₂ left (sym e) (sym (at s.position g.position_is (some k) e))) (after-some k)

  good-after : (calls : List Call) (s : Progress) → Good s → Good (after x s calls)
  unfolding after
  good-after [] s g = g
  good-after (c ∷ cs) s g = good-after cs (next x s c) (good-next s c g)

  agree : (area : List ℤ) → length area ≡ cells x.source.frame → (s : Progress) → Good s → Agreement x area s
  unfolding mean_call variance_call deviation_call voice_call coefficient_call
  agree area e s g = record {
    position_is = g.position_is;
    within = g.within;
    joined_length = ap length g.joined_is ∙ length-rows 0 s.granted x.source.frame.columns (window_sum x.source.frame shape P);
    joined_direct = λ i j hi hj. direct i j hi hj;
    joined_call = λ i j hi hj. direct-answers x i j ok (omega (arith, g.within)) hj ∙ ap answered (sym (direct i j hi hj));
    joined_read = λ i j hi hj. reading i j (omega (arith, g.within)) hj ∙ ap answered (sym (direct i j hi hj));
    work_length = λ i e. ap length (held i e) ∙ length-tabulate x.source.frame.columns (work_value x.source.frame P shape i);
    work_rectangle = λ i j a b e hj is. number i j e hj ∙ ap (λ (t : Shape). work_value x.source.frame P t i j) is ∙ of-rectangle i j a b;
    work_slanted = λ i j o e hj is. number i j e hj ∙ ap (λ (t : Shape). work_value x.source.frame P t i j) is ∙ of-slanted i j o is;
    next_answer = λ c. row-answers x s.position c.request s.work c.output ∙ ap (λ (p : ℕ). outcome (refusal (row_checks x p c.request s.work c.output)) c.request) g.position_is;
    table_direct = λ i j hi hj. reading i j hi hj ∙ sym (direct-answers x i j ok hi hj);
    mean_answers = λ i j hi hj. answers (six_sums x i j) (unless_empty (six_sums x i j) (mean (six_sums x i j))) (never i j hj);
    variance_answers = λ i j hi hj. answers (six_sums x i j) (unless_empty (six_sums x i j) (variance (six_sums x i j))) (never i j hj);
    deviation_answers = λ i j hi hj. answers (six_sums x i j) (unless_empty (six_sums x i j) (pos (deviation (six_sums x i j)))) (never i j hj);
    voice_answers = λ i j hi hj. answers (six_sums x i j) (voice (six_sums x i j)) (never i j hj);
    coefficient_answers = λ i j hi hj. answers (six_sums x i j) (coefficient (six_sums x i j)) (never i j hj);
    coefficient_range = λ i j c hi hj h. coefficient_range (six_sums x i j) c h;
  }
    where
      never : (i j : ℕ) → j < x.source.frame.columns → impossible (six_sums x i j) ≡ false
      never i j hj = sums-possible x hf hg (accepted-has x ok).window (accepted-has x ok).fitting i j hj

      -- the work area after row i
      held : (i : ℕ) → s.granted ≡ suc i → s.work ≡ tabulate x.source.frame.columns (work_value x.source.frame P shape i)
      held i e = subst (λ (n : ℕ). Ready x.source.frame P lim (plane-bound x.source hf hg) shape n s.work) e g.ready

      number : (i j : ℕ) → s.granted ≡ suc i → j < x.source.frame.columns → get_or s.work j (pos 0) ≡ work_value x.source.frame P shape i j
      number i j e hj = ap (λ (l : List ℤ). get_or l j (pos 0)) (held i e) ∙ get_d_tabulate x.source.frame.columns j (work_value x.source.frame P shape i) (pos 0) hj

      of-rectangle : (i j a b : ℕ) → work_value x.source.frame P (rectangle a b) i j ≡ column_sum x.source.frame P a i j
      of-rectangle i j a b = unfold work_value in refl

      of-slanted : (i j : ℕ) (o : Slanted) → shape ≡ slanted o → work_value x.source.frame P (slanted o) i j ≡ direct_sum x i j
      of-slanted i j o is =
          let sums : work_value x.source.frame P (slanted o) i j ≡ window_sum x.source.frame (slanted o) P i j = unfold work_value in refl in
          sums ∙ ap (λ (t : Shape). window_sum x.source.frame t P i j) (sym is) ∙ sym (unfold direct_sum in refl)

      direct : (i j : ℕ) → i < s.granted → j < x.source.frame.columns → get_or s.joined (i * x.source.frame.columns + j) (pos 0) ≡ direct_sum x i j
      direct i j hi hj =
          ap (λ (l : List ℤ). get_or l (i * x.source.frame.columns + j) (pos 0)) g.joined_is
          ∙ get_or-grid s.granted x.source.frame.columns i j (window_sum x.source.frame shape P) (pos 0) hi hj
          ∙ sym (unfold direct_sum in refl)

      reading : (i j : ℕ) → i < x.source.frame.rows → j < x.source.frame.columns → read_call x.source.frame (build_call x.source area).area x.window i j ≡ answered (direct_sum x i j)
      reading i j hi hj =
          ap (λ (t : List ℤ). read_call x.source.frame t x.window i j) (ap (λ (r : Filling). r.area) (build-fills x ok hf hg area e)) ∙ read-answers x ok hf hg i j hi hj

-- demand 3, for every list of calls
pub demand3 : Demand3
demand3 x work area calls ok hf hg e = agree x ok hf hg area e (after x (fresh work) calls) (good-after x ok hf hg calls (fresh work) (good-fresh x ok hf hg work))
