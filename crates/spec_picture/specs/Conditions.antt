-- "When a call is turned down": the numbered conditions 1 to 8 and 11, each a test on its inputs. (9 is in `spec_statistics`, 10 in `spec_panel`.)
-- Assumes nothing.
use Rattle.std.specs.Prelude.{◌≡◌, ℕ, ◌-◌, not, ◌&&◌, ◌||◌, List, [], ◌∷◌, ◌++◌, ltb, eqb, length, ℤ}
use Rattle.std.proofs.Math.Option.{none}
use Rattle.spec_picture.specs.Refusal.{Check, ◌when◌, refusal}
use Rattle.spec_picture.specs.declared.Window.{Window}
use Rattle.spec_picture.specs.Window.{window_legal, fits}
use Rattle.spec_picture.specs.declared.Frame.{Frame}
use Rattle.spec_picture.specs.Frame.{frame_legal, cells}
use Rattle.spec_picture.specs.declared.Shift.{Shift}
use Rattle.spec_picture.specs.Picture.{Inputs, shift_legal}

-- 1, "rows or columns beyond limits"
abbrev pub check1 : Frame → Check
check1 z = 1 when not (frame_legal z)

-- 2, "a picture's length is not rows times columns"
abbrev pub check2 : Frame → List ℤ → Check
check2 z f = 2 when not (eqb (length f) (cells z))

-- 3, "shape not 1 to 3, or window numbers other than its shape allows"
abbrev pub check3 : Window → Check
check3 w = 3 when not (window_legal w)

-- 4, "shift beyond limits"
abbrev pub check4 : Shift → Check
check4 d = 4 when not (shift_legal d)

-- 5, "plane above 5"
abbrev pub check5 : ℕ → Check
check5 p = 5 when ltb 5 p

-- 11, "widest row above columns with the switch on, checked after 5"
abbrev pub check11 : Frame → Window → Check
check11 z w = 11 when not (fits z w)

-- 6, "cell outside the picture"
abbrev pub check6 : Frame → ℕ → ℕ → Check
check6 z i j = 6 when not (ltb i z.rows && ltb j z.columns)

-- 7, "position above rows, or request above rows minus position"
abbrev pub check7 : Frame → ℕ → ℕ → Check
check7 z position request = 7 when (ltb z.rows position || ltb (z.rows - position) request)

-- 8, "table, work or output area of another length"
abbrev pub check8 : ℕ → ℕ → Check
check8 wanted given = 8 when not (eqb given wanted)

-- a frame and two pictures of it: 1, and 2 for each
abbrev pub picture_checks : Frame → (f g : List ℤ) → List Check
picture_checks z f g = check1 z ∷ check2 z f ∷ check2 z g ∷ []

-- demand 3: "of the row call's numbered conditions, [those that look] at them alone": 1 to 5, and 11
abbrev pub input_checks : Inputs → List Check
input_checks x =
    let s = x.source in
    picture_checks s.frame s.f s.g ++ (check3 x.window ∷ check4 s.shift ∷ check5 s.plane ∷ check11 s.frame x.window ∷ [])

-- "they are accepted when .. none that looks at them alone holds"
abbrev pub accepted : Inputs → Type 0
accepted x = refusal (input_checks x) ≡ none
