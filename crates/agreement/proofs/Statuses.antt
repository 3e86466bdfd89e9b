-- The status that C has of an operation is the number of the first check whose condition holds, 0 for none, and no check of its list has the number 0.
-- Assumes nothing.
use mathlib.Core.Path.{◌≡◌, refl, ◌∙◌, ap}
use Prim.Native.Nat.{ℕ}
use mathlib.Core.List.{List}
use mathlib.Core.Option.{Option, none, some}
use lib.Dec.{T}
use lib.IntN.{ℤ, pos, negsuc}
use Rattle.spec_picture.specs.Refusal.{Check, Outcome, refusal, outcome, filling}
use Rattle.spec_picture.specs.declared.Window.{Window}
use Rattle.spec_picture.specs.declared.Frame.{Frame}
use Rattle.spec_picture.specs.declared.Shift.{Shift}
use Rattle.spec_picture.specs.Picture.{Inputs, Source}
use Rattle.spec_picture.specs.Direct.{direct_checks, direct_call}
use Rattle.spec_table.specs.Table.{build_checks, build_call, read_checks, read_call}
use Rattle.spec_rows.specs.Rows.{row_checks, row_call}
use Rattle.spec_rows.proofs.Calls.{row-answers}
use Rattle.spec_smoothing.specs.Smoothing.{smooth_checks, smooth_call}
use Rattle.spec_smoothing.specs.Steady.{steady_checks, steady_call}
use Rattle.spec_c.specs.CResult.{with_value, status, c_result, of_option, of_cell}
use Rattle.agreement.specs.Numbers.{number_of, NumberedBy, refusal_status}
use Rattle.agreement.proofs.Numbers.{numbered, number-0}

-- ---- any list of checks
-- a call that always has a value
pub status-number : {A : Type 0} (r : Option ℕ) (a : A) → status (c_result with_value (outcome r a)) ≡ pos (number_of r)
unfolding status c_result outcome number_of
status-number none a = refl
status-number (some n) a = refl

-- the same of a call that fills an area
pub filling-number : (r : Option ℕ) (old new : List ℤ) → status (c_result with_value (filling r old new).answer) ≡ pos (number_of r)
unfolding status c_result filling number_of
filling-number none old new = refl
filling-number (some n) old new = refl

-- an answer that may have no value has a status below 0 then
pub option-number : {A : Type 0} (below : ℕ) (r : Option ℕ) (a : Option A) → refusal_status (status (c_result (of_option (negsuc below)) (outcome r a))) ≡ pos (number_of r)
unfolding status c_result outcome number_of refusal_status
option-number below none none = refl
option-number below none (some a) = refl
option-number below (some n) a = refl

-- a status that is this number accepts by `number-0`
numbers : (checks : List Check) (s : ℤ) → T (numbered checks) → s ≡ pos (number_of (refusal checks)) → NumberedBy checks s
numbers checks s t e = record { number_is = e; zero_accepts = λ h. number-0 checks t (cc (e, h)) }

-- ---- the six operations, each with its list of checks
pub direct-numbered : (x : Inputs) (i j : ℕ) → T (numbered (direct_checks x i j))
direct-numbered x i j = tt

pub direct-status : (x : Inputs) (i j : ℕ) (s : ℤ) → s ≡ status (c_result with_value (direct_call x i j)) → NumberedBy (direct_checks x i j) s
unfolding direct_call
direct-status x i j s e = numbers (direct_checks x i j) s (direct-numbered x i j) (e ∙ status-number (refusal (direct_checks x i j)) _)

pub build-numbered : (x : Source) (area : List ℤ) → T (numbered (build_checks x area))
build-numbered x area = tt

pub build-status : (x : Source) (area : List ℤ) (s : ℤ) → s ≡ status (c_result with_value (build_call x area).answer) → NumberedBy (build_checks x area) s
unfolding build_call
build-status x area s e = numbers (build_checks x area) s (build-numbered x area) (e ∙ filling-number (refusal (build_checks x area)) area _)

pub read-numbered : (z : Frame) (t : List ℤ) (w : Window) (i j : ℕ) → T (numbered (read_checks z t w i j))
read-numbered z t w i j = tt

pub read-status : (z : Frame) (t : List ℤ) (w : Window) (i j : ℕ) (s : ℤ) → s ≡ status (c_result with_value (read_call z t w i j)) → NumberedBy (read_checks z t w i j) s
unfolding read_call
read-status z t w i j s e = numbers (read_checks z t w i j) s (read-numbered z t w i j) (e ∙ status-number (refusal (read_checks z t w i j)) _)

pub rows-numbered : (x : Inputs) (position request : ℕ) (work output : List ℤ) → T (numbered (row_checks x position request work output))
rows-numbered x position request work output = tt

pub rows-status : (x : Inputs) (position request : ℕ) (work output : List ℤ) (s : ℤ) → s ≡ status (c_result with_value (row_call x position request work output).answer) →
    NumberedBy (row_checks x position request work output) s
rows-status x position request work output s e =
    numbers (row_checks x position request work output) s (rows-numbered x position request work output)
    (e ∙ ap (λ (o : Outcome ℕ). status (c_result with_value o)) (row-answers x position request work output) ∙ status-number (refusal (row_checks x position request work output)) request)

pub smooth-numbered : (z : Frame) (f : List ℤ) (w : Window) (output : List ℤ) → T (numbered (smooth_checks z f w output))
smooth-numbered z f w output = tt

pub smooth-status : (z : Frame) (f : List ℤ) (w : Window) (output : List ℤ) (s : ℤ) → s ≡ status (c_result with_value (smooth_call z f w output).answer) → NumberedBy (smooth_checks z f w output) s
unfolding smooth_call
smooth-status z f w output s e = numbers (smooth_checks z f w output) s (smooth-numbered z f w output) (e ∙ filling-number (refusal (smooth_checks z f w output)) output _)

pub steady-numbered : (z : Frame) (f g : List ℤ) (w : Window) (d : Shift) → T (numbered (steady_checks z f g w d))
steady-numbered z f g w d = tt

pub steady-status : (z : Frame) (f g : List ℤ) (w : Window) (d : Shift) (s : ℤ) → s ≡ status (c_result of_cell (steady_call z f g w d)) → NumberedBy (steady_checks z f g w d) (refusal_status s)
unfolding steady_call
steady-status z f g w d s e = numbers (steady_checks z f g w d) (refusal_status s) (steady-numbered z f g w d) (ap refusal_status e ∙ option-number 2 (refusal (steady_checks z f g w d)) _)
