-- What the types of checked inputs say, as facts about the records that definitions use.
-- Assumes nothing.
use mathlib.Core.Path.{◌≡◌, sym}
use mathlib.Core.List.{List}
use mathlib.Core.Option.{none}
use lib.Dec.{T, eqb, eqb→eq}
use lib.ListN.{length}
use lib.IntN.{ℤ}
use Rattle.numbers.proofs.Tests.{of-not}
use Rattle.spec_picture.specs.declared.Frame.{Frame}
use Rattle.spec_picture.specs.Refusal.{refusal}
use Rattle.spec_picture.specs.Conditions.{picture_checks}
use Rattle.spec_picture.proofs.Refusals.{InLimits, in-limits, none-head, none_rest}
use Rattle.spec_picture.specs.Frame.{frame_legal, cells}
use Rattle.spec_picture.specs.Window.{window_legal, fits}
use Rattle.spec_picture.specs.Picture.{Inputs, Levels}
use Rattle.spec_picture.specs.declared.checked.CheckedSource.{CheckedSource}
use Rattle.spec_picture.specs.declared.checked.CheckedInputs.{CheckedInputs}
use Rattle.spec_picture.specs.Checked.{checked_inputs}

-- pictures that pass 1 and 2
pub record Lengths (z : Frame) (f g : List ℤ) : Type 0 where
  pub frame : T (frame_legal z)
  pub length_f : length f ≡ cells z
  pub length_g : length g ≡ cells z

pub lengths : (z : Frame) (f g : List ℤ) → none ≡ refusal (picture_checks z f g) → Lengths z f g
lengths z f g e =
    let one = sym e in
    let two = none_rest 1 _ _ one in
    record {
      frame = of-not (frame_legal z) (none-head 1 _ _ one);
      length_f = eqb→eq (length f) (cells z) (of-not (eqb (length f) (cells z)) (none-head 2 _ _ two));
      length_g = eqb→eq (length g) (cells z) (of-not (eqb (length g) (cells z)) (none-head 2 _ _ (none_rest 2 _ _ two)));
    }

-- pictures of levels, of a legal frame, and a legal window that fits it
pub record Checked (x : Inputs) : Type 0 where
  pub frame : T (frame_legal x.source.frame)
  pub length_f : length x.source.f ≡ cells x.source.frame
  pub length_g : length x.source.g ≡ cells x.source.frame
  pub levels_f : Levels x.source.f
  pub levels_g : Levels x.source.g
  pub window : T (window_legal x.window)
  pub fitting : T (fits x.source.frame x.window)

pub checked : (x : CheckedInputs) → Checked (checked_inputs x)
checked x =
    let s = x.source in
    record { frame = s.legal; length_f = s.length_f; length_g = s.length_g; levels_f = s.levels_f; levels_g = s.levels_g; window = x.window.legal; fitting = x.fitting }

pub limits : (x : CheckedSource) → InLimits x.frame
limits x = in-limits x.frame x.legal
