-- The laws of refusals, and what accepted inputs have.
-- Assumes nothing.
use mathlib.Core.Path.{◌≡◌, refl, sym, ◌∙◌}
use Prim.Native.Nat.{ℕ, ◌≤◌, ◌<◌}
use mathlib.Core.Bool.{Bool, true, false, not, ◌&&◌}
use mathlib.Core.List.{List, [], ◌∷◌, ◌++◌}
use mathlib.Core.Option.{Option, none, some}
use lib.Dec.{T, leb, ltb, eqb, leb→le, ltb→lt, eqb→eq, eqb_refl, lt→ltb}
use lib.ListN.{length}
use lib.IntN.{ℤ}
use Rattle.numbers.proofs.Tests.{off, and_left, and_right, and_both, of-not, not-of}
use Rattle.spec_picture.specs.Refusal.{Check, ◌when◌, refused, answered, refusal, outcome, filling, numbers_of}
use Rattle.std.specs.Prelude.{Result, Ok, Err, IsErrAnd}
use Rattle.spec_picture.specs.declared.Refusal.{Refusal}
use Rattle.spec_picture.specs.Answers.{number, outcome_by}
use Rattle.spec_picture.specs.Window.{window_legal, fits}
use Rattle.spec_picture.specs.declared.Frame.{Frame}
use Rattle.spec_picture.specs.Frame.{frame_legal, cells, Within}
use Rattle.spec_picture.specs.Picture.{Inputs, shift_legal}
use Rattle.spec_picture.specs.Shape.{is_shape}
use Rattle.spec_picture.specs.Conditions.{input_checks, accepted, check5, check6}
use Rattle.spec_picture.specs.Direct.{direct_sum, direct_checks, direct_call}

-- ---- the first check whose condition holds
-- the call is refused here
pub stop : (n : ℕ) (c : Bool) (rest : List Check) → T c → refusal ((n when c) ∷ rest) ≡ some n
unfolding refusal
stop n true rest t = refl
stop n false rest t = absurd t

-- the check is passed
pub pass : (n : ℕ) (c : Bool) (rest : List Check) → c ≡ false → refusal ((n when c) ∷ rest) ≡ refusal rest
unfolding refusal
pass n true rest e = cc
pass n false rest e = refl

pub no-checks : refusal [] ≡ none
unfolding refusal
no-checks = refl

-- where the call is accepted, the first check is passed, and so are the rest
pub none-head : (n : ℕ) (c : Bool) (rest : List Check) → refusal ((n when c) ∷ rest) ≡ none → c ≡ false
unfolding refusal
none-head n true rest e = cc
none-head n false rest e = refl

pub none_rest : (n : ℕ) (c : Bool) (rest : List Check) → refusal ((n when c) ∷ rest) ≡ none → refusal rest ≡ none
unfolding refusal
none_rest n true rest e = cc
none_rest n false rest e = e

pub pass_all : (before after : List Check) → refusal before ≡ none → refusal (before ++ after) ≡ refusal after
pass_all [] after e = refl
pass_all ((n when c) ∷ rest) after e = pass n c (rest ++ after) (none-head n c rest e) ∙ pass_all rest after (none_rest n c rest e)

-- ---- the first refusal, as code finds it: check by check, each a `Result`
stop-all : (n : ℕ) (before after : List Check) → refusal before ≡ some n → refusal (before ++ after) ≡ some n
unfolding refusal
stop-all n [] after e = cc
stop-all n ((m when true) ∷ rest) after e = e
stop-all n ((m when false) ∷ rest) after e = stop-all n rest after e

pub sound : (n : ℕ) (s b : Bool) → s ≡ b → none ≡ refusal ((n when not s) ∷ []) → T b
sound n s b e h = rw (sym e) (of-not s (none-head n (not s) [] (sym h)))

-- a check that code found unsound, by whatever test
pub unsound : (n : ℕ) (s : Bool) (m : ℕ) → some m ≡ refusal ((n when not s) ∷ []) → T (not s) × (m ≡ n)
unfolding refusal
unsound n true m h = cc
unsound n false m h = (tt, cc)

-- the outcome
pub outcome-none : {A : Type 0} (r : Option ℕ) (a : A) → r ≡ none → outcome r a ≡ answered a
unfolding outcome
outcome-none none a e = refl
outcome-none (some n) a e = cc

pub outcome-some : {A : Type 0} (r : Option ℕ) (a : A) (n : ℕ) → r ≡ some n → outcome r a ≡ refused n
unfolding outcome
outcome-some none a n e = cc
outcome-some (some m) a n e = cc

-- code that answers what it has checked: a refusal, and the result
pub refuses : {A B : Type 0} (f : A → B) (r : Result A Refusal) (e : Refusal) (checks : List Check) (b : B) → some (number e) ≡ refusal checks → IsErrAnd r (λ y. y ≡ e) → outcome_by f r ≡ outcome (refusal checks) b
refuses f (Ok a) e checks b h q = absurd q
refuses f (Err y) e checks b h q = rw q (sym (outcome-some (refusal checks) b (number e) (sym h)))

pub answers : {B : Type 0} (a b : B) (checks : List Check) → none ≡ refusal checks → a ≡ b → answered a ≡ outcome (refusal checks) b
answers a b checks h e = rw e (sym (outcome-none (refusal checks) b (sym h)))

-- and what such an answer tells
pub refused-has : {B : Type 0} (r : Option ℕ) (b : B) (n : ℕ) → refused n ≡ outcome r b → some n ≡ r
unfolding outcome
refused-has none b n e = cc
refused-has (some m) b n e = cc

pub answered-has : {B : Type 0} (r : Option ℕ) (a b : B) → answered a ≡ outcome r b → (none ≡ r) × (a ≡ b)
unfolding outcome
answered-has none a b e = (refl, cc)
answered-has (some m) a b e = cc

-- a plane by its number
pub plane-accepted : (n k : ℕ) → n ≡ k → ltb 5 k ≡ false → answered k ≡ outcome (refusal (check5 n ∷ [])) n
plane-accepted n k e h = rw e (sym (outcome-none (refusal (check5 k ∷ [])) k (pass 5 (ltb 5 k) [] h ∙ no-checks)))

pub plane-refused : (n : ℕ) → 5 < n → refused 5 ≡ outcome (refusal (check5 n ∷ [])) n
plane-refused n h = sym (outcome-some (refusal (check5 n ∷ [])) n 5 (stop 5 (ltb 5 n) [] (lt→ltb 5 n h)))

-- a shape by its number
pub shape-accepted : (n k : ℕ) → n ≡ k → not (is_shape k) ≡ false → answered k ≡ outcome (refusal ((3 when not (is_shape n)) ∷ [])) n
shape-accepted n k e h = rw e (sym (outcome-none (refusal ((3 when not (is_shape k)) ∷ [])) k (pass 3 (not (is_shape k)) [] h ∙ no-checks)))

pub shape-refused : (n : ℕ) → ((1 ≤ n) × (n ≤ 3) → ⊥) → refused 3 ≡ outcome (refusal ((3 when not (is_shape n)) ∷ [])) n
shape-refused n h =
    let none : is_shape n ≡ false = off (is_shape n) (λ t. h (leb→le 1 n (and_left (leb 1 n) (leb n 3) t), leb→le n 3 (and_right (leb 1 n) (leb n 3) t))) in
    sym (outcome-some (refusal ((3 when not (is_shape n)) ∷ [])) n 3 (stop 3 (not (is_shape n)) [] (rw none tt)))

-- a call that is accepted passes both groups
pub none_before : (before after : List Check) → refusal (before ++ after) ≡ none → refusal before ≡ none
none_before [] after e = no-checks
none_before ((n when c) ∷ rest) after e =
    pass n c rest (none-head n c (rest ++ after) e) ∙ none_before rest after (none_rest n c (rest ++ after) e)

pub none_after : (before after : List Check) → refusal (before ++ after) ≡ none → refusal after ≡ none
none_after before after e = sym (pass_all before after (none_before before after e)) ∙ e

-- ---- the answer
pub filling-none : (r : Option ℕ) (old new : List ℤ) → r ≡ none → filling r old new ≡ record { answer = answered tt; area = new }
unfolding filling
filling-none none old new e = refl
filling-none (some n) old new e = cc

pub filling-some : (r : Option ℕ) (old new : List ℤ) (n : ℕ) → r ≡ some n → filling r old new ≡ record { answer = refused n; area = old }
unfolding filling
filling-some none old new n e = cc
filling-some (some m) old new n e = cc

-- ---- limits
pub record InLimits (z : Frame) : Type 0 where
  pub some_rows : 1 ≤ z.rows
  pub few_rows : z.rows ≤ 256
  pub some_columns : 1 ≤ z.columns
  pub few_columns : z.columns ≤ 1024

pub in-limits : (z : Frame) → T (frame_legal z) → InLimits z
unfolding frame_legal
in-limits z t =
    let a = leb 1 z.rows in
    let b = leb z.rows 256 in
    let c = leb 1 z.columns in
    let d = leb z.columns 1024 in
    let abc = and_left (a && b && c) d t in
    let ab = and_left (a && b) c abc in
    record {
      some_rows = leb→le 1 z.rows (and_left a b ab);
      few_rows = leb→le z.rows 256 (and_right a b ab);
      some_columns = leb→le 1 z.columns (and_right (a && b) c abc);
      few_columns = leb→le z.columns 1024 (and_right (a && b && c) d t);
    }

-- ---- single checks that are passed
pub length-passes : (n m : ℕ) → n ≡ m → not (eqb n m) ≡ false
length-passes n m e = rw e (not-of (eqb m m) (eqb_refl m))

pub cell-passes : (z : Frame) (i j : ℕ) → i < z.rows → j < z.columns → not (ltb i z.rows && ltb j z.columns) ≡ false
cell-passes z i j hi hj =
    not-of (ltb i z.rows && ltb j z.columns) (and_both (ltb i z.rows) (ltb j z.columns) (lt→ltb i z.rows hi) (lt→ltb j z.columns hj))

-- ---- what accepted inputs have
pub record Accepted (x : Inputs) : Type 0 where
  pub frame : T (frame_legal x.source.frame)
  pub length_f : length x.source.f ≡ cells x.source.frame
  pub length_g : length x.source.g ≡ cells x.source.frame
  pub window : T (window_legal x.window)
  pub shift : T (shift_legal x.source.shift)
  pub plane : ltb 5 x.source.plane ≡ false
  pub fitting : T (fits x.source.frame x.window)

pub accepted-has : (x : Inputs) → accepted x → Accepted x
accepted-has x e1 =
    let s = x.source in
    let c1 = not (frame_legal s.frame) in
    let cf = not (eqb (length s.f) (cells s.frame)) in
    let cg = not (eqb (length s.g) (cells s.frame)) in
    let c3 = not (window_legal x.window) in
    let c4 = not (shift_legal s.shift) in
    let c5 = ltb 5 s.plane in
    let c11 = not (fits s.frame x.window) in
    let r11 = (11 when c11) ∷ [] in
    let r5 = (5 when c5) ∷ r11 in
    let r4 = (4 when c4) ∷ r5 in
    let r3 = (3 when c3) ∷ r4 in
    let rg = (2 when cg) ∷ r3 in
    let rf = (2 when cf) ∷ rg in
    let ef = none_rest 1 c1 rf e1 in
    let eg = none_rest 2 cf rg ef in
    let e3 = none_rest 2 cg r3 eg in
    let e4 = none_rest 3 c3 r4 e3 in
    let e5 = none_rest 4 c4 r5 e4 in
    let e11 = none_rest 5 c5 r11 e5 in
    record {
      frame = of-not (frame_legal s.frame) (none-head 1 c1 rf e1);
      length_f = eqb→eq (length s.f) (cells s.frame) (of-not (eqb (length s.f) (cells s.frame)) (none-head 2 cf rg ef));
      length_g = eqb→eq (length s.g) (cells s.frame) (of-not (eqb (length s.g) (cells s.frame)) (none-head 2 cg r3 eg));
      window = of-not (window_legal x.window) (none-head 3 c3 r4 e3);
      shift = of-not (shift_legal s.shift) (none-head 4 c4 r5 e4);
      plane = none-head 5 c5 r11 e5;
      fitting = of-not (fits s.frame x.window) (none-head 11 c11 [] e11);
    }

-- "Checks run in number order, each where the call has that input": the direct sum has 1 to 5, 2 for each picture, then 11 and 6
pub direct-order : (x : Inputs) (i j : ℕ) → numbers_of (direct_checks x i j) ≡ 1 ∷ 2 ∷ 2 ∷ 3 ∷ 4 ∷ 5 ∷ 11 ∷ 6 ∷ []
unfolding numbers_of
direct-order x i j = refl

-- the direct call answers with the direct sum at every cell of the picture
pub direct-answers : (x : Inputs) (i j : ℕ) → accepted x → i < x.source.frame.rows → j < x.source.frame.columns → direct_call x i j ≡ answered (direct_sum x i j)
unfolding direct_call
direct-answers x i j e hi hj =
    let z = x.source.frame in
    outcome-none (refusal (direct_checks x i j)) (direct_sum x i j)
    (pass_all (input_checks x) (check6 z i j ∷ []) e
    ∙ pass 6 (not (ltb i z.rows && ltb j z.columns)) [] (cell-passes z i j hi hj)
    ∙ no-checks)

pub cell-inside : (z : Frame) (i j : ℕ) → not (ltb i z.rows && ltb j z.columns) ≡ false → Within z i j
cell-inside z i j e =
    let t = of-not (ltb i z.rows && ltb j z.columns) e in
    record { row = ltb→lt i z.rows (and_left (ltb i z.rows) (ltb j z.columns) t); column = ltb→lt j z.columns (and_right (ltb i z.rows) (ltb j z.columns) t) }

pub direct-accepted : (x : Inputs) (i j : ℕ) → refusal (direct_checks x i j) ≡ none → accepted x × Within x.source.frame i j
direct-accepted x i j accepted-call =
    let z = x.source.frame in (
      none_before (input_checks x) (check6 z i j ∷ []) accepted-call,
      cell-inside z i j (none-head 6 (not (ltb i z.rows && ltb j z.columns)) [] (none_after (input_checks x) (check6 z i j ∷ []) accepted-call)),
    )
