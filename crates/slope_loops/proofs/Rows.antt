-- A row of the padded plane, as it is loaded: the picture's columns, and the cells beside them.
-- Assumes nothing.
use mathlib.Core.Path.{◌≡◌, sym, ◌∙◌, ap}
use Prim.Native.Nat.{ℕ, ◌+◌, ◌-◌, ◌≤◌, ◌<◌}
use native.Mathlib.Omega.{arith}
use native.Mathlib.Decide.{dec_lt}
use mathlib.Core.Bool.{Bool, true, false, not}
use mathlib.Core.List.{List, [], ◌∷◌, ◌++◌, map, map-id}
use lib.Dec.{T, leb, leb→le, le→leb}
use lib.ListN.{length, take, drop, length-map}
use lib.IntN.{ℤ, pos}
use borrow.Rule.Slice.PartMut.{put_mid}
use Rattle.std.specs.List.{CopiedTo, SameBelow, SameFrom, take-map, drop-map}
use Rattle.std.proofs.lemmas.List.{get_or-map, map-append}
use Rattle.numbers.specs.Grid.{tabulate}
use Rattle.numbers.proofs.Grids.{tabulate-cong, length-tabulate}
use Rattle.numbers.proofs.Sums.{pick_yes, pick_no}
use Rattle.numbers.proofs.Writes.{at, tabulate-at, part-before, part-within, part-after, part_length}
use Rattle.spec_picture.specs.declared.Frame.{Frame}
use Rattle.slope_loops.specs.declared.padding.TheConstants.{ABOVE, MARGIN, ROW_LENGTH}
use Rattle.slope_loops.specs.Slopes.{lowered, padded}
use Rattle.slope_loops.specs.Loops.{JoinRequires, Joined, LoadRequires, Loaded}
use Rattle.slope_loops.proofs.Moves.{padded-middle, padded-left, padded-right, padded-round}

-- ---- the picture's columns of a row: the plane has no row above its first
pub lowered-above : (P : ℕ → ℕ → ℤ) (y n columns : ℕ) (part : List ℤ) → y < ABOVE → n ≡ columns → part ≡ tabulate n (λ k. pos 0) → map (λ (v : ℤ). v) part ≡ tabulate columns (lowered P y)
lowered-above P y n columns part h en e =
    map-id part ∙ e ∙ ap (λ (m : ℕ). tabulate m (λ k. pos 0)) en
    ∙ tabulate-cong columns (λ k. pos 0) (lowered P y) (λ k k<. sym (pick_no (leb ABOVE y) (P (y - ABOVE) k) (λ t. omega (arith, leb→le ABOVE y t))))

pub lowered-row : (P : ℕ → ℕ → ℤ) (y columns : ℕ) (part : List ℤ) → ABOVE ≤ y → part ≡ tabulate columns (P (y - ABOVE)) → map (λ (v : ℤ). v) part ≡ tabulate columns (lowered P y)
lowered-row P y columns part h e =
    map-id part ∙ e ∙ tabulate-cong columns (P (y - ABOVE)) (lowered P y) (λ k k<. sym (pick_yes (leb ABOVE y) (P (y - ABOVE) k) (le→leb ABOVE y h)))

-- ---- numbers of any width, by the integers that they stand for
module _ {X : Type 0} (f : X → ℤ) where
  pub map-part : (left count : ℕ) (l part : List X) → map f (put_mid left count l part) ≡ put_mid left count (map f l) (map f part)
  map-part left count l part =
      map-append f (take left l) _ ∙ ap (λ (q : List ℤ). map f (take left l) ++ q) (map-append f part (drop count (drop left l)))
      ∙ ap (λ (q : List ℤ). q ++ (map f part ++ map f (drop count (drop left l)))) (sym (take-map f left l))
      ∙ ap (λ (q : List ℤ). take left (map f l) ++ (map f part ++ q)) (sym (drop-map f count (drop left l)) ∙ ap (drop count) (sym (drop-map f left l)))

  -- a part of a row that was copied to another place, and what is before and after it
  module _ (old now : List X) (from to n : ℕ) (e : length now ≡ length old) where
    pub copied-at : CopiedTo old now from to n → (x : ℕ) → to ≤ x → x < to + n → x < length old → from + (x - to) < length old → at (map f now) x ≡ at (map f old) (from + (x - to))
    copied-at = go old e
      where
        go : (l : List X) → length now ≡ length l → CopiedTo l now from to n → (x : ℕ) → to ≤ x → x < to + n → x < length l → from + (x - to) < length l → at (map f now) x ≡ at (map f l) (from + (x - to))
        go [] e c x h k i j = absurd (omega arith)
        go (d ∷ rest) e c x h k i j = get_or-map f now x d (pos 0) (omega (arith, e)) ∙ ap f (c x d h k) ∙ sym (get_or-map f (d ∷ rest) (from + (x - to)) d (pos 0) j)

    pub below-same : SameBelow old now to → (x : ℕ) → x < to → x < length old → at (map f now) x ≡ at (map f old) x
    below-same = go old e
      where
        go : (l : List X) → length now ≡ length l → SameBelow l now to → (x : ℕ) → x < to → x < length l → at (map f now) x ≡ at (map f l) x
        go [] e c x h i = absurd (omega arith)
        go (d ∷ rest) e c x h i = get_or-map f now x d (pos 0) (omega (arith, e)) ∙ ap f (c x d h) ∙ sym (get_or-map f (d ∷ rest) x d (pos 0) i)

    pub from-same : SameFrom old now (to + n) → (x : ℕ) → to + n ≤ x → x < length old → at (map f now) x ≡ at (map f old) x
    from-same = go old e
      where
        go : (l : List X) → length now ≡ length l → SameFrom l now (to + n) → (x : ℕ) → to + n ≤ x → x < length l → at (map f now) x ≡ at (map f l) x
        go [] e c x h i = absurd (omega arith)
        go (d ∷ rest) e c x h i = get_or-map f now x d (pos 0) (omega (arith, e)) ∙ ap f (c x d h) ∙ sym (get_or-map f (d ∷ rest) x d (pos 0) i)

  -- the last columns are copied to the left, and then the first ones to the right
  pub both-joined : (columns side : ℕ) (old half now : List X) → JoinRequires columns side (map f old) → length half ≡ length old → length now ≡ length half →
      CopiedTo old half (MARGIN + columns - side) (MARGIN - side) (MARGIN + columns - (MARGIN + columns - side)) × SameBelow old half (MARGIN - side) × SameFrom old half (MARGIN - side + (MARGIN + columns - (MARGIN + columns - side))) →
      CopiedTo half now MARGIN (MARGIN + columns) (MARGIN + side - MARGIN) × SameBelow half now (MARGIN + columns) × SameFrom half now (MARGIN + columns + (MARGIN + side - MARGIN)) →
      Joined columns side (map f old) (map f now)
  both-joined columns side old half now r eh en first second =
      let size : length old ≡ ROW_LENGTH = sym (length-map old f) ∙ r.size in
      let halves = λ (x : ℕ) (h : x < MARGIN + columns). below-same half now MARGIN (MARGIN + columns) (MARGIN + side - MARGIN) en second.1 x h (omega (arith, r.few, eh, size)) in
      let old-from = λ (x : ℕ) (h : MARGIN ≤ x) (k : x < MARGIN + columns). from-same old half (MARGIN + columns - side) (MARGIN - side) (MARGIN + columns - (MARGIN + columns - side)) eh first.2 x (omega (arith, r.within)) (omega (arith, r.few, size)) in
      record {
        size = length-map now f ∙ en ∙ eh ∙ size;
        middle = λ x h k. halves x k ∙ old-from x h k;
        left = λ x h k.
            let place : MARGIN + columns - side + (x - (MARGIN - side)) ≡ x + columns = omega (arith, r.within, r.once) in
            halves x (omega arith)
            ∙ copied-at old half (MARGIN + columns - side) (MARGIN - side) (MARGIN + columns - (MARGIN + columns - side)) eh first.0 x (omega (arith, r.within)) (omega (arith, r.within, r.once)) (omega (arith, size)) (omega (arith, r.few, r.within, r.once, size))
            ∙ ap (at (map f old)) place;
        right = λ x h k.
            let place : MARGIN + (x - (MARGIN + columns)) ≡ x - columns = omega arith in
            copied-at half now MARGIN (MARGIN + columns) (MARGIN + side - MARGIN) en second.0 x h (omega arith) (omega (arith, r.few, r.within, eh, size)) (omega (arith, r.few, r.within, eh, size))
            ∙ ap (at (map f half)) place
            ∙ old-from (x - columns) (omega arith) (omega (arith, r.once));
      }

-- ---- the row in its place
module _ (z : Frame) (side : ℕ) (P : ℕ → ℕ → ℤ) (beside : (m n : ℕ) → z.columns ≤ n → P m n ≡ pos 0) (y : ℕ) (buf part : List ℤ) (r : LoadRequires z side buf) (e : part ≡ tabulate z.columns (lowered P y)) where
  abbrev put : List ℤ
  put = put_mid MARGIN (MARGIN + z.columns - MARGIN) buf part

  full : MARGIN + z.columns ≤ length buf
  full = omega (arith, r.few, r.blank.size)

  span : length part ≡ MARGIN + z.columns - MARGIN
  span =
      let l : z.columns ≡ MARGIN + z.columns - MARGIN = omega arith in
      ap length e ∙ length-tabulate z.columns (lowered P y) ∙ l

  pub put-size : length put ≡ ROW_LENGTH
  put-size = part_length MARGIN (MARGIN + z.columns) buf part (omega arith) full span ∙ r.blank.size

  put-middle : (x : ℕ) → MARGIN ≤ x → x < MARGIN + z.columns → at put x ≡ padded z P y x
  put-middle x h k =
      let place : MARGIN + (x - MARGIN) ≡ x = omega arith in
      part-within MARGIN (MARGIN + z.columns) buf part (omega arith) full span x h k
      ∙ tabulate-at part z.columns (lowered P y) e (x - MARGIN) (omega (arith, span))
      ∙ sym (padded-middle z P y (x - MARGIN) (omega arith))
      ∙ ap (padded z P y) place

  -- where columns clip, it stays among zeros
  module _ (clips : T (not z.columns_wrap)) where
    zero-low : (x : ℕ) → x < MARGIN → at put x ≡ pos 0
    zero-low x h = part-before MARGIN (MARGIN + z.columns) buf part (omega arith) full span x h ∙ r.blank.low clips x h

    zero-high : (x : ℕ) → MARGIN + z.columns ≤ x → at put x ≡ pos 0
    zero-high x h = part-after MARGIN (MARGIN + z.columns) buf part (omega arith) full span x h ∙ r.blank.high clips x h

    clipped-at : (x : ℕ) → Dec (x < MARGIN) → Dec (x < MARGIN + z.columns) → at put x ≡ padded z P y x
    clipped-at x (yes a) b = zero-low x a ∙ sym (padded-left z P clips y x a)
    clipped-at x (no a) (yes b) = put-middle x (omega arith) b
    clipped-at x (no a) (no b) = zero-high x (omega arith) ∙ sym (padded-right z P clips beside y x (omega arith))

    pub loaded-clipped : Loaded z side P y put
    loaded-clipped = record {
      blank = record { size = put-size; low = λ c. zero-low; high = λ c. zero-high };
      holds = record { size = put-size; each = λ x h k. clipped-at x (dec_lt x MARGIN) (dec_lt x (MARGIN + z.columns)) };
    }

  -- where they wrap, it has the cells of its other end beside it
  module _ (wraps : T z.columns_wrap) (now : List ℤ) (j : Joined z.columns side put now) where
    wrapped-at : (x : ℕ) → MARGIN ≤ x + side → x < MARGIN + z.columns + side → Dec (x < MARGIN) → Dec (x < MARGIN + z.columns) → at now x ≡ padded z P y x
    wrapped-at x h k (yes a) b =
        j.left x h a ∙ put-middle (x + z.columns) (omega (arith, r.once wraps)) (omega arith) ∙ padded-round z P wraps y x (omega (arith, r.once wraps)) (omega arith)
    wrapped-at x h k (no a) (yes b) = j.middle x (omega arith) b ∙ put-middle x (omega arith) b
    wrapped-at x h k (no a) (no b) =
        let back : x - z.columns + z.columns ≡ x = omega arith in
        j.right x (omega arith) k ∙ put-middle (x - z.columns) (omega arith) (omega (arith, r.once wraps))
        ∙ sym (padded-round z P wraps y (x - z.columns) (omega arith) (omega (arith, r.once wraps))) ∙ ap (padded z P y) back

    clip-not : (b : Bool) → T b → T (not b) → ⊥
    clip-not true t n = n
    clip-not false t n = t

    pub loaded-wrapped : Loaded z side P y now
    loaded-wrapped = record {
      blank = record { size = j.size; low = λ c. absurd (clip-not z.columns_wrap wraps c); high = λ c. absurd (clip-not z.columns_wrap wraps c) };
      holds = record { size = j.size; each = λ x h k. wrapped-at x h k (dec_lt x MARGIN) (dec_lt x (MARGIN + z.columns)) };
    }
