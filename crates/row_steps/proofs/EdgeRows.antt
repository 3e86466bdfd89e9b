-- The columns at one distance, added to a work area by shifted rows; and all distances together.
-- Assumes nothing.
use mathlib.Core.Path.{◌≡◌, refl, sym, ◌∙◌, ap, ap₂}
use Prim.Native.Nat.{ℕ, suc, ◌+◌, ◌-◌, ◌≤◌, ◌<◌, min}
use native.Mathlib.Omega.{arith}
use native.Mathlib.Decide.{dec_lt}
use native.Mathlib.Numerals.{one-add}
use mathlib.Core.Bool.{Bool, true, false}
use mathlib.Core.List.{List}
use lib.Dec.{T, leb, ltb, leb→le, ltb→lt, le→leb, lt→ltb}
use lib.ListN.{length, take, drop}
use lib.Seq.{get_or-take, get_or-drop}
use lib.IntN.{ℤ, pos, ◌+ℤ◌, +ℤ_assoc, +ℤ_idl, +ℤ_idr}
use borrow.Rule.Slice.PartMut.{put_mid}
use Rattle.numbers.specs.Sum.{sum_to, pick}
use Rattle.numbers.specs.Grid.{tabulate}
use Rattle.numbers.specs.Wrap.{wrap}
use Rattle.numbers.proofs.Grids.{tabulate-cong, get_d_tabulate, length-tabulate}
use Rattle.numbers.proofs.Linear.{any, sums, ring}
use Rattle.numbers.proofs.Sums.{sum-suc, sum-cong, sum-split, pick_yes, pick_no}
use Rattle.numbers.proofs.Wraps.{wrap-add, wrap-add-right, wrap-fits, sfits-wrap}
use Rattle.numbers.proofs.Writes.{at, is-tabulate, tabulate-at, part-before, part-within, part-after, part_length, slice_at}
use Rattle.spec_picture.specs.declared.Frame.{Frame}
use Rattle.spec_picture.specs.Frame.{Apart}
use Rattle.spec_picture.specs.Sides.{at_both}
use Rattle.spec_picture.specs.Window.{Shape, Slanted, slanted, width, depth}
use Rattle.spec_rows.specs.Rows.{enter_leave, work_change, work_after}
use Rattle.spec_rows.specs.Distances.{at_distance}
use Rattle.spec_rows.proofs.Distances.{at-distance-some, near-distances}
use Rattle.row_steps.specs.Edges.{edge_change, edges_to}
use Rattle.std.proofs.lemmas.List.{get_or_past}

wrap-twice : (x : ℤ) → wrap (wrap x) ≡ wrap x
wrap-twice x = wrap-fits (wrap x) (sfits-wrap x)

-- ---- a work area to which rows are added part by part: `now` is `work` and G, wrapped
pub record Summed (n : ℕ) (work now : List ℤ) (G : ℕ → ℤ) : Type 0 where
  pub size : length now ≡ n
  pub sums : (j : ℕ) → j < n → at now j ≡ wrap (at work j +ℤ G j)

pub summed-none : (n : ℕ) (work : List ℤ) → length work ≡ n → ((j : ℕ) → wrap (at work j) ≡ at work j) → Summed n work work (λ j. pos 0)
summed-none n work room wrapped = record { size = room; sums = λ j j<. sym (ap wrap (+ℤ_idr (at work j)) ∙ wrapped j) }

-- to the places from lo up to hi values are added that are D there, which is 0 elsewhere
module _ {n : ℕ} {work now : List ℤ} {G : ℕ → ℤ} (u : Summed n work now G) (lo hi m : ℕ) (o : lo ≤ hi) (h : hi ≤ n) (part values : List ℤ) (D : ℕ → ℤ)
    (e : part ≡ tabulate m (λ k. wrap (at (take (hi - lo) (drop lo now)) k +ℤ at values k))) (l : length part ≡ hi - lo)
    (here : (k : ℕ) → k < hi - lo → at values k ≡ wrap (D (lo + k))) (before : (j : ℕ) → j < lo → D j ≡ pos 0) (after : (j : ℕ) → j < n → hi ≤ j → D j ≡ pos 0) where
  kept : (j : ℕ) → j < n → D j ≡ pos 0 → at now j ≡ wrap (at work j +ℤ (G j +ℤ D j))
  kept j j< d = u.sums j j< ∙ sym (ap (λ (x : ℤ). wrap (at work j +ℤ (G j +ℤ x))) d ∙ ap (λ (x : ℤ). wrap (at work j +ℤ x)) (+ℤ_idr (G j)))

  sums-at : (j : ℕ) → j < n → Dec (j < lo) → Dec (j < hi) → at (put_mid lo (hi - lo) now part) j ≡ wrap (at work j +ℤ (G j +ℤ D j))
  sums-at j j< (yes b) c = part-before lo hi now part o (omega (arith, u.size)) l j b ∙ kept j j< (before j b)
  sums-at j j< (no b) (no c) = part-after lo hi now part o (omega (arith, u.size)) l j (omega arith) ∙ kept j j< (after j j< (omega arith))
  sums-at j j< (no b) (yes c) =
      let place : lo + (j - lo) ≡ j = omega arith in
      part-within lo hi now part o (omega (arith, u.size)) l j (omega arith) c
      ∙ tabulate-at part m _ e (j - lo) (omega arith)
      ∙ ap₂ (λ (x y : ℤ). wrap (x +ℤ y))
      (slice_at lo hi now o (omega (arith, u.size)) (j - lo) (omega arith) ∙ ap (at now) place ∙ u.sums j j<)
      (here (j - lo) (omega arith) ∙ ap (λ (k : ℕ). wrap (D k)) place)
      ∙ wrap-add-right (wrap (at work j +ℤ G j)) (D j) ∙ wrap-add (at work j +ℤ G j) (D j) ∙ ap wrap (+ℤ_assoc (at work j) (G j) (D j))

  pub summed-more : Summed n work (put_mid lo (hi - lo) now part) (λ j. G j +ℤ D j)
  summed-more = record { size = part_length lo hi now part o (omega (arith, u.size)) l ∙ u.size; sums = λ j j<. sums-at j j< (dec_lt j lo) (dec_lt j hi) }

-- ---- one distance: the columns on either side, along the row and past its ends
module _ (columns c : ℕ) (few : c < columns) (change : List ℤ) (F : ℕ → ℤ) (changes : (k : ℕ) → k < columns → at change k ≡ wrap (F k))
    {work now : List ℤ} {G : ℕ → ℤ} (u : Summed columns work now G) (m : ℕ) (part : List ℤ) where
  shown : (b : Bool) (x y : ℤ) → T b → x ≡ y → wrap x ≡ wrap (pick b y)
  shown b x y t e = ap wrap (e ∙ sym (pick_yes b y t))

  -- the columns c before
  pub summed-left : part ≡ tabulate m (λ k. wrap (at (take (columns - c) (drop c now)) k +ℤ at (take (columns - c) change) k)) → length part ≡ columns - c →
      Summed columns work (put_mid c (columns - c) now part) (λ j. G j +ℤ pick (leb c j) (F (j - c)))
  summed-left e l =
      summed-more u c columns m (omega arith) (omega arith) part (take (columns - c) change) (λ j. pick (leb c j) (F (j - c))) e l
      (λ k k<.
      let place : k ≡ c + k - c = omega arith in
      get_or-take (columns - c) change k (pos 0) k< ∙ changes k (omega arith) ∙ shown (leb c (c + k)) (F k) (F (c + k - c)) (le→leb c (c + k) (omega arith)) (ap F place))
      (λ j b. pick_no (leb c j) (F (j - c)) (λ t. omega (arith, leb→le c j t)))
      (λ j j< b. absurd (omega arith))

  -- the columns c after
  pub summed-right : part ≡ tabulate m (λ k. wrap (at (take (columns - c - 0) (drop 0 now)) k +ℤ at (take (columns - c) (drop c change)) k)) → length part ≡ columns - c - 0 →
      Summed columns work (put_mid 0 (columns - c - 0) now part) (λ j. G j +ℤ pick (ltb (j + c) columns) (F (j + c)))
  summed-right e l =
      summed-more u 0 (columns - c) m (omega arith) (omega arith) part (take (columns - c) (drop c change)) (λ j. pick (ltb (j + c) columns) (F (j + c))) e l
      (λ k k<.
      let place : c + k ≡ 0 + k + c = omega arith in
      get_or-take (columns - c) (drop c change) k (pos 0) (omega arith) ∙ get_or-drop c change k (pos 0) ∙ changes (c + k) (omega arith)
      ∙ shown (ltb (0 + k + c) columns) (F (c + k)) (F (0 + k + c)) (lt→ltb (0 + k + c) columns (omega arith)) (ap F place))
      (λ j b. absurd (omega arith))
      (λ j j< b. pick_no (ltb (j + c) columns) (F (j + c)) (λ t. omega (arith, ltb→lt (j + c) columns t)))

  -- the columns c before, at the end of the row
  pub summed-end : part ≡ tabulate m (λ k. wrap (at (take (c - 0) (drop 0 now)) k +ℤ at (take (columns - (columns - c)) (drop (columns - c) change)) k)) → length part ≡ c - 0 →
      Summed columns work (put_mid 0 (c - 0) now part) (λ j. G j +ℤ pick (ltb j c) (F (columns - (c - j))))
  summed-end e l =
      summed-more u 0 c m (omega arith) (omega arith) part (take (columns - (columns - c)) (drop (columns - c) change)) (λ j. pick (ltb j c) (F (columns - (c - j)))) e l
      (λ k k<.
      let place : columns - c + k ≡ columns - (c - (0 + k)) = omega arith in
      get_or-take (columns - (columns - c)) (drop (columns - c) change) k (pos 0) (omega arith) ∙ get_or-drop (columns - c) change k (pos 0) ∙ changes (columns - c + k) (omega arith)
      ∙ shown (ltb (0 + k) c) (F (columns - c + k)) (F (columns - (c - (0 + k)))) (lt→ltb (0 + k) c (omega arith)) (ap F place))
      (λ j b. absurd (omega arith))
      (λ j j< b. pick_no (ltb j c) (F (columns - (c - j))) (λ t. omega (arith, ltb→lt j c t)))

  -- the columns c after, at the beginning of the row
  pub summed-begin : part ≡ tabulate m (λ k. wrap (at (take (columns - (columns - c)) (drop (columns - c) now)) k +ℤ at (take c change) k)) → length part ≡ columns - (columns - c) →
      Summed columns work (put_mid (columns - c) (columns - (columns - c)) now part) (λ j. G j +ℤ pick (leb columns (j + c)) (F (j + c - columns)))
  summed-begin e l =
      summed-more u (columns - c) columns m (omega arith) (omega arith) part (take c change) (λ j. pick (leb columns (j + c)) (F (j + c - columns))) e l
      (λ k k<.
      let place : k ≡ columns - c + k + c - columns = omega arith in
      get_or-take c change k (pos 0) (omega arith) ∙ changes k (omega arith)
      ∙ shown (leb columns (columns - c + k + c)) (F k) (F (columns - c + k + c - columns)) (le→leb columns (columns - c + k + c) (omega arith)) (ap F place))
      (λ j b. pick_no (leb columns (j + c)) (F (j + c - columns)) (λ t. omega (arith, leb→le columns (j + c) t)))
      (λ j j< b. absurd (omega arith))

two-added : (a b : ℤ) → (pos 0 +ℤ a) +ℤ b ≡ a +ℤ b
two-added a b = ring (search (sums, any a, any b)) (omega arith)

four-added : (a b c d : ℤ) → (((pos 0 +ℤ a) +ℤ b) +ℤ c) +ℤ d ≡ (a +ℤ b) +ℤ (c +ℤ d)
four-added a b c d = ring (search (sums, any a, any b, any c, any d) depth 12) (omega arith)

-- all of them, where columns clip and where they wrap
module _ (z : Frame) (c : ℕ) (F : ℕ → ℤ) where
  abbrev left : ℕ → ℤ
  left j = pick (leb c j) (F (j - c))

  abbrev right : ℕ → ℤ
  right j = pick (ltb (j + c) z.columns) (F (j + c))

  abbrev end : ℕ → ℤ
  end j = pick (ltb j c) (F (z.columns - (c - j)))

  abbrev begin : ℕ → ℤ
  begin j = pick (leb z.columns (j + c)) (F (j + c - z.columns))

  both-at : (work now : List ℤ) (w : Bool) (G : ℕ → ℤ) → 1 ≤ c → z.columns_wrap ≡ w → ((j : ℕ) → G j ≡ at_both w z.columns c j F) → Summed z.columns work now G →
      now ≡ tabulate z.columns (λ j. wrap (at work j +ℤ at_distance z F c j))
  both-at work now w G some e g u =
      is-tabulate now z.columns (λ j. wrap (at work j +ℤ at_distance z F c j)) u.size
      (λ j j<. u.sums j j< ∙ ap (λ (x : ℤ). wrap (at work j +ℤ x)) (g j ∙ ap (λ (b : Bool). at_both b z.columns c j F) (sym e) ∙ sym (at-distance-some z c j F some)))

  pub edge-clipped : {work now : List ℤ} → 1 ≤ c → z.columns_wrap ≡ false → Summed z.columns work now (λ j. (pos 0 +ℤ left j) +ℤ right j) → now ≡ tabulate z.columns (λ j. wrap (at work j +ℤ at_distance z F c j))
  edge-clipped {work} {now} some e u = both-at work now false (λ j. (pos 0 +ℤ left j) +ℤ right j) some e (λ j. two-added (left j) (right j)) u

  pub edge-round : {work now : List ℤ} → 1 ≤ c → z.columns_wrap ≡ true → Summed z.columns work now (λ j. (((pos 0 +ℤ left j) +ℤ right j) +ℤ end j) +ℤ begin j) →
      now ≡ tabulate z.columns (λ j. wrap (at work j +ℤ at_distance z F c j))
  edge-round {work} {now} some e u = both-at work now true (λ j. (((pos 0 +ℤ left j) +ℤ right j) +ℤ end j) +ℤ begin j) some e (λ j. four-added (left j) (right j) (end j) (begin j)) u

-- ---- the loop over the distances from 1 on
module _ (z : Frame) (P : ℕ → ℕ → ℤ) (s : Shape) (i : ℕ) (work : List ℤ) where
  abbrev added : ℕ → List ℤ
  added n = edges_to z P s i work n

  -- distance 0 is the column itself
  pub edges-1 : (d : ℕ) (out : List ℤ) → d ≡ depth s 0 → out ≡ tabulate z.columns (λ j. wrap (at work j +ℤ enter_leave z P i d j)) → out ≡ added 1
  unfolding at_distance sum_to
  edges-1 d out ed o =
      o ∙ tabulate-cong z.columns (λ j. wrap (at work j +ℤ enter_leave z P i d j)) (λ j. wrap (at work j +ℤ (pos 0 +ℤ enter_leave z P i (depth s 0) j)))
      (λ j j<. ap (λ (x : ℤ). wrap (at work j +ℤ x)) (ap (λ (q : ℕ). enter_leave z P i q j) ed ∙ sym (+ℤ_idl (enter_leave z P i (depth s 0) j))))

  -- from a work area `start` on, the distances from 1 up to n
  abbrev pub later : List ℤ → ℕ → List ℤ
  later start n = tabulate z.columns (λ j. wrap (at start j +ℤ sum_to n (λ k. edge_change z P s i (suc k) j)))

  at-later : (start : List ℤ) (n j : ℕ) (now : List ℤ) → now ≡ later start n → j < z.columns → at now j ≡ wrap (at start j +ℤ sum_to n (λ k. edge_change z P s i (suc k) j))
  at-later start n j now e j< = ap (λ (l : List ℤ). at l j) e ∙ get_d_tabulate z.columns j (λ j. wrap (at start j +ℤ sum_to n (λ k. edge_change z P s i (suc k) j))) (pos 0) j<

  pub later-none : (start : List ℤ) → start ≡ added 1 → start ≡ later start 0
  unfolding sum_to
  later-none start e =
      is-tabulate start z.columns (λ j. wrap (at start j +ℤ pos 0)) (ap length e ∙ length-tabulate z.columns _)
      (λ j j<. sym (ap wrap (+ℤ_idr (at start j)) ∙ ap wrap (at_1 j j<) ∙ wrap-twice _ ∙ sym (at_1 j j<)))
    where
      at_1 : (j : ℕ) → j < z.columns → at start j ≡ wrap (at work j +ℤ sum_to 1 (λ c. edge_change z P s i c j))
      at_1 j j< = ap (λ (l : List ℤ). at l j) e ∙ get_d_tabulate z.columns j (λ j. wrap (at work j +ℤ sum_to 1 (λ c. edge_change z P s i c j))) (pos 0) j<

  pub later_more : (start : List ℤ) (c : ℕ) (now out : List ℤ) → 1 ≤ c → now ≡ later start (c - 1) → out ≡ tabulate z.columns (λ j. wrap (at now j +ℤ edge_change z P s i c j)) → out ≡ later start (c + 1 - 1)
  later_more start c now out h e o =
      o ∙ tabulate-cong z.columns (λ j. wrap (at now j +ℤ edge_change z P s i c j)) (λ j. wrap (at start j +ℤ sum_to (c + 1 - 1) (λ k. edge_change z P s i (suc k) j)))
      (λ j j<.
      let sum = sum_to (c - 1) (λ k. edge_change z P s i (suc k) j) in
      let here : suc (c - 1) ≡ c = omega arith in
      let next : suc (c - 1) ≡ c + 1 - 1 = omega arith in
      ap₂ (λ (x y : ℤ). wrap (x +ℤ y)) (at-later start (c - 1) j now e j<) (ap (λ (m : ℕ). edge_change z P s i m j) (sym here))
      ∙ wrap-add (at start j +ℤ sum) (edge_change z P s i (suc (c - 1)) j)
      ∙ ap wrap (+ℤ_assoc (at start j) sum (edge_change z P s i (suc (c - 1)) j)
      ∙ ap (λ (x : ℤ). at start j +ℤ x) (sym (sum-suc (c - 1) (λ k. edge_change z P s i (suc k) j)) ∙ ap (λ (m : ℕ). sum_to m (λ k. edge_change z P s i (suc k) j)) next)))

  pub later-length : (start : List ℤ) (n : ℕ) (now : List ℤ) → now ≡ later start n → length now ≡ z.columns
  later-length start n now e = ap length e ∙ length-tabulate z.columns _

  pub later-wrapped : (start : List ℤ) (n : ℕ) (now : List ℤ) → now ≡ later start n → (j : ℕ) → wrap (at now j) ≡ at now j
  later-wrapped start n now e j = go (dec_lt j z.columns)
    where
      wrap-zero : wrap (pos 0) ≡ pos 0
      wrap-zero = unfold wrap in refl

      go : Dec (j < z.columns) → wrap (at now j) ≡ at now j
      go (yes h) = ap wrap (at-later start n j now e h) ∙ wrap-twice _ ∙ sym (at-later start n j now e h)
      go (no h) =
          let v : at now j ≡ pos 0 = get_or_past now j (pos 0) (omega (arith, later-length start n now e)) in
          ap wrap v ∙ wrap-zero ∙ sym v

  pub later-all : (start : List ℤ) (n : ℕ) (now : List ℤ) → start ≡ added 1 → 1 ≤ n → now ≡ later start (n - 1) → now ≡ added n
  later-all start n now e h l =
      l ∙ tabulate-cong z.columns (λ j. wrap (at start j +ℤ sum_to (n - 1) (λ k. edge_change z P s i (suc k) j))) (λ j. wrap (at work j +ℤ sum_to n (λ c. edge_change z P s i c j)))
      (λ j j<.
      let rest = sum_to (n - 1) (λ k. edge_change z P s i (suc k) j) in
      let count : 1 + (n - 1) ≡ n = omega arith in
      ap (λ (x : ℤ). wrap (x +ℤ rest)) (ap (λ (l : List ℤ). at l j) e ∙ get_d_tabulate z.columns j (λ j. wrap (at work j +ℤ sum_to 1 (λ c. edge_change z P s i c j))) (pos 0) j<)
      ∙ wrap-add (at work j +ℤ sum_to 1 (λ c. edge_change z P s i c j)) rest
      ∙ ap wrap (+ℤ_assoc (at work j) (sum_to 1 (λ c. edge_change z P s i c j)) rest
      ∙ ap (λ (x : ℤ). at work j +ℤ x) (ap (λ (x : ℤ). sum_to 1 (λ c. edge_change z P s i c j) +ℤ x) (shifted j (n - 1)) ∙ sym (sum-split 1 (n - 1) (λ c. edge_change z P s i c j)) ∙ ap (λ (m : ℕ). sum_to m (λ c. edge_change z P s i c j)) count)))
    where
      shifted : (j m : ℕ) → sum_to m (λ k. edge_change z P s i (suc k) j) ≡ sum_to m (λ k. edge_change z P s i (1 + k) j)
      shifted j m = sum-cong m (λ k. edge_change z P s i (suc k) j) (λ k. edge_change z P s i (1 + k) j) (λ k k<. ap (λ (q : ℕ). edge_change z P s i q j) (sym (one-add k)))

-- all distances are the definition's change
pub edges_are : (z : Frame) (P : ℕ → ℕ → ℤ) (o : Slanted) (i : ℕ) (work out : List ℤ) → Apart z (width (slanted o)) →
    out ≡ edges_to z P (slanted o) i work (min (suc (width (slanted o))) z.columns) → out ≡ work_after z P (slanted o) (suc i) work
unfolding work_after work_change
edges_are z P o i work out fits e =
    e ∙ tabulate-cong z.columns (λ j. wrap (at work j +ℤ sum_to (min (suc (width (slanted o))) z.columns) (λ c. edge_change z P (slanted o) i c j))) (λ j. wrap (at work j +ℤ work_change z P (slanted o) i j))
    (λ j j<. ap (λ (x : ℤ). wrap (at work j +ℤ x)) (sym (near-distances z j (λ d n. enter_leave z P i (depth (slanted o) d) n) j< (width (slanted o)) fits)))
