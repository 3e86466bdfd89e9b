-- Loops that write a list from the front, and parts of a list that are written: what the list holds then.
-- Assumes nothing.
use mathlib.Core.Path.{◌≡◌, refl, sym, ap, ◌∙◌}
use mathlib.Core.List.{List, ◌++◌}
use Prim.Native.Nat.{ℕ, ◌+◌, ◌-◌, ◌≤◌, ◌<◌}
use native.Mathlib.Omega.{arith}
use native.Mathlib.Decide.{ℕ_discrete, dec_lt}
use lib.IntN.{ℤ, pos}
use lib.ListN.{length, get_or, take, drop, set, length-set, length-append, length-take, length-drop, get_or-append}
use lib.Seq.{get_or-set_same, get_or-set_other, ext_get_or, get_or-append-add, get_or-take, get_or-drop, length-take-le}
use borrow.Rule.Slice.PartMut.{put_mid, post_of}
use Rattle.numbers.specs.Grid.{tabulate}
use Rattle.numbers.proofs.Grids.{length-tabulate, get_d_tabulate}

-- the number at k, 0 past the end
abbrev pub at : List ℤ → ℕ → ℤ
at l k = get_or l k (pos 0)

-- a list that is f at each of its n places
pub is-tabulate : (l : List ℤ) (n : ℕ) (f : ℕ → ℤ) → length l ≡ n → ((k : ℕ) → k < n → at l k ≡ f k) → l ≡ tabulate n f
is-tabulate l n f e h =
    ext_get_or (pos 0) l (tabulate n f) (e ∙ sym (length-tabulate n f))
    (λ k k<. h k (omega arith) ∙ sym (get_d_tabulate n k f (pos 0) (omega arith)))

-- what a list that was written out holds
pub tabulate-at : (l : List ℤ) (n : ℕ) (f : ℕ → ℤ) → l ≡ tabulate n f → (k : ℕ) → k < length l → at l k ≡ f k
tabulate-at l n f e k k< =
    ap (λ (m : List ℤ). at m k) e ∙ get_d_tabulate n k f (pos 0) (omega (arith, ap length e, length-tabulate n f))

-- ---- a loop that writes from the front: `now` is f below n, and as `old` is from n on
pub record Upto (f : ℕ → ℤ) (old now : List ℤ) (n : ℕ) : Type 0 where
  pub bound : n ≤ length old
  pub size : length now ≡ length old
  pub done : (k : ℕ) → k < n → at now k ≡ f k
  pub rest : (k : ℕ) → n ≤ k → at now k ≡ at old k

pub upto-none : (f : ℕ → ℤ) (old : List ℤ) → Upto f old old 0
upto-none f old = record { bound = omega arith; size = refl; done = λ k h. absurd (omega arith); rest = λ k h. refl }

module _ {f : ℕ → ℤ} {old now : List ℤ} {n : ℕ} (u : Upto f old now n) where
  done-by : (v : ℤ) → n < length old → v ≡ f n → (k : ℕ) → k < n + 1 → Dec (k ≡ n) → at (set now n v) k ≡ f k
  done-by v h e k l (yes p) = rw p (get_or-set_same now n v (pos 0) (omega arith) ∙ e)
  done-by v h e k l (no p) = get_or-set_other now n k v (pos 0) p ∙ u.done k (omega arith)

  pub upto-more : (v : ℤ) → n < length old → v ≡ f n → Upto f old (set now n v) (n + 1)
  upto-more v h e = record {
    bound = omega arith;
    size = length-set now n v ∙ u.size;
    done = λ k l. done-by v h e k l (ℕ_discrete k n);
    rest = λ k l. get_or-set_other now n k v (pos 0) (λ p. omega arith) ∙ u.rest k (omega arith);
  }

  pub upto_all : length old ≤ n → now ≡ tabulate (length old) f
  upto_all h = is-tabulate now (length old) f u.size (λ k l. u.done k (omega arith))

-- ---- a part of a list, from lo to hi, that was lent and has come back as `part`
module _ (lo hi : ℕ) (l part : List ℤ) (o : lo ≤ hi) (h : hi ≤ length l) (e : length part ≡ hi - lo) where
  pub part-before : (k : ℕ) → k < lo → at (put_mid lo (hi - lo) l part) k ≡ at l k
  part-before k k< =
      get_or-append (take lo l) (part ++ post_of lo (hi - lo) l) (pos 0) k (rw (length-take-le lo l (omega arith)) k<) ∙ get_or-take lo l k (pos 0) k<

  pub part-within : (k : ℕ) → lo ≤ k → k < hi → at (put_mid lo (hi - lo) l part) k ≡ at part (k - lo)
  part-within k lo≤ k< =
      let p : k ≡ length (take lo l) + (k - lo) = omega (arith, length-take-le lo l (omega arith)) in
      ap (λ (i : ℕ). at (put_mid lo (hi - lo) l part) i) p
      ∙ get_or-append-add (take lo l) (part ++ post_of lo (hi - lo) l) (k - lo) (pos 0)
      ∙ get_or-append part (post_of lo (hi - lo) l) (pos 0) (k - lo) (omega arith)

  pub part-after : (k : ℕ) → hi ≤ k → at (put_mid lo (hi - lo) l part) k ≡ at l k
  part-after k hi≤ =
      let p : k ≡ length (take lo l) + (length part + (k - hi)) = omega (arith, length-take-le lo l (omega arith)) in
      let q : lo + (hi - lo + (k - hi)) ≡ k = omega arith in
      ap (λ (i : ℕ). at (put_mid lo (hi - lo) l part) i) p
      ∙ get_or-append-add (take lo l) (part ++ post_of lo (hi - lo) l) (length part + (k - hi)) (pos 0)
      ∙ get_or-append-add part (post_of lo (hi - lo) l) (k - hi) (pos 0)
      ∙ get_or-drop (hi - lo) (drop lo l) (k - hi) (pos 0)
      ∙ get_or-drop lo l (hi - lo + (k - hi)) (pos 0)
      ∙ ap (at l) q

pub part_length : (lo hi : ℕ) (l part : List ℤ) → lo ≤ hi → hi ≤ length l → length part ≡ hi - lo → length (put_mid lo (hi - lo) l part) ≡ length l
part_length lo hi l part o h e = simp (length-append, length-take, length-drop) (omega arith)

-- ---- a list that is written part by part from the front, f being what it comes to hold
module _ {f : ℕ → ℤ} {old now : List ℤ} {lo : ℕ} (u : Upto f old now lo) (hi : ℕ) (part : List ℤ) (o : lo ≤ hi) (h : hi ≤ length old) (e : length part ≡ hi - lo) (p : (k : ℕ) → k < hi - lo → at part k ≡ f (lo + k)) where
  part-done : (k : ℕ) → k < hi → Dec (k < lo) → at (put_mid lo (hi - lo) now part) k ≡ f k
  part-done k l (yes b) = part-before lo hi now part o (omega (arith, u.size)) e k b ∙ u.done k b
  part-done k l (no b) =
      let q : lo + (k - lo) ≡ k = omega arith in
      part-within lo hi now part o (omega (arith, u.size)) e k (omega arith) l ∙ p (k - lo) (omega arith) ∙ ap f q

  pub upto-part : Upto f old (put_mid lo (hi - lo) now part) hi
  upto-part = record {
    bound = h;
    size = part_length lo hi now part o (omega (arith, u.size)) e ∙ u.size;
    done = λ k l. part-done k l (dec_lt k lo);
    rest = λ k l. part-after lo hi now part o (omega (arith, u.size)) e k l ∙ u.rest k (omega arith);
  }

-- a part of a list, from lo to hi, that is read
pub slice_at : (lo hi : ℕ) (l : List ℤ) → lo ≤ hi → hi ≤ length l → (k : ℕ) → k < hi - lo → at (take (hi - lo) (drop lo l)) k ≡ at l (lo + k)
slice_at lo hi l o h k k< = get_or-take (hi - lo) (drop lo l) k (pos 0) k< ∙ get_or-drop lo l k (pos 0)

pub slice-length : (lo hi : ℕ) (l : List ℤ) → lo ≤ hi → hi ≤ length l → length (take (hi - lo) (drop lo l)) ≡ hi - lo
slice-length lo hi l o h = simp (length-take, length-drop) (omega arith)
