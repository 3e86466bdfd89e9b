-- Decimal digits and the bytes of an area: the digits that `itoa` writes, how many there are, and bytes stored in parts.
-- Assumes nothing.
use mathlib.Core.Path.{◌≡◌, refl, sym, ◌∙◌, ap, subst}
use Prim.Native.Nat.{ℕ, suc, ◌+◌, ◌-◌, ◌^◌, ◌≤◌, ◌<◌}
use native.Mathlib.Omega.{arith}
use mathlib.Core.List.{List, [], ◌∷◌, ◌++◌, append_assoc, append-nil}
use lib.ListN.{length, take, drop, set, length-append, length-drop, drop_of_length-le}
use native.Mathlib.Numerals.{add-one}
use Rattle.std.specs.Fmt.{decimal as std_decimal, signed_decimal}
use Rattle.std.proofs.Common.{drop_at, drop-drop, rules}
use Rattle.std.proofs.lemmas.Fmt.{decimal_from_appends, length-decimal-le_succ, length-decimal-le, length_signed_le}
use Rattle.std.proofs.lemmas.List.{set_split}
use lib.Seq.{take_at, take_all, length-take-le}
use borrow.Rule.Slice.PartMut.{put_mid}
use lib.IntN.{ℤ, pos, negsuc}
use mir.Syntax.{w16}
use mir.Val.{SFits}
use Rattle.spec_panel.specs.Text.{minus, decimal_in, decimal, printed}
use Rattle.panel_text.specs.Print.{Written}

-- ---- decimal digits
-- the text that `itoa` writes, in std's words, is that of the definitions
pub decimal_is : (n : ℕ) → n < 2 ^ 64 → std_decimal n ≡ decimal n
unfolding decimal decimal_in
decimal_is n h = sym (decimal_from_appends decimal_in (search rules) (suc n) n h (omega (arith, length-decimal-le_succ n h)))

pub printed_is : (v : ℤ) → SFits w16 v → signed_decimal v ≡ printed v
unfolding printed
printed_is (pos n) f = decimal_is n (omega (arith, f.sfits))
printed_is (negsuc n) f = ap (λ l. minus ∷ l) (decimal_is (suc n) (omega (arith, f.sfits)))

-- a number below 10 ^ k has at most k digits
pub few-digits : (k n : ℕ) → n < 10 ^ suc k → n < 2 ^ 64 → length (decimal n) ≤ suc k
few-digits k n h l = rw (← decimal_is n l) (length-decimal-le (suc k) n (omega arith) h l)

-- of 16 bits: five digits and a sign at most
pub level-bytes : (v : ℤ) → SFits w16 v → length (printed v) ≤ 6
level-bytes v f = rw (← printed_is v f) (length_signed_le 5 v (omega (arith, f.sfits)) (omega (arith, f.sfits)))

-- ---- written in parts
pub nothing : (old : List ℕ) → Written [] old old 0
nothing old = record { area = refl; counted = refl }

module _ (xs old new : List ℕ) (count : ℕ) (w : Written xs old new count) where
  pub written-length : count ≤ length old → length new ≡ length old
  written-length h = ap length w.area ∙ length-append xs (drop count old) ∙ omega (arith, w.counted, length-drop count old)

  -- the bytes, and the rest after them
  front : take count new ≡ xs
  front = ap (take count) w.area ∙ take_at xs (drop count old) count (sym w.counted)

  rest : drop count new ≡ drop count old
  rest = ap (drop count) w.area ∙ drop_at xs (drop count old) count (sym w.counted)

  -- one byte more
  pub then_byte : (b : ℕ) → count < length old → Written (xs ++ (b ∷ [])) old (set new count b) (count + 1)
  then_byte b h =
      let after : drop (count + 1) new ≡ drop (count + 1) old = sym (drop-drop 1 count new) ∙ ap (drop 1) rest ∙ drop-drop 1 count old in
      let l : count < length new = omega (arith, written-length (omega arith)) in
      record {
        area = set_split new count b l ∙ rw (front, ← add-one count) (ap (λ l. xs ++ (b ∷ l)) after ∙ sym (append_assoc xs (b ∷ []) (drop (count + 1) old)));
        counted = omega (arith, w.counted, length-append xs (b ∷ []));
      }

  -- the area after them, which is lent for more
  pub room-after : length (take (length new - count) (drop count new)) ≡ length new - count
  room-after = length-take-le (length new - count) (drop count new) (omega (arith, length-drop count new))

  -- more bytes after them
  pub then_bytes : (ys part : List ℕ) (more : ℕ) → Written ys (take (length new - count) (drop count new)) part more → Written (xs ++ ys) old (put_mid count (length new - count) new part) (count + more)
  then_bytes ys part more v =
      let all : take (length new - count) (drop count new) ≡ drop count new = take_all (length new - count) (drop count new) (omega (arith, length-drop count new)) in
      let over : length (drop count new) ≤ length new - count = omega (arith, length-drop count new) in
      let none : drop (length new - count) (drop count new) ≡ [] = drop_of_length-le (drop count new) over in
      let is : part ≡ ys ++ drop (count + more) old = v.area ∙ ap (λ l. ys ++ drop more l) (all ∙ rest) ∙ ap (λ l. ys ++ l) (drop-drop more count old) in
      record {
        area =
            ap (λ l. take count new ++ (part ++ l)) none ∙ ap (λ l. take count new ++ l) (append-nil part ∙ is) ∙ ap (λ l. l ++ (ys ++ drop (count + more) old)) front
            ∙ sym (append_assoc xs ys (drop (count + more) old));
        counted = omega (arith, w.counted, v.counted, length-append xs ys);
      }

pub written_is : (xs ys old new : List ℕ) (count : ℕ) → xs ≡ ys → Written xs old new count → Written ys old new count
written_is xs ys old new count e w = subst (λ (l : List ℕ). Written l old new count) e w
