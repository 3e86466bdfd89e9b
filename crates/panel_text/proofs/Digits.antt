-- Digits, one after the other: what they are worth so far, and how much at most.
-- Assumes nothing.
use Rattle.std.proofs.Common.{◌≡◌, refl, sym, ◌∙◌, ap, ℕ, ◌+◌, ◌-◌, ◌*◌, ◌^◌, ◌≤◌, ◌<◌, Bool, true, false, ◌&&◌, List, length, get_or, drop, leb, None, Some, add-one, arith, drop-cons}
use native.Mathlib.Nat.{pow-suc, pow-le-pow_right}
use lib.ListN.{drop_of_length-le}
use borrow.Author.Tests.{le-leb, leb-true}
use mathlib.Core.Logic.{inl, inr}
use Rattle.std.specs.Char.{IsDigitOf, NotDecimalDigitIn}
use Rattle.spec_panel.specs.Text.{is_digit, all_digits, value_from, natural}

-- the digits before place i are worth v
pub record Worth (run : List ℕ) (v i : ℕ) : Type 0 where
  pub inside : i ≤ length run
  pub digits : all_digits run ≡ all_digits (drop i run)
  pub same : value_from 0 run ≡ value_from v (drop i run)
  pub small : v < 10 ^ i

pub worth-small : (run : List ℕ) (v i k : ℕ) → Worth run v i → i ≤ k → v < 10 ^ k
worth-small run v i k w h = omega (arith, w.small, pow-le-pow_right {n = 10} (omega arith) h)

worth-next : (v d i : ℕ) → v < 10 ^ i → d ≤ 9 → 10 * v + d < 10 ^ (i + 1)
worth-next v d i h k = rw (add-one, pow-suc) (omega arith)

digit-out : (b : ℕ) → NotDecimalDigitIn 10 b → is_digit b ≡ false
unfolding is_digit
digit-out b n = go (leb 48 b) (leb b 57) refl refl
  where
    go : (p q : Bool) → leb 48 b ≡ p → leb b 57 ≡ q → p && q ≡ false
    go true true e f = let h : 58 ≤ b = n (leb-true 48 b e) (leb-true b 57 f) in absurd (omega (arith, leb-true b 57 f))
    go true false e f = refl
    go false q e f = refl

digit-in : (b : ℕ) → 48 ≤ b → b ≤ 57 → is_digit b ≡ true
unfolding is_digit
digit-in b l h = rw (le-leb 48 b l, le-leb b 57 h)

-- ---- the three tests of `natural`
abbrev tests : List ℕ → Bool
tests ds = leb 1 (length ds) && leb (length ds) 9 && all_digits ds

picked : (ds : List ℕ) (b : Bool) → tests ds ≡ b → natural ds ≡ elim b [ true ↦ Some (value_from 0 ds) | false ↦ None ]
unfolding natural
picked ds b e = ap (λ (b : Bool). elim b [ true ↦ Some (value_from 0 ds) | false ↦ None ]) e

never : (p q : Bool) → p && q && false ≡ false
never true true = refl
never true false = refl
never false q = refl

pub natural-outside : (ds : List ℕ) → (1 ≤ length ds → length ds ≤ 9 → ⊥) → None ≡ natural ds
natural-outside ds h = go (leb 1 (length ds)) (leb (length ds) 9) refl refl
  where
    go : (p q : Bool) → leb 1 (length ds) ≡ p → leb (length ds) 9 ≡ q → None ≡ natural ds
    go true true e f = absurd (h (leb-true 1 (length ds) e) (leb-true (length ds) 9 f))
    go true false e f = sym (picked ds false (rw (e, f)))
    go false q e f = sym (picked ds false (rw e))

-- ---- one digit more
module _ (run : List ℕ) (v i : ℕ) (w : Worth run v i) (h : i < length run) where
  pub worth-more : (d u : ℕ) → IsDigitOf (get_or run i 0) d → (u < 10) × (d ≡ u) → Worth run (10 * v + d) (i + 1)
  unfolding all_digits value_from
  worth-more d u (inl e) k =
      let g : d ≡ get_or run i 0 - 48 = omega arith in
      record {
        inside = omega arith;
        digits = w.digits ∙ rw (add-one, drop-cons run i 0, digit-in (get_or run i 0) (omega arith) (omega arith));
        same = w.same ∙ rw (add-one, drop-cons run i 0, g);
        small = worth-next v d i w.small (omega arith);
      }
  worth-more d u (inr (inl e)) k = absurd (omega arith)
  worth-more d u (inr (inr e)) k = absurd (omega arith)

  pub natural-other : NotDecimalDigitIn 10 (get_or run i 0) → None ≡ natural run
  unfolding all_digits
  natural-other n = sym (picked run false (ap (λ b. leb 1 (length run) && leb (length run) 9 && b) (w.digits ∙ rw (drop-cons run i 0, digit-out (get_or run i 0) n)) ∙ never (leb 1 (length run)) (leb (length run) 9)))

pub natural-all : (run : List ℕ) (v i : ℕ) → 1 ≤ length run → length run ≤ 9 → Worth run v i → length run ≤ i → Some v ≡ natural run
unfolding all_digits value_from
natural-all run v i l h w last =
    let d : all_digits run ≡ true = w.digits ∙ rw (drop_of_length-le run last) in
    let e : value_from 0 run ≡ v = w.same ∙ rw (drop_of_length-le run last) in
    sym (picked run true (rw (le-leb 1 (length run) l, le-leb (length run) 9 h, d)) ∙ ap Some e)
