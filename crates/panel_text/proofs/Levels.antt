-- The levels, one number after the other: what is missing, malformed or beyond 16 bits, and what follows them.
-- Assumes nothing.
use Rattle.std.proofs.Common.{◌≡◌, refl, sym, ◌∙◌, ap, ℕ, suc, ◌+◌, ◌-◌, ◌≤◌, ◌<◌, Bool, true, false, leb, ◌&&◌, List, [], ◌∷◌, ◌++◌, append-nil, length, take, set, length-set, Option, None, Some, option_map, ℤ, pos, negsuc, FitsSigned, w16, Result, Ok, Err, not, is_some, add-one, arith}
use borrow.Author.Tests.{le-leb, leb-true}
use Rattle.std.specs.Bool.{then_some}
use Rattle.std.specs.Result.{OkIff, result_ok}
use Rattle.std.specs.Iterator.{YieldsFirst}
use Rattle.std.proofs.lemmas.Bool.{false≢true, false_from_ne_true}
use Rattle.panel_text.specs.Levels.{levels_if_read}
use lib.Seq.{take-suc-set, take_all, append_snoc}
use Rattle.spec_panel.specs.Panel.{is_level, levels_of}

-- ---- a level is what fits 16 bits
fits-level : (n : ℤ) → FitsSigned w16 n → is_level n ≡ true
fits-level (pos n) f = le-leb n 32767 (omega (arith, f.sfits))
fits-level (negsuc n) f = rw (le-leb n 32767 (omega (arith, f.sfits)))

first_of : (b : Bool) → b && true ≡ true → b ≡ true
first_of true e = refl
first_of false e = e

level-fits : (n : ℤ) → is_level n ≡ true → FitsSigned w16 n
level-fits (pos n) e = record { sfits = omega (arith, leb-true n 32767 e) }
level-fits (negsuc n) e = record { sfits = omega (arith, leb-true n 32767 (first_of (leb n 32767) e)) }

module _ {E : Type 0} (n : ℤ) where
  pub beyond-16-bits : (r : Result ℤ E) → OkIff r (FitsSigned w16 n) n → None ≡ result_ok r → is_level n ≡ false
  beyond-16-bits (Ok z) f e = absurd (cc)
  beyond-16-bits (Err x) f e = false_from_ne_true (is_level n) (λ t. f (level-fits n t))

  pub within-16-bits : (r : Result ℤ E) (z : ℤ) → OkIff r (FitsSigned w16 n) n → Some z ≡ result_ok r → (is_level n ≡ true) × ((z ≡ n) × FitsSigned w16 z)
  within-16-bits (Ok y) z f e = let i : z ≡ n = cc in (fits-level n f.0, (i, rw i f.0))
  within-16-bits (Err x) z f e = absurd (cc)

-- levels that were read, before those that are read next
abbrev onto : List ℤ → Option (List ℤ) → Option (List ℤ)
onto l o = option_map (λ m. l ++ m) o

onto-nil : (o : Option (List ℤ)) → o ≡ onto [] o
onto-nil None = refl
onto-nil (Some l) = refl

onto-more : (l : List ℤ) (n : ℤ) (o : Option (List ℤ)) → onto l (option_map (λ m. n ∷ m) o) ≡ onto (l ++ (n ∷ [])) o
onto-more l n None = refl
onto-more l n (Some m) = ap Some (sym (append_snoc l n m))

-- ---- the equations of levels_of
none-missing : (k : ℕ) → levels_of (suc k) [] ≡ None
unfolding levels_of
none-missing k = refl

none-malformed : (k : ℕ) (ns : List (Option ℤ)) → levels_of (suc k) (None ∷ ns) ≡ None
unfolding levels_of
none-malformed k ns = refl

by_level : (k : ℕ) (n : ℤ) (ns : List (Option ℤ)) (b : Bool) → is_level n ≡ b → levels_of (suc k) (Some n ∷ ns) ≡ elim b [ true ↦ option_map (λ l. n ∷ l) (levels_of k ns) | false ↦ None ]
unfolding levels_of
by_level k n ns b e = ap (λ (b : Bool). elim b [ true ↦ option_map (λ l. n ∷ l) (levels_of k ns) | false ↦ None ]) e

none-extra : (n : Option ℤ) (ns : List (Option ℤ)) → levels_of 0 (n ∷ ns) ≡ None
unfolding levels_of
none-extra n ns = refl

all_read : levels_of 0 [] ≡ Some []
unfolding levels_of
all_read = refl

-- the first k levels were read, and these numbers are left
pub record LevelsUpto (all : List (Option ℤ)) (old now : List ℤ) (left : List (Option ℤ)) (k : ℕ) : Type 0 where
  pub size : length now ≡ length old
  pub inside : k ≤ length old
  pub same : levels_of (length old) all ≡ onto (take k now) (levels_of (length old - k) left)

pub levels-first : (all : List (Option ℤ)) (old : List ℤ) → LevelsUpto all old old all 0
levels-first all old =
    let e : length old - 0 ≡ length old = omega arith in
    record { size = refl; inside = omega arith; same = onto-nil _ ∙ rw e }

module _ (all : List (Option ℤ)) (old now : List ℤ) (left : List (Option ℤ)) (k : ℕ) (u : LevelsUpto all old now left k) where
  module _ (h : k < length old) where
    one_more : levels_of (length old) all ≡ onto (take k now) (levels_of (suc (length old - (k + 1))) left)
    one_more =
        let e : length old - k ≡ suc (length old - (k + 1)) = omega arith in
        u.same ∙ ap (λ (m : ℕ). onto (take k now) (levels_of m left)) e

    pub level-missing : left ≡ [] → levels_of (length old) all ≡ None
    level-missing e = one_more ∙ ap (onto (take k now)) (ap (levels_of _) e ∙ none-missing _)

    module _ (rest : List (Option ℤ)) where
      pub level-malformed : left ≡ None ∷ rest → levels_of (length old) all ≡ None
      level-malformed e = one_more ∙ ap (onto (take k now)) (ap (levels_of _) e ∙ none-malformed _ rest)

      module _ (n : ℤ) (e : left ≡ Some n ∷ rest) where
        pub level-beyond : is_level n ≡ false → levels_of (length old) all ≡ None
        level-beyond b = one_more ∙ ap (onto (take k now)) (ap (levels_of _) e ∙ by_level _ n rest false b)

        pub levels-more : is_level n ≡ true → LevelsUpto all old (set now k n) rest (k + 1)
        levels-more b =
            let i : k < length now = omega (arith, u.size) in
            record {
              size = length-set now k n ∙ u.size;
              inside = omega arith;
              same =
                  one_more ∙ ap (onto (take k now)) (ap (levels_of _) e ∙ by_level _ n rest true b) ∙ onto-more (take k now) n (levels_of (length old - (k + 1)) rest)
                  ∙ ap (λ (l : List ℤ). onto l (levels_of (length old - (k + 1)) rest)) (sym (ap (λ (j : ℕ). take j (set now k n)) (add-one k) ∙ take-suc-set now k n i));
            }

  module _ (h : length old ≤ k) where
    last : levels_of (length old) all ≡ onto now (levels_of 0 left)
    last =
        let z : length old - k ≡ 0 = omega arith in
        let a : length now ≤ k = omega (arith, u.size) in
        u.same ∙ ap (λ (m : ℕ). onto (take k now) (levels_of m left)) z ∙ ap (λ (l : List ℤ). onto l (levels_of 0 left)) (take_all k now a)

    levels-extra : (n : Option ℤ) (rest : List (Option ℤ)) → left ≡ n ∷ rest → levels_of (length old) all ≡ None
    levels-extra n rest e = last ∙ ap (onto now) (ap (levels_of 0) e ∙ none-extra n rest)

    levels-all : left ≡ [] → levels_of (length old) all ≡ Some now
    levels-all e = last ∙ ap (onto now) (ap (levels_of 0) e ∙ all_read) ∙ ap Some (append-nil now)

    -- nothing follows, or something does
    pub levels-last : (o : Option (Option ℤ)) (rest : List (Option ℤ)) → YieldsFirst (λ s. s) left o rest → (b : Bool) → is_some o ≡ not b → levels_of (length old) all ≡ levels_if_read (then_some b tt) now
    levels-last None rest e true i = levels-all e.0
    levels-last None rest e false i = absurd (false≢true i)
    levels-last (Some n) rest e true i = absurd (false≢true (sym i))
    levels-last (Some n) rest e false i = levels-extra n rest e
