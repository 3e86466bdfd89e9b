-- The runs of a text: past the dividers before the first, and past the first.
-- Assumes nothing.
use Rattle.std.proofs.Common.{◌≡◌, refl, sym, ◌∙◌, ap, ℕ, suc, ◌+◌, ◌≤◌, ◌<◌, Bool, true, false, not, cond, ltb, ltb-false, List, [], ◌∷◌, ◌++◌, length, get_or, take, drop, map, append-nil, Some, None, unwrap_or, position, arith}
use lib.ListN.{drop_of_length-le, length-drop}
use lib.Seq.{append_snoc, get_or-drop}
use borrow.Author.Tests.{not-true}
use Rattle.std.specs.List.{position_or_len}
use Rattle.std.proofs.lemmas.List.Sums.{prefix_len-le-length}
use Rattle.std.proofs.lemmas.List.Quantifiers.{position-Some}
use Rattle.spec_panel.specs.Text.{divides, ended, runs_from, runs, number}

abbrev joins : ℕ → Bool
joins b = not (divides b)

-- the place that a search gives is the first, or else the length
module _ {A : Type 0} (p : A → Bool) (xs : List A) where
  place-le : position_or_len p xs ≤ length xs
  place-le = prefix_len-le-length (λ x. not (p x)) xs

  place-or : unwrap_or (position p xs) (length xs) ≡ position_or_len p xs
  place-or = go (ltb (position_or_len p xs) (length xs)) refl
    where
      go : (b : Bool) → ltb (position_or_len p xs) (length xs) ≡ b → unwrap_or (cond b (Some (position_or_len p xs)) None) (length xs) ≡ position_or_len p xs
      go true e = refl
      go false e = let h = ltb-false (position_or_len p xs) (length xs) e in omega (arith, place-le)

-- a divider ends the run before it, and any other byte is the run's next
divides-run : (run bs : List ℕ) (b : ℕ) → divides b ≡ true → runs_from run (b ∷ bs) ≡ ended run ++ runs_from [] bs
unfolding runs_from
divides-run run bs b d = ap (λ (x : Bool). elim x [ true ↦ ended run ++ runs_from [] bs | false ↦ runs_from (run ++ (b ∷ [])) bs ]) d

joins-run : (run bs : List ℕ) (b : ℕ) → divides b ≡ false → runs_from run (b ∷ bs) ≡ runs_from (run ++ (b ∷ [])) bs
unfolding runs_from
joins-run run bs b d = ap (λ (x : Bool). elim x [ true ↦ ended run ++ runs_from [] bs | false ↦ runs_from (run ++ (b ∷ [])) bs ]) d

last-ends : (run : List ℕ) → runs_from run [] ≡ ended run
unfolding runs_from
last-ends run = refl

no-runs : runs [] ≡ []
unfolding runs_from ended
no-runs = refl

drop-more : (n b : ℕ) (bs : List ℕ) → drop (1 + n) (b ∷ bs) ≡ drop n bs
drop-more n b bs = let e : 1 + n ≡ suc n = omega arith in rw e

take-more : (n b : ℕ) (bs : List ℕ) → take (1 + n) (b ∷ bs) ≡ b ∷ take n bs
take-more n b bs = let e : 1 + n ≡ suc n = omega arith in rw e

-- dividers do not begin a run
past : (text : List ℕ) → runs text ≡ runs (drop (position_or_len joins text) text)
unfolding ended
past [] = refl
past (b ∷ bs) = go (divides b) refl (past bs)
  where
    go : (d : Bool) → divides b ≡ d → runs bs ≡ runs (drop (position_or_len joins bs) bs) → runs (b ∷ bs) ≡ runs (drop (cond (not (not d)) (1 + position_or_len joins bs) 0) (b ∷ bs))
    go true e next = divides-run [] bs b e ∙ next ∙ ap runs (sym (drop-more (position_or_len joins bs) b bs))
    go false e next = refl

-- a run ends before the first divider
first-ends : (run text : List ℕ) → runs_from run text ≡ ended (run ++ take (position_or_len divides text) text) ++ runs (drop (position_or_len divides text) text)
unfolding ended
first-ends run [] = last-ends run ∙ sym (append-nil (ended run)) ∙ ap (λ l. ended l ++ []) (sym (append-nil run)) ∙ ap (λ l. ended (run ++ []) ++ l) (sym no-runs)
first-ends run (b ∷ bs) = go (divides b) refl (first-ends (run ++ (b ∷ [])) bs)
  where
    go : (d : Bool) → divides b ≡ d → runs_from (run ++ (b ∷ [])) bs ≡ ended ((run ++ (b ∷ [])) ++ take (position_or_len divides bs) bs) ++ runs (drop (position_or_len divides bs) bs)
        → runs_from run (b ∷ bs) ≡ ended (run ++ take (cond (not d) (1 + position_or_len divides bs) 0) (b ∷ bs)) ++ runs (drop (cond (not d) (1 + position_or_len divides bs) 0) (b ∷ bs))
    go true e next = divides-run run bs b e ∙ rw (append-nil run, divides-run [] bs b e)
    go false e next = joins-run run bs b e ∙ next ∙ rw (append_snoc run b (take (position_or_len divides bs) bs), take-more (position_or_len divides bs) b bs, drop-more (position_or_len divides bs) b bs)

-- no byte is of a run
pub numbers-none : (text : List ℕ) → position joins text ≡ None → map number (runs text) ≡ []
numbers-none text e =
    let at : length text ≡ position_or_len joins text = ap (λ o. unwrap_or o (length text)) (sym e) ∙ place-or joins text in
    ap (map number) (past text ∙ ap (λ n. runs (drop n text)) (sym at) ∙ ap runs (drop_of_length-le text (omega arith)) ∙ no-runs)

-- a run that has begun is the first, up to its end
runs-first : (text : List ℕ) → 0 < length text → divides (get_or text 0 0) ≡ false → runs text ≡ take (position_or_len divides text) text ∷ runs (drop (position_or_len divides text) text)
unfolding ended
runs-first [] h d = absurd (omega arith)
runs-first (b ∷ bs) h d = first-ends [] (b ∷ bs) ∙ rw (d, take-more (position_or_len divides bs) b bs)

pub numbers-some : (text : List ℕ) (start : ℕ) → position joins text ≡ Some start → (from run rest : List ℕ) (end : ℕ) → from ≡ drop start text → end ≡ unwrap_or (position divides from) (length from) → run ≡ take end from → rest ≡ drop end from
    → map number (runs text) ≡ number run ∷ map number (runs rest)
numbers-some text start s from run rest end f e r t =
    let found = position-Some joins text start 0 s in
    let at : start ≡ position_or_len joins text = ap (λ o. unwrap_or o (length text)) (sym s) ∙ place-or joins text in
    let here : start + 0 ≡ start = omega arith in
    let first : divides (get_or from 0 0) ≡ false = rw (f, get_or-drop, here) (not-true (divides (get_or text start 0)) found.1) in
    let stop : end ≡ position_or_len divides from = e ∙ place-or divides from in
    let parts : take (position_or_len divides from) from ∷ runs (drop (position_or_len divides from) from) ≡ run ∷ runs rest = rw (r, t, stop) in
    ap (map number) (past text ∙ ap (λ n. runs (drop n text)) (sym at) ∙ ap runs (sym f) ∙ runs-first from (omega (arith, ap length f, length-drop start text, found.0)) first ∙ parts)
