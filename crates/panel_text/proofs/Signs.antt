-- What a run of bytes says: the sign, and the digits after it.
-- Assumes nothing.
use Rattle.std.proofs.Common.{◌≡◌, refl, sym, ◌∙◌, ap, ℕ, ◌≤◌, Bool, true, false, ◌&&◌, nat_eq, List, [], ◌∷◌, take, drop, Option, Some, None, IfSome, MatchOption, option_map, ℤ, pos, neg_ℤ, eqb}
use Rattle.std.specs.Option.{IsSomeAnd}
use Rattle.std.proofs.lemmas.Bool.{false≢true}
use lib.Pointwise.{pointwise}
use Rattle.spec_panel.specs.Text.{minus, natural, number}

-- what `map` gives by a closure that computes f of each number of nine digits
pub mapped : (P : ℕ → ℤ → Type 0) (f : ℕ → ℤ) → ((n : ℕ) (z : ℤ) → n ≤ 999999999 → P n z → z ≡ f n) → (o : Option ℕ) (r : Option ℤ) → IfSome o (λ n. n ≤ 999999999) → MatchOption o (r ≡ None) (λ n. IsSomeAnd r (P n)) → r ≡ option_map f o
mapped P f computes None r h e = e
mapped P f computes (Some n) None h e = absurd e
mapped P f computes (Some n) (Some z) h e = ap Some (computes n z h e)

-- the first byte is a minus sign, or not
abbrev signed : List ℕ → Bool
signed run = pointwise nat_eq (take 1 run) (minus ∷ [])

tested : (b : Bool) → b && true ≡ b
tested true = refl
tested false = refl

pub number-signed : (run : List ℕ) → signed run ≡ true → option_map (λ n. neg_ℤ (pos n)) (natural (drop 1 run)) ≡ number run
unfolding number
number-signed [] e = absurd (false≢true e)
number-signed (b ∷ bs) e = rw (sym (tested (eqb b minus)) ∙ e, number)

pub number-plain : (run : List ℕ) → signed run ≡ false → option_map pos (natural run) ≡ number run
unfolding number natural
number-plain [] e = refl
number-plain (b ∷ bs) e = rw (sym (tested (eqb b minus)) ∙ e, number)
