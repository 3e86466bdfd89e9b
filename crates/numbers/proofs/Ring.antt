-- A normaliser for polynomials over ℤ: `ring e f ρ tt` proves an identity where both sides come to the same sorted sum of monomials.
-- A polynomial's variables are numbers, and ρ lists their values. Assumes nothing.
use mathlib.Core.Path.{◌≡◌, refl, sym, ap, ◌∙◌}
use mathlib.Core.Bool.{Bool, true, false, cond, ◌&&◌}
use mathlib.Core.List.{List, [], ◌∷◌}
use Prim.Native.Nat.{ℕ}
use lib.Dec.{T, leb, ltb, eqb, eqb→eq}
use lib.ListN.{get_or}
use lib.IntN.{ℤ, pos, negsuc, neg_ℤ, ◌+ℤ◌, ◌-ℤ◌, ◌*ℤ◌, +ℤ_assoc, +ℤ_idl, +ℤ_idr, zero-*ℤ, *ℤ-zero, +ℤ_invl}
use Rattle.numbers.proofs.Tests.{and_left, and_right}
use Rattle.numbers.proofs.Laws.{mul-addℤ, add-mulℤ, mul-assocℤ, mul-left-commℤ, add-left-commℤ, one-mulℤ, mul-oneℤ, neg-one-mulℤ}

infixl 6 ◌⊕◌ ◌⊖◌
infixl 7 ◌⊗◌
pub data Poly : Type 0 where
  X : ℕ → Poly
  K : ℤ → Poly
  ◌⊕◌ : Poly → Poly → Poly
  ◌⊖◌ : Poly → Poly → Poly
  ◌⊗◌ : Poly → Poly → Poly

abbrev pub eval : Poly → List ℤ → ℤ
eval (X i) ρ = get_or ρ i (pos 0)
eval (K c) ρ = c
eval (e ⊕ f) ρ = eval e ρ +ℤ eval f ρ
eval (e ⊖ f) ρ = eval e ρ -ℤ eval f ρ
eval (e ⊗ f) ρ = eval e ρ *ℤ eval f ρ

-- a sum of monomials: a coefficient, the variables in order, the rest
pub data Nf : Type 0 where
  nil : Nf
  term : ℤ → List ℕ → Nf → Nf

abbrev pub eval_m : List ℕ → List ℤ → ℤ
eval_m [] ρ = pos 1
eval_m (i ∷ m) ρ = get_or ρ i (pos 0) *ℤ eval_m m ρ

abbrev pub eval_n : Nf → List ℤ → ℤ
eval_n nil ρ = pos 0
eval_n (term c m p) ρ = c *ℤ eval_m m ρ +ℤ eval_n p ρ

abbrev pub ins_v : ℕ → List ℕ → List ℕ
ins_v i [] = i ∷ []
ins_v i (j ∷ m) = cond (leb i j) (i ∷ j ∷ m) (j ∷ ins_v i m)

abbrev pub mul_m : List ℕ → List ℕ → List ℕ
mul_m [] n = n
mul_m (i ∷ m) n = ins_v i (mul_m m n)

abbrev pub eq_m : List ℕ → List ℕ → Bool
eq_m [] [] = true
eq_m [] (j ∷ n) = false
eq_m (i ∷ m) [] = false
eq_m (i ∷ m) (j ∷ n) = eqb i j && eq_m m n

abbrev pub lt_m : List ℕ → List ℕ → Bool
lt_m [] [] = false
lt_m [] (j ∷ n) = true
lt_m (i ∷ m) [] = false
lt_m (i ∷ m) (j ∷ n) = cond (eqb i j) (lt_m m n) (ltb i j)

abbrev pub add_t : ℤ → List ℕ → Nf → Nf
add_t c m nil = term c m nil
add_t c m (term d n p) = cond (eq_m m n) (term (c +ℤ d) n p) (cond (lt_m m n) (term c m (term d n p)) (term d n (add_t c m p)))

abbrev pub add_n : Nf → Nf → Nf
add_n nil q = q
add_n (term c m p) q = add_t c m (add_n p q)

abbrev pub mul_t : ℤ → List ℕ → Nf → Nf
mul_t c m nil = nil
mul_t c m (term d n q) = add_t (c *ℤ d) (mul_m m n) (mul_t c m q)

abbrev pub mul_n : Nf → Nf → Nf
mul_n nil q = nil
mul_n (term c m p) q = add_n (mul_t c m q) (mul_n p q)

abbrev pub norm : Poly → Nf
norm (X i) = term (pos 1) (i ∷ []) nil
norm (K c) = term c [] nil
norm (e ⊕ f) = add_n (norm e) (norm f)
norm (e ⊖ f) = add_n (norm e) (mul_t (negsuc 0) [] (norm f))
norm (e ⊗ f) = mul_n (norm e) (norm f)

abbrev pub is_zero : ℤ → Bool
is_zero (pos n) = eqb n 0
is_zero (negsuc n) = false

abbrev pub all_zero : Nf → Bool
all_zero nil = true
all_zero (term c m p) = is_zero c && all_zero p

-- ---- soundness
cond-case {ℓ} : {A : Type 0} (b : Bool) (x y : A) (P : A → Type ℓ) → (T b → P x) → P y → P (cond b x y)
cond-case true x y P f g = f tt
cond-case false x y P f g = g

module _ (ρ : List ℤ) where
  abbrev at : ℕ → ℤ
  at i = get_or ρ i (pos 0)

  ins_v-ok : (i : ℕ) (m : List ℕ) → eval_m (ins_v i m) ρ ≡ at i *ℤ eval_m m ρ
  ins_v-ok i [] = refl
  ins_v-ok i (j ∷ m) = cond-case (leb i j) (i ∷ j ∷ m) (j ∷ ins_v i m) (λ l. eval_m l ρ ≡ at i *ℤ (at j *ℤ eval_m m ρ))
      (λ t. refl) (ap (λ (w : ℤ). at j *ℤ w) (ins_v-ok i m) ∙ mul-left-commℤ (at j) (at i) (eval_m m ρ))

  mul_m-ok : (m n : List ℕ) → eval_m (mul_m m n) ρ ≡ eval_m m ρ *ℤ eval_m n ρ
  mul_m-ok [] n = sym (one-mulℤ (eval_m n ρ))
  mul_m-ok (i ∷ m) n = ins_v-ok i (mul_m m n) ∙ ap (λ (w : ℤ). at i *ℤ w) (mul_m-ok m n) ∙ sym (mul-assocℤ (at i) (eval_m m ρ) (eval_m n ρ))

  eq_m-ok : (m n : List ℕ) → T (eq_m m n) → eval_m m ρ ≡ eval_m n ρ
  eq_m-ok [] [] t = refl
  eq_m-ok [] (j ∷ n) t = absurd t
  eq_m-ok (i ∷ m) [] t = absurd t
  eq_m-ok (i ∷ m) (j ∷ n) t =
      ap (λ (w : ℕ). at w *ℤ eval_m m ρ) (eqb→eq i j (and_left (eqb i j) (eq_m m n) t)) ∙ ap (λ (w : ℤ). at j *ℤ w) (eq_m-ok m n (and_right (eqb i j) (eq_m m n) t))

  add_t-ok : (c : ℤ) (m : List ℕ) (p : Nf) → eval_n (add_t c m p) ρ ≡ c *ℤ eval_m m ρ +ℤ eval_n p ρ
  add_t-ok c m nil = refl
  add_t-ok c m (term d n p) =
      cond-case (eq_m m n) (term (c +ℤ d) n p) (cond (lt_m m n) (term c m (term d n p)) (term d n (add_t c m p)))
      (λ q. eval_n q ρ ≡ c *ℤ eval_m m ρ +ℤ (d *ℤ eval_m n ρ +ℤ eval_n p ρ))
      (λ t. ap (λ (w : ℤ). w +ℤ eval_n p ρ) (add-mulℤ c d (eval_m n ρ) ∙ ap (λ (w : ℤ). c *ℤ w +ℤ d *ℤ eval_m n ρ) (sym (eq_m-ok m n t)))
      ∙ +ℤ_assoc (c *ℤ eval_m m ρ) (d *ℤ eval_m n ρ) (eval_n p ρ))
      (cond-case (lt_m m n) (term c m (term d n p)) (term d n (add_t c m p))
      (λ q. eval_n q ρ ≡ c *ℤ eval_m m ρ +ℤ (d *ℤ eval_m n ρ +ℤ eval_n p ρ))
      (λ t. refl)
      (ap (λ (w : ℤ). d *ℤ eval_m n ρ +ℤ w) (add_t-ok c m p) ∙ add-left-commℤ (d *ℤ eval_m n ρ) (c *ℤ eval_m m ρ) (eval_n p ρ)))

  add_n-ok : (p q : Nf) → eval_n (add_n p q) ρ ≡ eval_n p ρ +ℤ eval_n q ρ
  add_n-ok nil q = sym (+ℤ_idl (eval_n q ρ))
  add_n-ok (term c m p) q = add_t-ok c m (add_n p q) ∙ ap (λ (w : ℤ). c *ℤ eval_m m ρ +ℤ w) (add_n-ok p q) ∙ sym (+ℤ_assoc (c *ℤ eval_m m ρ) (eval_n p ρ) (eval_n q ρ))

  four : (a b c d : ℤ) → (a *ℤ b) *ℤ (c *ℤ d) ≡ (a *ℤ c) *ℤ (b *ℤ d)
  four a b c d = mul-assocℤ a b (c *ℤ d) ∙ ap (λ (w : ℤ). a *ℤ w) (mul-left-commℤ b c d) ∙ sym (mul-assocℤ a c (b *ℤ d))

  mul_t-ok : (c : ℤ) (m : List ℕ) (q : Nf) → eval_n (mul_t c m q) ρ ≡ (c *ℤ eval_m m ρ) *ℤ eval_n q ρ
  mul_t-ok c m nil = sym (*ℤ-zero (c *ℤ eval_m m ρ))
  mul_t-ok c m (term d n q) =
      add_t-ok (c *ℤ d) (mul_m m n) (mul_t c m q)
      ∙ ap (λ (w : ℤ). (c *ℤ d) *ℤ w +ℤ eval_n (mul_t c m q) ρ) (mul_m-ok m n)
      ∙ ap (λ (w : ℤ). w +ℤ eval_n (mul_t c m q) ρ) (four c d (eval_m m ρ) (eval_m n ρ))
      ∙ ap (λ (w : ℤ). (c *ℤ eval_m m ρ) *ℤ (d *ℤ eval_m n ρ) +ℤ w) (mul_t-ok c m q)
      ∙ sym (mul-addℤ (c *ℤ eval_m m ρ) (d *ℤ eval_m n ρ) (eval_n q ρ))

  mul_n-ok : (p q : Nf) → eval_n (mul_n p q) ρ ≡ eval_n p ρ *ℤ eval_n q ρ
  mul_n-ok nil q = sym (zero-*ℤ (eval_n q ρ))
  mul_n-ok (term c m p) q =
      add_n-ok (mul_t c m q) (mul_n p q)
      ∙ ap (λ (w : ℤ). w +ℤ eval_n (mul_n p q) ρ) (mul_t-ok c m q)
      ∙ ap (λ (w : ℤ). (c *ℤ eval_m m ρ) *ℤ eval_n q ρ +ℤ w) (mul_n-ok p q)
      ∙ sym (add-mulℤ (c *ℤ eval_m m ρ) (eval_n p ρ) (eval_n q ρ))

  norm-ok : (e : Poly) → eval_n (norm e) ρ ≡ eval e ρ
  norm-ok (X i) = +ℤ_idr (pos 1 *ℤ (at i *ℤ pos 1)) ∙ one-mulℤ (at i *ℤ pos 1) ∙ mul-oneℤ (at i)
  norm-ok (K c) = +ℤ_idr (c *ℤ pos 1) ∙ mul-oneℤ c
  norm-ok (e ⊕ f) = add_n-ok (norm e) (norm f) ∙ ap (λ (w : ℤ). w +ℤ eval_n (norm f) ρ) (norm-ok e) ∙ ap (λ (w : ℤ). eval e ρ +ℤ w) (norm-ok f)
  norm-ok (e ⊖ f) =
      add_n-ok (norm e) (mul_t (negsuc 0) [] (norm f))
      ∙ ap (λ (w : ℤ). w +ℤ eval_n (mul_t (negsuc 0) [] (norm f)) ρ) (norm-ok e)
      ∙ ap (λ (w : ℤ). eval e ρ +ℤ w) (mul_t-ok (negsuc 0) [] (norm f) ∙ neg-one-mulℤ (eval_n (norm f) ρ) ∙ ap neg_ℤ (norm-ok f))
  norm-ok (e ⊗ f) = mul_n-ok (norm e) (norm f) ∙ ap (λ (w : ℤ). w *ℤ eval_n (norm f) ρ) (norm-ok e) ∙ ap (λ (w : ℤ). eval e ρ *ℤ w) (norm-ok f)

  zero_ok : (c : ℤ) → T (is_zero c) → c ≡ pos 0
  zero_ok (pos n) t = ap pos (eqb→eq n 0 t)
  zero_ok (negsuc n) t = absurd t

  all_zero-ok : (p : Nf) → T (all_zero p) → eval_n p ρ ≡ pos 0
  all_zero-ok nil t = refl
  all_zero-ok (term c m p) t =
      ap (λ (w : ℤ). w *ℤ eval_m m ρ +ℤ eval_n p ρ) (zero_ok c (and_left (is_zero c) (all_zero p) t))
      ∙ ap (λ (w : ℤ). w +ℤ eval_n p ρ) (zero-*ℤ (eval_m m ρ))
      ∙ +ℤ_idl (eval_n p ρ) ∙ all_zero-ok p (and_right (is_zero c) (all_zero p) t)

  eq-of-sub : (x y : ℤ) → x -ℤ y ≡ pos 0 → x ≡ y
  eq-of-sub x y h =
      sym (+ℤ_idr x) ∙ ap (λ (w : ℤ). x +ℤ w) (sym (+ℤ_invl y)) ∙ sym (+ℤ_assoc x (neg_ℤ y) y)
      ∙ ap (λ (w : ℤ). w +ℤ y) h ∙ +ℤ_idl y

-- what `ring` computes
abbrev pub same : Poly → Poly → Bool
same e f = all_zero (norm (e ⊖ f))

pub ring : (e f : Poly) (ρ : List ℤ) → T (same e f) → eval e ρ ≡ eval f ρ
ring e f ρ t = eq-of-sub ρ (eval e ρ) (eval f ρ) (sym (norm-ok ρ (e ⊖ f)) ∙ all_zero-ok ρ (norm (e ⊖ f)) t)
