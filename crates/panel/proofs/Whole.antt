-- What panel prints of the text that was read is what it prints of all that the reader had.
-- Assumes nothing.
use Rattle.std.proofs.Common.{◌≡◌, ◌∙◌, sym, ap, subst, ℕ, ◌≤◌, ◌<◌, Bool, true, false, List, map, [], ◌++◌, length, take, drop, ltb, lt-ltb, ltb-false, ltb-true, refl, le-ltb, arith, Option, Some, None, IfSome, Result, Ok, Err, OnOk, append-nil, length-append, length-take-le, take_all}
use Rattle.std.specs.Io.KnownBytes.{Consumes, IsAtEnd, Appends}
use lib.Seq.{take-append-le}
use Rattle.spec_picture.specs.Refusal.{refused}
use Rattle.spec_panel.specs.Text.{runs, number}
use Rattle.spec_panel.specs.Panel.{parsed, sized, output_of, panel}
use Rattle.panel_text.specs.Rendered.{Rendering, rendered}

-- a text that is too long is refused, whatever it holds
pub panel-long : (text : List ℕ) → 65536 < length text → panel text ≡ output_of (refused 10)
unfolding panel parsed
panel-long text h = ap (λ (b : Bool). output_of (elim b [ true ↦ refused 10 | false ↦ sized (map number (runs text)) ])) (lt-ltb 65536 (length text) h)

-- the front of the area is the output
abbrev laid : (text out : List ℕ) → Bool → Rendering
laid text out b = elim b [ true ↦ record { count = 0; area = out } | false ↦ record { count = length (panel text); area = panel text ++ drop (length (panel text)) out } ]

pub rendered-front : (text out new : List ℕ) (count : ℕ) → 28672 ≤ length out → count ≡ (rendered text out).count → new ≡ (rendered text out).area → take count new ≡ panel text
unfolding rendered
rendered-front text out new count room e a =
    let wide = ap (laid text out) (le-ltb (length out) 28672 room) in
    ap (λ n. take n new) (e ∙ ap (λ r. r.count) wide) ∙ ap (take (length (panel text))) (a ∙ ap (λ r. r.area) wide) ∙ take-append-le (length (panel text)) (panel text) _ (omega arith) ∙ take_all _ _ (omega arith)

read-whole : (n : ℕ) (text ys : List ℕ) → 65537 ≡ length text → n ≤ length text → (n < length text → ys ≡ []) → (b : Bool) → ltb n (length text) ≡ b → panel (take n text ++ ys) ≡ panel (take n text)
read-whole n text ys full within end true e = ap (λ l. panel (take n text ++ l)) (end (omega (arith, ltb-true n (length text) e))) ∙ ap panel (append-nil (take n text))
read-whole n text ys full within end false e =
    let long : 65536 < length (take n text) = omega (arith, length-take-le n text within, ltb-false n (length text) e) in
    panel-long _ (omega (arith, length-append (take n text) ys, long)) ∙ sym (panel-long _ long)

pub whole : (old new : Option (List ℕ)) (n : ℕ) (text : List ℕ) → 65537 ≡ length text → n ≤ length text → Consumes old new (take n text) → (n < length text → IsAtEnd new) → IfSome old (λ xs. panel xs ≡ panel (take n text))
whole None new n text full within bytes end = tt
whole (Some xs) None n text full within bytes end = absurd bytes
whole (Some xs) (Some ys) n text full within bytes end = ap panel bytes ∙ read-whole n text ys full within end (ltb n (length text)) refl

-- the writer gets what panel prints of all that the reader had
pub prints : {A E : Type 0} (r : Result A E) (old before after : Option (List ℕ)) (text bytes : List ℕ) → IfSome old (λ xs. panel xs ≡ panel text) → bytes ≡ panel text
    → OnOk r (Appends before after bytes) → OnOk r (IfSome old (λ xs. Appends before after (panel xs)))
prints (Ok x) None before after text bytes h e p = tt
prints (Ok x) (Some xs) before after text bytes h e p = subst (Appends before after) (e ∙ sym h) p
prints (Err x) old before after text bytes h e p = p
