-- A text is split behind its first line end.
use Rattle.std.proofs.Common.{◌≡◌, ℕ, ◌+◌, ◌<◌, List, [], ◌∷◌, ◌++◌, length, take, drop, true, refl, sym, ap, subst, ◌∙◌, append-nil, arith, inl, inr}
use Rattle.std.proofs.lemmas.Bool.{eqb-true}
use Rattle.std.proofs.lemmas.List.{take_more, take_all, take-append-drop}
use Rattle.memchr.specs.Find.{Nowhere, NoneBefore, Passes, is_byte}
use Rattle.history_text.specs.Lines.{is_unbroken, BeginsWithLine}
use Rattle.history_text.proofs.lemmas.Splits.{unbroken_before}

pub split_there : (text front rest : List ℕ) (k : ℕ) → NoneBefore (Passes (is_byte 10) text) 0 (length text) k × Passes (is_byte 10) text k
    → front ≡ take (k + 1) text → rest ≡ drop (k + 1) text → BeginsWithLine text front rest
split_there text front rest k found is behind =
    let within : k < length text = found.0.high in
    record {
      is = sym (take-append-drop (k + 1) text) ∙ (ap (λ l. l ++ drop (k + 1) text) (sym is) ∙ ap (λ l. front ++ l) (sym behind));
      line_before = inl (record {
        front = take k text;
        unbroken = unbroken_before text k found.0.before (omega arith);
        is = is ∙ (take_more text k 0 found.0.high ∙ ap (λ b. take k text ++ b ∷ []) (eqb-true _ 10 found.1));
      });
    }

pub split_nowhere : (text : List ℕ) → Nowhere (Passes (is_byte 10) text) 0 (length text) → BeginsWithLine text text []
split_nowhere text none = record {
  is = sym (append-nil text);
  line_before = inr (subst (λ (l : List ℕ). is_unbroken l ≡ true) (take_all (length text) text (omega arith)) (unbroken_before text (length text) none (omega arith)), refl);
}
