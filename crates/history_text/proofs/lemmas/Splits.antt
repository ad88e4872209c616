-- A text is split at its first line end in one way.
use Rattle.std.proofs.Common.{◌≡◌, ◌≢◌, ℕ, ◌+◌, ◌≤◌, suc, zero, List, [], ◌∷◌, ◌++◌, length, take, Bool, true, false, not, refl, sym, ap, subst, ◌∙◌, append_assoc, append-nil, arith, codes, nat_eq, inl, inr}
use Rattle.std.proofs.lemmas.Bool.{and_from, and_parts, true≢false}
use Rattle.std.proofs.lemmas.List.Folds.{list_all-append}
use Rattle.memchr.specs.Find.{Nowhere, Passes, is_byte}
use Rattle.history_text.specs.Lines.{is_unbroken, IsLine, IsLineBefore}

pub joined : (xs ys : List ℕ) → is_unbroken xs ≡ true → is_unbroken ys ≡ true → is_unbroken (xs ++ ys) ≡ true
joined xs ys a b = list_all-append (λ b. not (nat_eq b 10)) xs ys ∙ and_from _ _ a b

pub record SameParts (xs ys r s : List ℕ) : Type 0 where
  pub front : xs ≡ ys
  pub rest : r ≡ s

head_is : {b c : ℕ} {xs ys : List ℕ} → b ∷ xs ≡ c ∷ ys → b ≡ c
head_is e = cc

tail_is : {b c : ℕ} {xs ys : List ℕ} → b ∷ xs ≡ c ∷ ys → xs ≡ ys
tail_is e = cc

nil_cons : {c : ℕ} {xs : List ℕ} → [] ≡ c ∷ xs → ⊥
nil_cons e = cc

ten_breaks : (b : ℕ) (xs : List ℕ) → is_unbroken (b ∷ xs) ≡ true → 10 ≡ b → ⊥
ten_breaks b xs whole same = true≢false (sym (subst (λ c. not (nat_eq c 10) ≡ true) (sym same) (and_parts _ _ whole).0))

same_parts : (xs ys r s : List ℕ) → is_unbroken xs ≡ true → is_unbroken ys ≡ true → xs ++ (10 ∷ r) ≡ ys ++ (10 ∷ s) → SameParts xs ys r s
same_parts [] [] r s a b e = record { front = refl; rest = tail_is e }
same_parts [] (y ∷ ys) r s a b e = absurd (ten_breaks y ys b (head_is e))
same_parts (x ∷ xs) [] r s a b e = absurd (ten_breaks x xs a (sym (head_is e)))
same_parts (x ∷ xs) (y ∷ ys) r s a b e =
    let more = same_parts xs ys r s (and_parts _ _ a).1 (and_parts _ _ b).1 (tail_is e) in
    record { front = ap (λ c. c ∷ xs) (head_is e) ∙ ap (λ l. y ∷ l) more.front; rest = more.rest }

no_break_in : (xs ys s : List ℕ) → is_unbroken xs ≡ true → xs ≡ ys ++ (10 ∷ s) → ⊥
no_break_in [] [] s a e = nil_cons e
no_break_in [] (y ∷ ys) s a e = nil_cons e
no_break_in (x ∷ xs) [] s a e = ten_breaks x xs a (sym (head_is e))
no_break_in (x ∷ xs) (y ∷ ys) s a e = no_break_in xs ys s (and_parts _ _ a).1 (tail_is e)

-- a line of a text that begins with a whole line is that line
pub same_line : (line more whole rest : List ℕ) → IsLineBefore line more → IsLine whole → line ++ more ≡ whole ++ rest → SameParts line whole more rest
same_line line more whole rest (inl a) b e =
    let parts = same_parts a.front b.front more rest a.unbroken b.unbroken
    (sym (append_assoc a.front (codes "\n") more) ∙ (ap (λ l. l ++ more) (sym a.is) ∙ (e ∙ (ap (λ l. l ++ rest) b.is ∙ append_assoc b.front (codes "\n") rest)))) in
    record { front = a.is ∙ (ap (λ l. l ++ codes "\n") parts.front ∙ sym b.is); rest = parts.rest }
same_line line more whole rest (inr a) b e =
    absurd (no_break_in line b.front rest a.0
    (sym (append-nil line) ∙ (ap (λ m. line ++ m) (sym a.1) ∙ (e ∙ (ap (λ l. l ++ rest) b.is ∙ append_assoc b.front (codes "\n") rest)))))

-- no line ends before the first place of a line end
pub unbroken_before : (text : List ℕ) (k : ℕ) → Nowhere (Passes (is_byte 10) text) 0 k → k ≤ length text → is_unbroken (take k text) ≡ true
unbroken_before text zero none within = refl
unbroken_before [] (suc k) none within = absurd (omega arith)
unbroken_before (c ∷ text) (suc k) none within = at (nat_eq c 10) refl (unbroken_before text k (λ j from to. none (suc j) (omega arith) (omega arith)) (omega arith))
  where
    at : (b : Bool) → nat_eq c 10 ≡ b → is_unbroken (take k text) ≡ true → is_unbroken (c ∷ take k text) ≡ true
    at true s more = absurd (none 0 (omega arith) (omega arith) s)
    at false s more = and_from _ _ (ap not s) more
