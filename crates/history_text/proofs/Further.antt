-- One turn of reading further changes.
use Rattle.std.proofs.Common.{◌≡◌, ℕ, ◌+◌, ◌-◌, ◌<◌, suc, List, [], ◌∷◌, ◌++◌, Option, Some, None, refl, sym, ap, ◌∙◌, append_assoc, append-nil, arith, codes}
use Rattle.history_text.specs.Plain.{WorkerId, Change}
use Rattle.history_text.specs.Reading.{◌>>=◌, on, after, change_at, further_at, with_front}

turn_left : (len i : ℕ) → i < len → len - i ≡ suc (len - (i + 1))
turn_left len i within = omega arith

pub further_done : (front : List Change) (len i : ℕ) (w : WorkerId) (text : List ℕ) → i < len → None ≡ after (codes ", ") text
    → with_front front (further_at (len - i) w text) ≡ Some (front, text)
further_done front len i w text within e =
    ap (λ t. with_front front (further_at t w text)) (turn_left len i within)
    ∙ (ap (λ o. with_front front (on o (λ rest. change_at w rest >>= λ c. further_at (len - (i + 1)) w c.1 >>= λ cs. Some (c.0 ∷ cs.0, cs.1)) (Some ([], text)))) (sym e)
    ∙ ap (λ l. Some (l, text)) (append-nil front))

chosen : (front : List Change) (len i : ℕ) (w : WorkerId) (text next : List ℕ) → i < len → Some next ≡ after (codes ", ") text
    → with_front front (further_at (len - i) w text) ≡ with_front front (change_at w next >>= λ c. further_at (len - (i + 1)) w c.1 >>= λ cs. Some (c.0 ∷ cs.0, cs.1))
chosen front len i w text next within e =
    ap (λ t. with_front front (further_at t w text)) (turn_left len i within)
    ∙ ap (λ o. with_front front (on o (λ rest. change_at w rest >>= λ c. further_at (len - (i + 1)) w c.1 >>= λ cs. Some (c.0 ∷ cs.0, cs.1)) (Some ([], text)))) (sym e)

pub further_wrong : (front : List Change) (len i : ℕ) (w : WorkerId) (text next : List ℕ) → i < len → Some next ≡ after (codes ", ") text → None ≡ change_at w next
    → with_front front (further_at (len - i) w text) ≡ None
further_wrong front len i w text next within e wrong =
    chosen front len i w text next within e
    ∙ ap (λ r. with_front front (r >>= λ c. further_at (len - (i + 1)) w c.1 >>= λ cs. Some (c.0 ∷ cs.0, cs.1))) (sym wrong)

behind : (front : List Change) (c : Change) (r : Option (List Change × List ℕ)) → with_front front (r >>= λ cs. Some (c ∷ cs.0, cs.1)) ≡ with_front (front ++ c ∷ []) r
behind front c None = refl
behind front c (Some x) = ap (λ l. Some (l, x.1)) (sym (append_assoc front (c ∷ []) x.0))

pub further_more : (front : List Change) (len i : ℕ) (w : WorkerId) (text next : List ℕ) (c : Change) (more : List ℕ) → i < len → Some next ≡ after (codes ", ") text → Some (c, more) ≡ change_at w next
    → with_front front (further_at (len - i) w text) ≡ with_front (front ++ c ∷ []) (further_at (len - (i + 1)) w more)
further_more front len i w text next c more within e read =
    chosen front len i w text next within e
    ∙ (ap (λ r. with_front front (r >>= λ c. further_at (len - (i + 1)) w c.1 >>= λ cs. Some (c.0 ∷ cs.0, cs.1))) (sym read)
    ∙ behind front c (further_at (len - (i + 1)) w more))
