-- Lines that begin behind the first members of a whole.
use Rattle.std.proofs.Common.{◌≡◌, ℕ, ◌+◌, ◌-◌, ◌<◌, ◌≤◌, List, length, take, drop, get_or, Some, refl, sym, ap, ◌∙◌, arith}
use Rattle.std.specs.List.{slice_get}
use Rattle.std.proofs.lemmas.List.{get_or-drop, length-drop}
use Rattle.std.proofs.lemmas.Option.{slice_get_within, get_or_from_slice_get, slice_get_read}
use Rattle.file_access.specs.SinkView.{SinkView}
use Rattle.file_access.specs.PageView.{PageView, Adds}
use Rattle.file_access.proofs.lemmas.Telling.{adds_as}
use Rattle.history_text.specs.Text.{numbered}
use Rattle.history_text.proofs.lemmas.Numbering.{adds_next}

-- one more line, where the lines begin behind the first n members of a whole
pub adds_behind : {X : Type 0} {a b c : SinkView} {p q r : PageView} (line : ℕ → X → List ℕ) (n : ℕ) (xs : List X) (place : ℕ) (x : X) → n ≤ place → slice_get xs (place - n) ≡ Some x
    → Adds a p b q (numbered line (n + 1) (take (place - n) xs)) → Adds b q c r (line (place + 1) x) → Adds a p c r (numbered line (n + 1) (take (place + 1 - n) xs))
adds_behind line n xs place x behind is before one =
    let next : place - n + 1 ≡ place + 1 - n = omega arith in
    adds_as (ap (λ k. numbered line (n + 1) (take k xs)) next) (adds_next line (n + 1) xs (place - n) (place + 1) x (omega arith) is before one)

-- what stands at a place behind the first n
pub slice_get_behind : {X : Type 0} (n : ℕ) (xs : List X) (i : ℕ) (x : X) → n ≤ i → slice_get xs i ≡ Some x → slice_get (drop n xs) (i - n) ≡ Some x
slice_get_behind n xs i x behind is =
    let within : i < length xs = slice_get_within xs i x is in
    let same : n + (i - n) ≡ i = omega arith in
    slice_get_read (drop n xs) (length (drop n xs)) (i - n) x refl (omega (arith, length-drop n xs))
    (sym (get_or-drop n xs (i - n) x ∙ ap (λ k. get_or xs k x) same ∙ get_or_from_slice_get xs i x x is))
