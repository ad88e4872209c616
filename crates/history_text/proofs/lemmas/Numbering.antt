-- One more numbered line at the end.
use Rattle.std.proofs.Common.{◌≡◌, ℕ, ◌+◌, ◌-◌, ◌<◌, List, [], ◌∷◌, ◌++◌, length, map, take, Some, sym, ap, ◌∙◌, append_assoc, append-nil, arith, suc}
use Rattle.std.specs.List.{slice_get}
use Rattle.std.specs.Option.{option_map}
use Rattle.std.proofs.lemmas.List.{take_more, length-take-le}
use Rattle.std.proofs.lemmas.Option.{slice_get_within, get_or_from_slice_get, slice_get-map}
use Rattle.file_access.specs.SinkView.{SinkView}
use Rattle.file_access.specs.PageView.{PageView, Adds}
use Rattle.file_access.proofs.lemmas.Telling.{adds_as, adds_then}
use Rattle.history_text.specs.Text.{numbered}

pub numbered-append : {X : Type 0} (line : ℕ → X → List ℕ) (n : ℕ) (xs ys : List X) → numbered line n (xs ++ ys) ≡ numbered line n xs ++ numbered line (n + length xs) ys
numbered-append line n [] ys = ap (λ m. numbered line m ys) (omega arith)
numbered-append line n (x ∷ xs) ys =
    let k : n + 1 + length xs ≡ n + suc (length xs) = omega arith in
    ap (λ l. line n x ++ l) (numbered-append line (n + 1) xs ys ∙ ap (λ m. numbered line (n + 1) xs ++ numbered line m ys) k)
    ∙ sym (append_assoc (line n x) (numbered line (n + 1) xs) (numbered line (n + suc (length xs)) ys))

-- the members so far, and the next
pub take_next : {X : Type 0} (xs : List X) (i : ℕ) (x : X) → slice_get xs i ≡ Some x → take (i + 1) xs ≡ take i xs ++ x ∷ []
take_next xs i x is = take_more xs i x (slice_get_within xs i x is) ∙ ap (λ y. take i xs ++ y ∷ []) (get_or_from_slice_get xs i x x is)

numbered-next : {X : Type 0} (line : ℕ → X → List ℕ) (n : ℕ) (xs : List X) (i : ℕ) (x : X) → slice_get xs i ≡ Some x → numbered line n (take (i + 1) xs) ≡ numbered line n (take i xs) ++ line (n + i) x
numbered-next line n xs i x is =
    let within : i < length xs = slice_get_within xs i x is in
    let long : length (take i xs) ≡ i = length-take-le i xs (omega arith) in
    ap (numbered line n) (take_next xs i x is)
    ∙ (numbered-append line n (take i xs) (x ∷ [])
    ∙ (ap (λ m. numbered line n (take i xs) ++ numbered line (n + m) (x ∷ [])) long
    ∙ ap (λ l. numbered line n (take i xs) ++ l) (append-nil (line (n + i) x))))

-- one more line was told
pub adds_next : {X : Type 0} {a b c : SinkView} {p q r : PageView} (line : ℕ → X → List ℕ) (n : ℕ) (xs : List X) (i m : ℕ) (x : X) → m ≡ n + i → slice_get xs i ≡ Some x
    → Adds a p b q (numbered line n (take i xs)) → Adds b q c r (line m x) → Adds a p c r (numbered line n (take (i + 1) xs))
adds_next line n xs i m x number is before one = adds_as (ap (λ k. numbered line n (take i xs) ++ line k x) number ∙ sym (numbered-next line n xs i x is)) (adds_then before one)

pub slice_get_through : {X Y : Type 0} (f : X → Y) (xs : List X) (i : ℕ) (x : X) → slice_get xs i ≡ Some x → slice_get (map f xs) i ≡ Some (f x)
slice_get_through f xs i x is = slice_get-map f xs i ∙ ap (option_map f) is
