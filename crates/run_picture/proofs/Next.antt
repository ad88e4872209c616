-- One more text of a list's was told.
use Rattle.std.proofs.Common.{◌≡◌, ℕ, ◌+◌, ◌<◌, List, [], ◌∷◌, ◌-◌, ◌++◌, length, get_or, map, take, drop, Some, refl, sym, ap, ◌∙◌, append-nil}
use Rattle.std.specs.List.{slice_get, flat_map}
use Rattle.std.proofs.lemmas.List.Concat.{flat_map-append}
use Rattle.std.proofs.lemmas.List.{take-map, drop-map}
use Rattle.std.proofs.lemmas.Option.{slice_get_read}
use Rattle.file_access.specs.SinkView.{SinkView}
use Rattle.file_access.specs.PageView.{PageView, Adds}
use Rattle.file_access.proofs.lemmas.Telling.{adds_as, adds_then}
use Rattle.history_text.specs.Text.{numbered}
use Rattle.run_picture.specs.Picture.{within}
use Rattle.picture_layout.specs.declared.layout.Layout.{Layout}
use Rattle.history_text.proofs.lemmas.Numbering.{adds_next, slice_get_through, take_next}

pub adds_read : {X : Type 0} {a b c : SinkView} {p q r : PageView} (line : ℕ → X → List ℕ) (n : ℕ) (xs : List X) (i m : ℕ) (x : X) → m ≡ n + i → i < length xs → x ≡ get_or xs i x
    → Adds a p b q (numbered line n (take i xs)) → Adds b q c r (line m x) → Adds a p c r (numbered line n (take (i + 1) xs))
adds_read line n xs i m x number within is before one = adds_next line n xs i m x number (slice_get_read xs (length xs) i x refl within is) before one

-- the same of what the members stand for
pub adds_viewed : {X Y : Type 0} {a b c : SinkView} {p q r : PageView} (view : X → Y) (line : ℕ → Y → List ℕ) (n : ℕ) (xs : List X) (i m : ℕ) (x : X) → m ≡ n + i → i < length xs → x ≡ get_or xs i x
    → Adds a p b q (numbered line n (take i (map view xs))) → Adds b q c r (line m (view x)) → Adds a p c r (numbered line n (take (i + 1) (map view xs)))
adds_viewed view line n xs i m x number within is before one =
    adds_next line n (map view xs) i m (view x) number (slice_get_through view xs i x (slice_get_read xs (length xs) i x refl within is)) before one

flat_map_next : {X : Type 0} (f : X → List ℕ) (xs : List X) (i : ℕ) (x : X) → slice_get xs i ≡ Some x → flat_map f (take (i + 1) xs) ≡ flat_map f (take i xs) ++ f x
flat_map_next f xs i x is = ap (flat_map f) (take_next xs i x is) ∙ (flat_map-append f (take i xs) (x ∷ []) ∙ ap (λ l. flat_map f (take i xs) ++ l) (append-nil (f x)))

-- the same where they aren't numbered
pub adds_mapped : {X Y : Type 0} {a b c : SinkView} {p q r : PageView} (view : X → Y) (f : Y → List ℕ) (xs : List X) (i : ℕ) (x : X) → i < length xs → x ≡ get_or xs i x
    → Adds a p b q (flat_map f (take i (map view xs))) → Adds b q c r (f (view x)) → Adds a p c r (flat_map f (take (i + 1) (map view xs)))
adds_mapped view f xs i x within is before one =
    adds_as (sym (flat_map_next f (map view xs) i (view x) (slice_get_through view xs i x (slice_get_read xs (length xs) i x refl within is)))) (adds_then before one)

-- those of a panel, of what the members stand for
pub within_viewed : {X Y : Type 0} (view : X → Y) (f : Layout) (xs : List X) → map view (within f xs) ≡ within f (map view xs)
within_viewed view f xs = sym (take-map view (f.behind - f.first) (drop (f.first - 1) xs)) ∙ ap (take (f.behind - f.first)) (sym (drop-map view (f.first - 1) xs))

pub adds_at : {X : Type 0} {a b c : SinkView} {p q r : PageView} (f : X → List ℕ) (xs : List X) (i : ℕ) (x : X) → slice_get xs i ≡ Some x
    → Adds a p b q (flat_map f (take i xs)) → Adds b q c r (f x) → Adds a p c r (flat_map f (take (i + 1) xs))
adds_at f xs i x is before one = adds_as (sym (flat_map_next f xs i x is)) (adds_then before one)
