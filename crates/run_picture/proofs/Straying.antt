-- The first entry of a worker that the head doesn't have, as it is looked for.
use Rattle.std.proofs.Common.{◌≡◌, ◌≤◌, ◌<◌, ℕ, ◌+◌, true, false, cond, List, ◌∷◌, Some, None, length, get_or, drop, map, sym, ap, ◌∙◌, arith}
use Rattle.std.specs.Prelude.{nat_le}
use Rattle.std.proofs.lemmas.List.{at_drop_more, at_drop_all, get_or-map, length-map}
use Rattle.lock_transforms.specs.Entry.{Entry}
use Rattle.history_text.specs.HistoryView.{entry_read}
use Rattle.history_text.specs.declared.read_histories.HistoryEntry.{HistoryEntry}
use Rattle.run_picture.specs.Picture.{stray_from}

here : (w : ℕ) (xs : List HistoryEntry) (i : ℕ) (x : HistoryEntry) → i < length xs → x ≡ get_or xs i x
    → stray_from w (i + 1) (drop i (map entry_read xs)) ≡ stray_from w (i + 1) (entry_read x ∷ drop (i + 1) (map entry_read xs))
here w xs i x within is =
    at_drop_more (stray_from w (i + 1)) (map entry_read xs) i (entry_read x) (omega (arith, within, length-map xs entry_read))
    ∙ ap (λ (e : Entry). stray_from w (i + 1) (e ∷ drop (i + 1) (map entry_read xs))) (get_or-map entry_read xs i x (entry_read x) within ∙ ap entry_read (sym is))

-- an entry of a worker that the head has is passed over
pub stray_more : (w : ℕ) (xs : List HistoryEntry) (i : ℕ) (x : HistoryEntry) → i < length xs → x ≡ get_or xs i x → nat_le w x.worker.0 ≡ false
    → stray_from w (i + 1 + 1) (drop (i + 1) (map entry_read xs)) ≡ stray_from w (i + 1) (drop i (map entry_read xs))
stray_more w xs i x within is had =
    sym (here w xs i x within is ∙ ap (λ b. cond b (Some (i + 1)) (stray_from w (i + 1 + 1) (drop (i + 1) (map entry_read xs)))) had)

pub stray_here : (w : ℕ) (xs : List HistoryEntry) (i : ℕ) (x : HistoryEntry) → i < length xs → x ≡ get_or xs i x → nat_le w x.worker.0 ≡ true
    → Some (i + 1) ≡ stray_from w (i + 1) (drop i (map entry_read xs))
stray_here w xs i x within is strays =
    sym (here w xs i x within is ∙ ap (λ b. cond b (Some (i + 1)) (stray_from w (i + 1 + 1) (drop (i + 1) (map entry_read xs)))) strays)

-- behind all there is none
pub stray_none : (w : ℕ) (xs : List HistoryEntry) (i : ℕ) → length xs ≤ i → None ≡ stray_from w (i + 1) (drop i (map entry_read xs))
stray_none w xs i past = sym (at_drop_all (stray_from w (i + 1)) (map entry_read xs) i (omega (arith, past, length-map xs entry_read)))
