-- The changes of a history's last entry, where they are still noted.
use Rattle.std.proofs.Common.{◌≡◌, ◌-◌, List, [], ◌∷◌, ◌++◌, length, length-append, Some, inl, inr, ap, ◌∙◌, arith}
use Rattle.std.specs.Prelude.{slice_get}
use Rattle.std.proofs.Math.Seq.{get_or-append_seam}
use Rattle.std.proofs.lemmas.Option.{slice_get-get_or}
use Rattle.lock_journal.specs.Names.{Change, WorkerId, Entry, entry, Kind, AreLastOrNone, last_changes, made_by}

last_of_more : (h : List Entry) (e : Entry) → slice_get (h ++ e ∷ []) (length (h ++ e ∷ []) - 1) ≡ Some e
last_of_more h e =
    let count = length-append h (e ∷ []) in
    let place : length (h ++ e ∷ []) - 1 ≡ length h = omega arith in
    ap (slice_get (h ++ e ∷ [])) place ∙ slice_get-get_or (h ++ e ∷ []) (length h) e (omega arith) ∙ ap Some (get_or-append_seam h e [] e)

-- those of an entry that was added
pub last_pushed : (h : List Entry) (w : WorkerId) (kind : Kind) (cs : List Change) → last_changes (h ++ entry w kind (Some cs) ∷ []) ≡ cs
last_pushed h w kind cs = ap made_by (last_of_more h (entry w kind (Some cs)))

-- where some are noted
pub last_noted : (cs : List Change) (h : List Entry) → AreLastOrNone cs h → (cs ≡ [] → ⊥) → cs ≡ last_changes h
last_noted cs h (inl none) some = absurd (some none)
last_noted cs h (inr last) some = last
