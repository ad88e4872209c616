-- Entries behind a past: how many they are, each by its number, without the last, and those behind the past alone.
use Rattle.std.proofs.Common.{◌≡◌, ℕ, zero, suc, ◌+◌, ◌-◌, ◌<◌, ◌≤◌, List, [], ◌∷◌, ◌++◌, length, take, drop, sym, ◌∙◌, ap, arith}
use Rattle.std.specs.Prelude.{slice_get}
use Rattle.std.proofs.lemmas.List.{length-append, nil_from_length}
use Rattle.std.proofs.Math.Seq.{drop-append_seam, take-append-add}
use Rattle.lock_journal.specs.Names.{Entry, HistoryView, last_changes, made_by, SegmentView}
use Rattle.lock_journal.specs.HistoryView.{history_of}

pub end_of : (past kept : List Entry) (n : ℕ) → n ≡ length past → n + length kept ≡ length (past ++ kept)
end_of past kept n is = omega (arith, length-append past kept)

-- not all were given away
pub some_kept : (past : List Entry) (kept : SegmentView) (h : HistoryView) → history_of past kept ≡ h → kept.before ≡ length past → h.given < length h.entries → 0 < length kept.entries
some_kept past kept h view is some =
    omega (arith, end_of past kept.entries kept.before is, some, ap (λ (v : HistoryView). v.given) view, ap (λ (v : HistoryView). length v.entries) view)

pub got_behind : (past kept : List Entry) (i : ℕ) → length past ≤ i → slice_get (past ++ kept) i ≡ slice_get kept (i - length past)
got_behind [] kept i le = let same : i ≡ i - 0 = omega arith in ap (slice_get kept) same
got_behind (e ∷ past) kept zero le = absurd (omega arith)
got_behind (e ∷ past) kept (suc i) le =
    let same : i - length past ≡ suc i - suc (length past) = omega arith in
    got_behind past kept i (omega arith) ∙ ap (slice_get kept) same

pub last_behind : (past kept : List Entry) → 0 < length kept → slice_get (past ++ kept) (length (past ++ kept) - 1) ≡ slice_get kept (length kept - 1)
last_behind past kept some =
    let n : length (past ++ kept) - 1 - length past ≡ length kept - 1 = omega (arith, length-append past kept) in
    got_behind past kept (length (past ++ kept) - 1) (omega (arith, length-append past kept)) ∙ ap (slice_get kept) n

pub last_changes_behind : (past kept : List Entry) → 0 < length kept → last_changes kept ≡ last_changes (past ++ kept)
last_changes_behind past kept some = ap made_by (sym (last_behind past kept some))

pub front_behind : (past kept : List Entry) → 0 < length kept → past ++ take (length kept - 1) kept ≡ take (length (past ++ kept) - 1) (past ++ kept)
front_behind past kept some =
    let n : length past + (length kept - 1) ≡ length (past ++ kept) - 1 = omega (arith, length-append past kept) in
    sym (take-append-add past kept (length kept - 1)) ∙ ap (λ k. take k (past ++ kept)) n

pub kept_behind : (past kept : List Entry) (n : ℕ) → n ≡ length past → kept ≡ drop n (past ++ kept)
kept_behind past kept n is = sym (drop-append_seam past kept) ∙ ap (λ k. drop k (past ++ kept)) (sym is)

pub all_kept : (past kept : List Entry) (n : ℕ) → n ≡ length past → n ≡ 0 → kept ≡ past ++ kept
all_kept past kept n is none = ap (λ es. es ++ kept) (sym (nil_from_length past (sym is ∙ none)))
