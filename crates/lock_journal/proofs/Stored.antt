-- What is stored of a history, and of one with one more entry.
use Rattle.std.proofs.Common.{◌≡◌, ℕ, suc, zero, ◌≤◌, ◌<◌, ◌+◌, ◌-◌, Bool, true, false, length, drop, List, [], ◌∷◌, cond, Some, None, refl, sym, ◌∙◌, ap, subst, arith}
use Rattle.std.specs.Prelude.{map, slice_get}
use Rattle.std.specs.List.{slice_range, slice_index_or}
use Rattle.std.proofs.lemmas.Option.{slice_get_read, slice_get_within}
use Rattle.std.proofs.lemmas.List.{drop_all, take_all, length-drop}
use Rattle.lock_journal.specs.Names.{Change, AreStored, IsLastNumber, closings_until, end_before, entries_from, entry_from, segment_view, SegmentView}
use Rattle.lock_journal.specs.Names.{last_changes, made_by, Closed, change_of_worker}
use Rattle.lock_journal.specs.StoredEntry.{IsNumberOf, closings_before}
use Rattle.lock_journal.specs.LastChanges.{made_where_finished}
use Rattle.lock_journal.specs.declared.stored_changes.StoredChange.{StoredChange}
use Rattle.lock_journal.specs.declared.stored_entries.StoredEntry.{StoredEntry}
use Rattle.lock_journal.specs.declared.stored_entries.StoredKind.{StoredKind}
use Rattle.lock_journal.specs.declared.stored_entries.StoredKind.TheVariants as stored
use Rattle.lock_journal.specs.declared.segments.Segment.TheInside.{Inside}

pub length_of_entries : (cs : List StoredChange) (ds : List Closed) (ks : List StoredEntry) → length (entries_from cs ds ks) ≡ length ks
length_of_entries cs ds [] = refl
length_of_entries cs ds (k ∷ ks) = ap suc (length_of_entries cs ds ks)

entry_at-suc : (cs : List StoredChange) (ds : List Closed) (ks : List StoredEntry) (i : ℕ) (k : StoredEntry) → slice_get ks i ≡ Some k → slice_get (entries_from cs ds ks) i ≡ Some (entry_from cs ds (end_before (drop (suc i) ks) (length cs)) k)
entry_at-suc cs ds [] i k at = absurd (cc)
entry_at-suc cs ds (j ∷ ks) zero k at = let same : j ≡ k = cc in ap (λ x. Some (entry_from cs ds (end_before ks (length cs)) x)) same
entry_at-suc cs ds (j ∷ ks) (suc i) k at = entry_at-suc cs ds ks i k at

-- the entry at a place
pub entry_at : (cs : List StoredChange) (ds : List Closed) (ks : List StoredEntry) (i : ℕ) (k : StoredEntry) → slice_get ks i ≡ Some k → slice_get (entries_from cs ds ks) i ≡ Some (entry_from cs ds (end_before (drop (i + 1) ks) (length cs)) k)
entry_at cs ds ks i k at =
    let next : suc i ≡ i + 1 = omega arith in
    entry_at-suc cs ds ks i k at ∙ ap (λ n. Some (entry_from cs ds (end_before (drop n ks) (length cs)) k)) next

-- the changes of entries end among all
pub end_within : (n m : ℕ) (ks : List StoredEntry) → AreStored n m ks → end_before ks n ≤ n
end_within n m [] h = omega arith
end_within n m (k ∷ ks) h = omega (arith, end_within n m ks h.2, h.0)

-- the place of the last of so many closings is that of one of as many or more
pub number_among : (m l : ℕ) (kind : StoredKind) (n : ℕ) → m ≤ l → IsLastNumber m kind n → IsNumberOf l kind n
number_among m l stored.Start n le h = h
number_among m l stored.Skip n le h = h
number_among m l stored.Submit n le h = h
number_among m l stored.Park n le h = h
number_among m l stored.Resume n le h = h
number_among m l stored.Claim n le h = h
number_among m l stored.Close n le h = omega (arith, h, le)
number_among m l stored.BlockForFetch n le h = h
number_among m l stored.Block n le h = h
number_among m l stored.UnblockAfterFetch n le h = omega (arith, h, le)
number_among m l stored.Unblock n le h = h
number_among m l stored.End n le h = h
number_among m l stored.Acquire n le h = h
number_among m l stored.HandBack n le h = h

pub until_within : (m : ℕ) (kind : StoredKind) (n : ℕ) → IsLastNumber m kind n → closings_until kind n m ≤ m
until_within m stored.Start n h = omega arith
until_within m stored.Skip n h = omega arith
until_within m stored.Submit n h = omega arith
until_within m stored.Park n h = omega arith
until_within m stored.Resume n h = omega arith
until_within m stored.Claim n h = omega arith
until_within m stored.Close n h = omega (arith, h)
until_within m stored.BlockForFetch n h = omega arith
until_within m stored.Block n h = omega arith
until_within m stored.UnblockAfterFetch n h = omega (arith, h)
until_within m stored.Unblock n h = omega arith
until_within m stored.End n h = omega arith
until_within m stored.Acquire n h = omega arith
until_within m stored.HandBack n h = omega arith

pub until_close : (m : ℕ) (kind : StoredKind) (n : ℕ) → IsLastNumber m kind n → m ≤ closings_until kind n m + 1
until_close m stored.Start n h = omega arith
until_close m stored.Skip n h = omega arith
until_close m stored.Submit n h = omega arith
until_close m stored.Park n h = omega arith
until_close m stored.Resume n h = omega arith
until_close m stored.Claim n h = omega arith
until_close m stored.Close n h = omega (arith, h)
until_close m stored.BlockForFetch n h = omega arith
until_close m stored.Block n h = omega arith
until_close m stored.UnblockAfterFetch n h = omega (arith, h)
until_close m stored.Unblock n h = omega arith
until_close m stored.End n h = omega arith
until_close m stored.Acquire n h = omega arith
until_close m stored.HandBack n h = omega arith

-- the closings before those of entries stand among all
pub before_within : (n m : ℕ) (ks : List StoredEntry) → AreStored n m ks → closings_before ks m ≤ m
before_within n m [] h = omega arith
before_within n m (k ∷ ks) h = omega (arith, before_within n m ks h.2, until_within (closings_before ks m) k.kind k.number h.1)

pub record StandsAt (n m : ℕ) (end : ℕ) (k : StoredEntry) : Type 0 where
  pub ordered : k.start ≤ end
  pub bounded : end ≤ n
  pub number : IsNumberOf m k.kind k.number

stands_at-suc : (n m : ℕ) (ks : List StoredEntry) (i : ℕ) (k : StoredEntry) → AreStored n m ks → slice_get ks i ≡ Some k → StandsAt n m (end_before (drop (suc i) ks) n) k
stands_at-suc n m [] i k h at = absurd (cc)
stands_at-suc n m (j ∷ ks) zero k h at =
    let same : j ≡ k = cc in
    subst (StandsAt n m (end_before ks n)) same (record { ordered = h.0; bounded = end_within n m ks h.2; number = number_among (closings_before ks m) m j.kind j.number (before_within n m ks h.2) h.1 })
stands_at-suc n m (j ∷ ks) (suc i) k h at = stands_at-suc n m ks i k h.2 at

pub stands_at : (n m : ℕ) (ks : List StoredEntry) (i : ℕ) (k : StoredEntry) → AreStored n m ks → slice_get ks i ≡ Some k → StandsAt n m (end_before (drop (i + 1) ks) n) k
stands_at n m ks i k h at =
    let next : suc i ≡ i + 1 = omega arith in
    subst (λ x. StandsAt n m (end_before (drop x ks) n) k) next (stands_at-suc n m ks i k h at)

-- what is read at a place of the view
pub read_at : (h : Inside) (v : SegmentView) (i : ℕ) (k : StoredEntry) → segment_view h ≡ v → i < length v.entries → k ≡ slice_index_or h.stored.items i k → slice_get h.stored.items i ≡ Some k
read_at h v i k view within is =
    let same = ap (λ (w : SegmentView). length w.entries) view in
    let long = length_of_entries h.changes.items h.closings.items h.stored.items in
    slice_get_read h.stored.items (length h.stored.items) i k refl (omega arith) is

-- the end that is read from those of the next entries
pub end_read : (ks ls : List StoredEntry) (a n end : ℕ) → ls ≡ ks → end ≡ end_before (slice_range ls a (length ls)) n → end ≡ end_before (drop a ks) n
end_read ks ls a n end same is =
    is
    ∙ ap (λ x. end_before x n) (take_all (length ls - a) (drop a ls) (omega (arith, length-drop a ls)))
    ∙ ap (λ x. end_before (drop a x) n) same

pub shown_as : (failed : Bool) (xs ys : List Change) → ys ≡ cond failed [] xs → cond failed None (Some xs) ≡ cond failed None (Some ys)
shown_as true xs ys is = refl
shown_as false xs ys is = ap Some (sym is)

-- the last entry's changes end where all do
end_last : (ks : List StoredEntry) (n : ℕ) (k : StoredEntry) → slice_get ks (length ks - 1) ≡ Some k → end_before (drop (length ks - 1 + 1) ks) n ≡ n
end_last ks n k at =
    let within = slice_get_within ks (length ks - 1) k at in
    ap (λ x. end_before x n) (drop_all (length ks - 1 + 1) ks (omega arith))

pub last_starts : (n m : ℕ) (ks : List StoredEntry) (k : StoredEntry) → AreStored n m ks → slice_get ks (length ks - 1) ≡ Some k → k.start ≤ n
last_starts n m ks k h at =
    let stands = stands_at n m ks (length ks - 1) k h at in
    omega (arith, stands.ordered, stands.bounded)

made_or_none : (failed : Bool) (xs : List Change) → made_where_finished (cond failed None (Some xs)) ≡ cond failed [] xs
made_or_none true xs = refl
made_or_none false xs = refl

pub last_made : (cs : List StoredChange) (ds : List Closed) (ks : List StoredEntry) (k : StoredEntry) → slice_get ks (length ks - 1) ≡ Some k
    → last_changes (entries_from cs ds ks) ≡ cond k.failed [] (map (change_of_worker k.worker) (slice_range cs k.start (length cs)))
last_made cs ds ks k at =
    ap (λ n. made_by (slice_get (entries_from cs ds ks) (n - 1))) (length_of_entries cs ds ks)
    ∙ ap made_by (entry_at cs ds ks (length ks - 1) k at)
    ∙ ap (λ end. made_by (Some (entry_from cs ds end k))) (end_last ks (length cs) k at)
    ∙ made_or_none k.failed (map (change_of_worker k.worker) (slice_range cs k.start (length cs)))
