-- What a stored entry stands for.
use Rattle.std.specs.Prelude.{ℕ, ◌≡◌, ◌+◌, ◌≤◌, ◌<◌, List, [], ◌∷◌, length, None, Some, slice_index_or}
use Rattle.std.specs.Prelude.{map, slice_range, if◌then◌else◌}
use Rattle.item_actions.specs.declared.outcomes.Outcome.{Outcome}
use Rattle.item_actions.specs.declared.outcomes.Outcome.TheVariants as outcomes
use Rattle.lock_transforms.specs.Entry.{Entry, entry}
use Rattle.lock_transforms.specs.declared.entries.Closed.{Closed}
use Rattle.lock_transforms.specs.declared.entries.Kind.{Kind}
use Rattle.lock_transforms.specs.declared.entries.Kind.TheVariants.{Start, Skip, Submit, Park, Resume, Claim, Close, Block, Unblock, End, Acquire, HandBack}
use Rattle.lock_journal.specs.Closings.{closing_of}
use Rattle.lock_journal.specs.StoredChange.{change_of_worker}
use Rattle.lock_journal.specs.declared.stored_changes.StoredChange.{StoredChange}
use Rattle.lock_journal.specs.declared.stored_entries.StoredEntry.{StoredEntry}
use Rattle.lock_journal.specs.declared.stored_entries.StoredKind.{StoredKind}
use Rattle.lock_journal.specs.declared.stored_entries.StoredKind.TheVariants as stored

-- the closing at a place
abbrev pub closing_at : List Closed → ℕ → Closed
closing_at closings place = slice_index_or closings place (record { unit = 0; outcome = outcomes.Skipped })

-- where a unit's closing stands after an entry that gives it these outcomes, by a closing at that place
abbrev pub place_after : List Outcome → ℕ → ℕ → ℕ
place_after [] place old = old
place_after (o ∷ os) place old = place

-- the kind that is stored so, where these are the closings of all entries
abbrev pub kind_from : List Closed → StoredKind → ℕ → Kind
kind_from closings stored.Start n = Start n
kind_from closings stored.Skip n = Skip n
kind_from closings stored.Submit n = Submit n
kind_from closings stored.Park n = Park n
kind_from closings stored.Resume n = Resume n
kind_from closings stored.Claim n = Claim n
kind_from closings stored.Close n = Close (closing_at closings n)
kind_from closings stored.BlockForFetch n = Block (Some n)
kind_from closings stored.Block n = Block None
kind_from closings stored.UnblockAfterFetch n = Unblock (Some (closing_at closings n))
kind_from closings stored.Unblock n = Unblock None
kind_from closings stored.End n = End n
kind_from closings stored.Acquire n = Acquire
kind_from closings stored.HandBack n = HandBack

-- how many closings stand before the entry's own, which is the last of so many, if it has one
abbrev pub closings_until : StoredKind → ℕ → ℕ → ℕ
closings_until stored.Close n closings = n
closings_until stored.UnblockAfterFetch n closings = n
closings_until _ n closings = closings

-- the number is the place of the last of so many closings, where it is a place
abbrev pub IsLastNumber : ℕ → StoredKind → ℕ → Type 0
IsLastNumber closings stored.Close n = n + 1 ≡ closings
IsLastNumber closings stored.UnblockAfterFetch n = n + 1 ≡ closings
IsLastNumber closings _ n = Unit {0}

-- the number is the place of one of so many closings, where it is a place
abbrev pub IsNumberOf : ℕ → StoredKind → ℕ → Type 0
IsNumberOf closings stored.Close n = n < closings
IsNumberOf closings stored.UnblockAfterFetch n = n < closings
IsNumberOf closings _ n = Unit {0}

-- where the changes end that come before those of these entries, of so many in all
abbrev pub end_before : List StoredEntry → ℕ → ℕ
end_before [] changes = changes
end_before (k ∷ ks) changes = k.start

-- how many closings stand before those of these entries, of so many in all
abbrev pub closings_before : List StoredEntry → ℕ → ℕ
closings_before [] closings = closings
closings_before (k ∷ ks) closings = closings_until k.kind k.number (closings_before ks closings)

-- the entry, whose changes end there among those of all entries
abbrev pub entry_from : List StoredChange → List Closed → ℕ → StoredEntry → Entry
entry_from changes closings end k = entry k.worker (kind_from closings k.kind k.number)
    (if k.failed then None else Some (map (change_of_worker k.worker) (slice_range changes k.start end)))

-- the entries in order: the changes of each end where those of the next begin
abbrev pub entries_from : List StoredChange → List Closed → List StoredEntry → List Entry
entries_from changes closings [] = []
entries_from changes closings (k ∷ ks) = entry_from changes closings (end_before ks (length changes)) k ∷ entries_from changes closings ks

-- of so many changes and closings, each entry has a range and a number, one behind the other
abbrev pub AreStored : ℕ → ℕ → List StoredEntry → Type 0
AreStored changes closings [] = Unit {0}
AreStored changes closings (k ∷ ks) =
    (k.start ≤ end_before ks changes) × IsLastNumber (closings_before ks closings) k.kind k.number × AreStored changes closings ks

-- where a unit's closing stands after an entry whose own closing, if it has one, stands at that place
abbrev pub place_by : List Closed → StoredEntry → ℕ → ℕ → ℕ → ℕ
place_by closings k place u old = if k.failed then old else place_after (closing_of u (kind_from closings k.kind k.number)) place old

-- where a unit's last closing stands after these entries
abbrev pub place_in : List Closed → List StoredEntry → ℕ → ℕ → ℕ
place_in closings [] u old = old
place_in closings (k ∷ ks) u old = place_in closings ks u (place_by closings k k.number u old)

-- each entry keeps where the closing stood before it of the unit that it closes
abbrev pub KeepEarlier : List Closed → List StoredEntry → ℕ → ℕ → Type 0
KeepEarlier closings [] u old = Unit {0}
KeepEarlier closings (k ∷ ks) u old =
    (place_by closings k k.earlier u (place_by closings k k.number u old) ≡ old) × KeepEarlier closings ks u (place_by closings k k.number u old)
