-- What a stored closing stands for.
use Rattle.std.specs.Prelude.{ℕ, ◌≡◌, ◌<◌, ◌+◌, List, [], ◌∷◌, replicate, slice_index_or}
use Rattle.item_actions.specs.declared.outcomes.Outcome.{Outcome}
use Rattle.item_actions.specs.declared.outcomes.Outcome.TheVariants as outcomes
use Rattle.lock_transforms.specs.declared.entries.Closed.{Closed}
use Rattle.lock_journal.specs.declared.stored_closings.PlainOutcome.{PlainOutcome}
use Rattle.lock_journal.specs.declared.stored_closings.PlainOutcome.TheVariants as plain
use Rattle.lock_journal.specs.declared.stored_closings.StoredClosing.{StoredClosing}
use Rattle.lock_journal.specs.declared.stored_closings.StoredClosing.TheVariants as stored

abbrev pub plain_outcome : PlainOutcome → Outcome
plain_outcome plain.NotThere = outcomes.NotThere
plain_outcome plain.TooLong = outcomes.TooLong
plain_outcome plain.Fault = outcomes.Fault
plain_outcome plain.NoMemory = outcomes.NoMemory
plain_outcome plain.Skipped = outcomes.Skipped

-- the digest at a place
abbrev pub digest_at : List (List ℕ) → ℕ → List ℕ
digest_at digests place = slice_index_or digests place (replicate 32 0)

-- the closing that is stored so, where these are the digests
abbrev pub closing_from : List (List ℕ) → StoredClosing → Closed
closing_from digests (stored.Number u n) = record { unit = u; outcome = outcomes.Number n }
closing_from digests (stored.Digest u place) = record { unit = u; outcome = outcomes.Digest (digest_at digests place) }
closing_from digests (stored.Plain u o) = record { unit = u; outcome = plain_outcome o }

-- the digest that an outcome carries
abbrev pub digest_of : Outcome → List (List ℕ)
digest_of (outcomes.Digest digest) = digest ∷ []
digest_of _ = []

-- its digest, if it has one, is the last of so many
abbrev pub IsLastDigest : ℕ → StoredClosing → Type 0
IsLastDigest n (stored.Digest u place) = place + 1 ≡ n
IsLastDigest n _ = Unit {0}

-- its digest, if it has one, is one of so many
abbrev pub IsDigestWithin : ℕ → StoredClosing → Type 0
IsDigestWithin n (stored.Digest u place) = place < n
IsDigestWithin n _ = Unit {0}

-- how many digests stand before its own, which is the last of so many, if it has one
abbrev pub digests_until : StoredClosing → ℕ → ℕ
digests_until (stored.Digest u place) n = place
digests_until _ n = n

-- the digests of these closings stand one right behind the other, from a place on up to an end
abbrev pub AreDigestsFrom : ℕ → ℕ → List StoredClosing → Type 0
AreDigestsFrom from end [] = from ≡ end
AreDigestsFrom from end (stored.Digest u place ∷ cs) = (from ≡ place) × AreDigestsFrom (place + 1) end cs
AreDigestsFrom from end (stored.Number u n ∷ cs) = AreDigestsFrom from end cs
AreDigestsFrom from end (stored.Plain u o ∷ cs) = AreDigestsFrom from end cs
