-- Closings whose digests stand in a row of their own.
use Rattle.std.specs.Prelude.{map, replicate, slice_get}
use Rattle.std.proofs.Common.{◌≡◌, ℕ, zero, suc, ◌≤◌, ◌+◌, List, [], ◌∷◌, ◌++◌, Some, length, take, drop, refl, sym, ap, ap₂, ◌∙◌, subst, arith}
use Rattle.std.proofs.lemmas.List.{get_or_append_left, length-take-le, take-append-drop}
use Rattle.item_actions.specs.declared.outcomes.Outcome.TheVariants as outcomes
use Rattle.lock_transforms.specs.declared.entries.Closed.{Closed}
use Rattle.lock_journal.specs.StoredClosing.{AreDigestsFrom, IsDigestWithin, IsLastDigest, closing_from, digests_until}
use Rattle.lock_journal.specs.declared.stored_closings.StoredClosing.{StoredClosing}
use Rattle.lock_journal.specs.declared.stored_closings.StoredClosing.TheVariants as stored

pub digests_within : (from end : ℕ) (cs : List StoredClosing) → AreDigestsFrom from end cs → from ≤ end
digests_within from end [] h = omega (arith, h)
digests_within from end (stored.Number u n ∷ cs) h = digests_within from end cs h
digests_within from end (stored.Digest u p ∷ cs) h = omega (arith, h.0, digests_within (p + 1) end cs h.1)
digests_within from end (stored.Plain u o ∷ cs) h = digests_within from end cs h

-- what holds of the first of some closings, and of the others
record Parts (from end : ℕ) (c : StoredClosing) (cs : List StoredClosing) : Type 0 where
  pub within : IsDigestWithin end c
  pub next : ℕ
  pub rest : AreDigestsFrom next end cs

parts : (from end : ℕ) (c : StoredClosing) (cs : List StoredClosing) → AreDigestsFrom from end (c ∷ cs) → Parts from end c cs
parts from end (stored.Number u n) cs h = record { within = tt; next = from; rest = h }
parts from end (stored.Digest u p) cs h = record { within = omega (arith, digests_within (p + 1) end cs h.1); next = p + 1; rest = h.1 }
parts from end (stored.Plain u o) cs h = record { within = tt; next = from; rest = h }

-- the digest of the closing at a place is one of so many
pub digest_there : (from end : ℕ) (cs : List StoredClosing) (i : ℕ) (c : StoredClosing) → AreDigestsFrom from end cs → slice_get cs i ≡ Some c → IsDigestWithin end c
digest_there from end [] i c h at = absurd (cc)
digest_there from end (d ∷ cs) zero c h at = let same : d ≡ c = cc in subst (IsDigestWithin end) same (parts from end d cs h).within
digest_there from end (d ∷ cs) (suc i) c h at = let p = parts from end d cs h in digest_there p.next end cs i c p.rest at

-- one closing more
pub digests_push : (from m n : ℕ) (c : StoredClosing) (cs : List StoredClosing) → AreDigestsFrom from m cs → digests_until c n ≡ m → IsLastDigest n c → AreDigestsFrom from n (cs ++ c ∷ [])
digests_push from m n (stored.Number u k) [] h until last = omega (arith, h, until)
digests_push from m n (stored.Digest u p) [] h until last = (omega (arith, h, until), last)
digests_push from m n (stored.Plain u o) [] h until last = omega (arith, h, until)
digests_push from m n c (stored.Number u k ∷ cs) h until last = digests_push from m n c cs h until last
digests_push from m n c (stored.Digest u p ∷ cs) h until last = (h.0, digests_push (p + 1) m n c cs h.1 until last)
digests_push from m n c (stored.Plain u o ∷ cs) h until last = digests_push from m n c cs h until last

-- those before the last: their digests end where its own stands, if it has one
pub digests_pop : (from n : ℕ) (cs : List StoredClosing) (c : StoredClosing) → AreDigestsFrom from n (cs ++ c ∷ []) → AreDigestsFrom from (digests_until c n) cs
digests_pop from n [] (stored.Number u k) h = h
digests_pop from n [] (stored.Digest u p) h = h.0
digests_pop from n [] (stored.Plain u o) h = h
digests_pop from n (stored.Number u k ∷ cs) c h = digests_pop from n cs c h
digests_pop from n (stored.Digest u p ∷ cs) c h = (h.0, digests_pop (p + 1) n cs c h.1)
digests_pop from n (stored.Plain u o ∷ cs) c h = digests_pop from n cs c h

until_among : (from n : ℕ) (cs : List StoredClosing) (c : StoredClosing) → AreDigestsFrom from n (cs ++ c ∷ []) → digests_until c n ≤ n
until_among from n [] (stored.Number u k) h = omega arith
until_among from n [] (stored.Digest u p) h = omega (arith, h.1)
until_among from n [] (stored.Plain u o) h = omega arith
until_among from n (stored.Number u k ∷ cs) c h = until_among from n cs c h
until_among from n (stored.Digest u p ∷ cs) c h = until_among (p + 1) n cs c h.1
until_among from n (stored.Plain u o ∷ cs) c h = until_among from n cs c h

-- ---- what they stand for, where more digests come behind

abbrev digest_closing : ℕ → List ℕ → Closed
digest_closing u digest = record { unit = u; outcome = outcomes.Digest digest }

closing_same : (ds es : List (List ℕ)) (c : StoredClosing) → IsDigestWithin (length ds) c → closing_from (ds ++ es) c ≡ closing_from ds c
closing_same ds es (stored.Number u n) h = refl
closing_same ds es (stored.Digest u p) h = ap (digest_closing u) (get_or_append_left ds es (replicate 32 0) p h)
closing_same ds es (stored.Plain u o) h = refl

pub closings_same : (from : ℕ) (ds es : List (List ℕ)) (cs : List StoredClosing) → AreDigestsFrom from (length ds) cs → map (closing_from (ds ++ es)) cs ≡ map (closing_from ds) cs
closings_same from ds es [] h = refl
closings_same from ds es (c ∷ cs) h = let p = parts from (length ds) c cs h in ap₂ ◌∷◌ (closing_same ds es c p.within) (closings_same p.next ds es cs p.rest)

-- ---- those that are left where the last is taken away with its digest

module _ (ds : List (List ℕ)) (cs : List StoredClosing) (c : StoredClosing) (sound : AreDigestsFrom 0 (length ds) (cs ++ c ∷ [])) where
  abbrev until : ℕ
  until = digests_until c (length ds)

  pub digests_left : AreDigestsFrom 0 (length (take until ds)) cs
  digests_left = subst (λ n. AreDigestsFrom 0 n cs) (sym (length-take-le until ds (until_among 0 (length ds) cs c sound))) (digests_pop 0 (length ds) cs c sound)

  pub closings_left : map (closing_from (take until ds)) cs ≡ map (closing_from ds) cs
  closings_left = sym (closings_same 0 (take until ds) (drop until ds) cs digests_left) ∙ ap (λ es. map (closing_from es) cs) (take-append-drop until ds)
