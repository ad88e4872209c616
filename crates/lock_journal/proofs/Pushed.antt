-- What is stored of a history with one entry more, beside what is stored of it without that entry.
use Rattle.std.specs.Prelude.{◌==◌, map}
use Rattle.std.proofs.Common.{◌≡◌, ℕ, ◌≤◌, ◌<◌, ◌-◌, Bool, true, false, length, take, drop, List, [], ◌∷◌, ◌++◌, cond, Some, None, refl, sym, ◌∙◌, ap, subst, arith}
use Rattle.std.specs.List.{slice_range}
use Rattle.std.proofs.lemmas.List.{drop_at, take_all, take-append-le, drop-append-le, length-drop, length-append, get_or_append_left}
use Rattle.lock_journal.specs.Names.{Change, entry, Closed, Close, Unblock, closing_of, where_finished, closings, last_or, change_of_worker}
use Rattle.lock_journal.specs.Names.{AreStored, IsLastNumber, closing_at, closings_until, end_before, entries_from, entry_from, kind_from, place_by}
use Rattle.lock_journal.specs.Names.{place_in}
use Rattle.item_actions.specs.declared.outcomes.Outcome.{Outcome}
use Rattle.item_actions.specs.declared.outcomes.Outcome.TheVariants as outcomes
use Rattle.lock_journal.specs.StoredEntry.{IsNumberOf, KeepEarlier, closings_before, place_after}
use Rattle.lock_journal.specs.declared.stored_changes.StoredChange.{StoredChange}
use Rattle.lock_journal.specs.declared.stored_entries.StoredEntry.{StoredEntry}
use Rattle.lock_journal.specs.declared.stored_entries.StoredKind.{StoredKind}
use Rattle.lock_journal.specs.declared.stored_entries.StoredKind.TheVariants as stored
use Rattle.lock_journal.proofs.Stored.{before_within, end_within, number_among}
use Rattle.lock_journal.proofs.Outcomes.{last_or-append}

-- ---- where the changes and the closings of entries end

end_before-push : (k : StoredEntry) (n : ℕ) (ks : List StoredEntry) → end_before (ks ++ k ∷ []) n ≡ end_before ks k.start
end_before-push k n [] = refl
end_before-push k n (j ∷ ks) = refl

closings_before-push : (k : StoredEntry) (m : ℕ) (ks : List StoredEntry) → closings_before (ks ++ k ∷ []) m ≡ closings_before ks (closings_until k.kind k.number m)
closings_before-push k m [] = refl
closings_before-push k m (j ∷ ks) = ap (closings_until j.kind j.number) (closings_before-push k m ks)

pub stored-push : (n m : ℕ) (k : StoredEntry) (ks : List StoredEntry) → k.start ≤ n → IsLastNumber m k.kind k.number → AreStored k.start (closings_until k.kind k.number m) ks → AreStored n m (ks ++ k ∷ [])
stored-push n m k [] start number h = (start, number, tt)
stored-push n m k (j ∷ ks) start number h = (
  subst (λ end. j.start ≤ end) (sym (end_before-push k n ks)) h.0,
  subst (λ l. IsLastNumber l j.kind j.number) (sym (closings_before-push k m ks)) h.1,
  stored-push n m k ks start number h.2,
)

pub record Popped (n m : ℕ) (k : StoredEntry) (ks : List StoredEntry) : Type 0 where
  pub start : k.start ≤ n
  pub number : IsLastNumber m k.kind k.number
  pub front : AreStored k.start (closings_until k.kind k.number m) ks

pub stored-pop : (n m : ℕ) (k : StoredEntry) (ks : List StoredEntry) → AreStored n m (ks ++ k ∷ []) → Popped n m k ks
stored-pop n m k [] h = record { start = h.0; number = h.1; front = tt }
stored-pop n m k (j ∷ ks) h =
    let rest = stored-pop n m k ks h.2 in
    record {
      start = rest.start;
      number = rest.number;
      front = (
        subst (λ end. j.start ≤ end) (end_before-push k n ks) h.0,
        subst (λ l. IsLastNumber l j.kind j.number) (closings_before-push k m ks) h.1,
        rest.front,
      );
    }

-- ---- entries that more changes and closings come behind

closing_at-append : (ds more : List Closed) (n : ℕ) → n < length ds → closing_at (ds ++ more) n ≡ closing_at ds n
closing_at-append ds more n le = get_or_append_left ds more (record { unit = 0; outcome = outcomes.Skipped }) n le

kind_from-append : (ds more : List Closed) (kind : StoredKind) (n : ℕ) → IsNumberOf (length ds) kind n → kind_from (ds ++ more) kind n ≡ kind_from ds kind n
kind_from-append ds more stored.Start n h = refl
kind_from-append ds more stored.Skip n h = refl
kind_from-append ds more stored.Submit n h = refl
kind_from-append ds more stored.Park n h = refl
kind_from-append ds more stored.Resume n h = refl
kind_from-append ds more stored.Claim n h = refl
kind_from-append ds more stored.Close n h = ap Close (closing_at-append ds more n h)
kind_from-append ds more stored.BlockForFetch n h = refl
kind_from-append ds more stored.Block n h = refl
kind_from-append ds more stored.UnblockAfterFetch n h = ap (λ d. Unblock (Some d)) (closing_at-append ds more n h)
kind_from-append ds more stored.Unblock n h = refl
kind_from-append ds more stored.End n h = refl
kind_from-append ds more stored.Acquire n h = refl
kind_from-append ds more stored.HandBack n h = refl

-- a range of a list that has more behind it
slice_range-append : (cs new : List StoredChange) (a b : ℕ) → a ≤ b → b ≤ length cs → slice_range (cs ++ new) a b ≡ slice_range cs a b
slice_range-append cs new a b ordered bounded =
    let start : a ≤ length cs = omega arith in
    let long : b - a ≤ length (drop a cs) = omega (arith, length-drop a cs) in
    ap (take (b - a)) (drop-append-le a cs new start) ∙ take-append-le (b - a) (drop a cs) new long

-- the range from where the new ones begin
pub slice_range-new : (cs new : List StoredChange) (a : ℕ) → a ≡ length cs → slice_range (cs ++ new) a (length (cs ++ new)) ≡ new
slice_range-new cs new a start =
    let long : length new ≤ length (cs ++ new) - a = omega (arith, length-append cs new) in
    ap (take (length (cs ++ new) - a)) (drop_at cs new a (sym start)) ∙ take_all (length (cs ++ new) - a) new long

-- each entry is stored with the same kind among these closings as among those
abbrev pub SameKinds : List Closed → List Closed → List StoredEntry → Type 0
SameKinds ds es [] = Unit {0}
SameKinds ds es (k ∷ ks) = (kind_from es k.kind k.number ≡ kind_from ds k.kind k.number) × SameKinds ds es ks

pub kinds_stay : (n : ℕ) (ds more : List Closed) (ks : List StoredEntry) → AreStored n (length ds) ks → SameKinds ds (ds ++ more) ks
kinds_stay n ds more [] h = tt
kinds_stay n ds more (k ∷ ks) h = (
  kind_from-append ds more k.kind k.number (number_among (closings_before ks (length ds)) (length ds) k.kind k.number (before_within n (length ds) ks h.2) h.1),
  kinds_stay n ds more ks h.2,
)

pub kinds_back : (ds es : List Closed) (ks : List StoredEntry) → SameKinds ds es ks → SameKinds es ds ks
kinds_back ds es [] h = tt
kinds_back ds es (k ∷ ks) h = (sym h.0, kinds_back ds es ks h.1)

module _ (cs new : List StoredChange) (ds es : List Closed) (k : StoredEntry) (start : k.start ≡ length cs) where
  -- the entries before it are the same, and it stands behind them
  pub entries-push : (m : ℕ) (ks : List StoredEntry) → AreStored (length cs) m ks → SameKinds ds es ks
      → entries_from (cs ++ new) es (ks ++ k ∷ []) ≡ entries_from cs ds ks ++ entry_from (cs ++ new) es (length (cs ++ new)) k ∷ []
  entries-push m [] h same = refl
  entries-push m (j ∷ ks) h same =
      let end : end_before (ks ++ k ∷ []) (length (cs ++ new)) ≡ end_before ks (length cs) = end_before-push k (length (cs ++ new)) ks ∙ ap (end_before ks) start in
      ap (λ e. entry_from (cs ++ new) es e j ∷ entries_from (cs ++ new) es (ks ++ k ∷ [])) end
      ∙ ap (λ x. entry j.worker x (cond j.failed None (Some (map (change_of_worker j.worker) (slice_range (cs ++ new) j.start (end_before ks (length cs)))))) ∷ entries_from (cs ++ new) es (ks ++ k ∷ [])) same.0
      ∙ ap (λ x. entry j.worker (kind_from ds j.kind j.number) (cond j.failed None (Some (map (change_of_worker j.worker) x))) ∷ entries_from (cs ++ new) es (ks ++ k ∷ []))
      (slice_range-append cs new j.start (end_before ks (length cs)) h.0 (end_within (length cs) m ks h.2))
      ∙ ap (λ es'. entry_from cs ds (end_before ks (length cs)) j ∷ es') (entries-push m ks h.2 same.1)

-- ---- where closings stand

place_by-same : (ds es : List Closed) (k : StoredEntry) (place u p : ℕ) → kind_from es k.kind k.number ≡ kind_from ds k.kind k.number → place_by es k place u p ≡ place_by ds k place u p
place_by-same ds es k place u p same = ap (λ kind. cond k.failed p (place_after (closing_of u kind) place p)) same

pub place_in-same : (ds es : List Closed) (ks : List StoredEntry) (u p : ℕ) → SameKinds ds es ks → place_in es ks u p ≡ place_in ds ks u p
place_in-same ds es [] u p same = refl
place_in-same ds es (k ∷ ks) u p same = ap (place_in es ks u) (place_by-same ds es k k.number u p same.0) ∙ place_in-same ds es ks u (place_by ds k k.number u p) same.1

pub keep-same : (ds es : List Closed) (ks : List StoredEntry) (u p : ℕ) → SameKinds ds es ks → KeepEarlier ds ks u p → KeepEarlier es ks u p
keep-same ds es [] u p same h = tt
keep-same ds es (k ∷ ks) u p same h = (
  ap (place_by es k k.earlier u) (place_by-same ds es k k.number u p same.0) ∙ place_by-same ds es k k.earlier u (place_by ds k k.number u p) same.0 ∙ h.0,
  subst (KeepEarlier es ks u) (sym (place_by-same ds es k k.number u p same.0)) (keep-same ds es ks u (place_by ds k k.number u p) same.1 h.1),
)

pub place_in-push : (ds : List Closed) (k : StoredEntry) (ks : List StoredEntry) (u p : ℕ) → place_in ds (ks ++ k ∷ []) u p ≡ place_by ds k k.number u (place_in ds ks u p)
place_in-push ds k [] u p = refl
place_in-push ds k (j ∷ ks) u p = place_in-push ds k ks u (place_by ds j j.number u p)

-- the entry keeps where the closing stood before it
abbrev pub Keeps : List Closed → StoredEntry → ℕ → ℕ → Type 0
Keeps ds k u p = place_by ds k k.earlier u (place_by ds k k.number u p) ≡ p

pub keep-push : (ds : List Closed) (k : StoredEntry) (ks : List StoredEntry) (u p : ℕ) → KeepEarlier ds ks u p → Keeps ds k u (place_in ds ks u p) → KeepEarlier ds (ks ++ k ∷ []) u p
keep-push ds k [] u p h last = (last, tt)
keep-push ds k (j ∷ ks) u p h last = (h.0, keep-push ds k ks u (place_by ds j j.number u p) h.1 last)

pub keep-pop : (ds : List Closed) (k : StoredEntry) (ks : List StoredEntry) (u p : ℕ) → KeepEarlier ds (ks ++ k ∷ []) u p → KeepEarlier ds ks u p × Keeps ds k u (place_in ds ks u p)
keep-pop ds k [] u p h = (tt, h.0)
keep-pop ds k (j ∷ ks) u p h = let rest = keep-pop ds k ks u (place_by ds j j.number u p) h.1 in ((h.0, rest.0), rest.1)

-- ---- the outcome at the place where a unit's last closing stands

outcome_where_closed : (ds : List Closed) (d : Closed) (n u p : ℕ) (b : Bool) → closing_at ds n ≡ d
    → (closing_at ds (place_after (cond b (d.outcome ∷ []) []) n p)).outcome ≡ last_or (closing_at ds p).outcome (cond b (d.outcome ∷ []) [])
outcome_where_closed ds d n u p true is = ap (λ (x : Closed). x.outcome) is
outcome_where_closed ds d n u p false is = refl

outcome_by_kind : (ds : List Closed) (kind : StoredKind) (n u p : ℕ)
    → (closing_at ds (place_after (closing_of u (kind_from ds kind n)) n p)).outcome ≡ last_or (closing_at ds p).outcome (closing_of u (kind_from ds kind n))
outcome_by_kind ds stored.Start n u p = refl
outcome_by_kind ds stored.Skip n u p = refl
outcome_by_kind ds stored.Submit n u p = refl
outcome_by_kind ds stored.Park n u p = refl
outcome_by_kind ds stored.Resume n u p = refl
outcome_by_kind ds stored.Claim n u p = refl
outcome_by_kind ds stored.Close n u p = outcome_where_closed ds (closing_at ds n) n u p ((closing_at ds n).unit == u) refl
outcome_by_kind ds stored.BlockForFetch n u p = refl
outcome_by_kind ds stored.Block n u p = refl
outcome_by_kind ds stored.UnblockAfterFetch n u p = outcome_where_closed ds (closing_at ds n) n u p ((closing_at ds n).unit == u) refl
outcome_by_kind ds stored.Unblock n u p = refl
outcome_by_kind ds stored.End n u p = refl
outcome_by_kind ds stored.Acquire n u p = refl
outcome_by_kind ds stored.HandBack n u p = refl

outcome_by : (ds : List Closed) (k : StoredEntry) (failed : Bool) (xs : List Change) (u p : ℕ)
    → (closing_at ds (cond failed p (place_after (closing_of u (kind_from ds k.kind k.number)) k.number p))).outcome
    ≡ last_or (closing_at ds p).outcome (where_finished (cond failed None (Some xs)) (closing_of u (kind_from ds k.kind k.number)))
outcome_by ds k true xs u p = refl
outcome_by ds k false xs u p = outcome_by_kind ds k.kind k.number u p

-- it is that of the unit's last closing entry
pub outcome_at_place : (cs : List StoredChange) (ds : List Closed) (ks : List StoredEntry) (u p : ℕ) → (closing_at ds (place_in ds ks u p)).outcome ≡ last_or (closing_at ds p).outcome (closings (entries_from cs ds ks) u)
outcome_at_place cs ds [] u p = refl
outcome_at_place cs ds (k ∷ ks) u p =
    let made : List Change = map (change_of_worker k.worker) (slice_range cs k.start (end_before ks (length cs))) in
    let os : List Outcome = where_finished (cond k.failed None (Some made)) (closing_of u (kind_from ds k.kind k.number)) in
    outcome_at_place cs ds ks u (place_by ds k k.number u p)
    ∙ ap (λ o. last_or o (closings (entries_from cs ds ks) u)) (outcome_by ds k k.failed made u p)
    ∙ sym (last_or-append (closing_at ds p).outcome os (closings (entries_from cs ds ks) u))
