-- The passes of all workers, at a sound book that each agrees with.
use Rattle.std.proofs.Common.{◌≡◌, ℕ, zero, suc, cond, ◌+◌, ◌-◌, ◌<◌, ◌≤◌, Bool, true, false, List, [], ◌∷◌, map, length, get_or, Contains, count_by, sum_by, Option, None, Some, refl, sym, ap, ◌∙◌, subst, arith, eqb-true}
use Rattle.std.specs.List.{All, AllPairs}
use Rattle.std.proofs.lemmas.List.{ext_get_or, get_or-map, length-map}
use Rattle.lock_journal.specs.Names.{Holding, empty_holding, holding_of, is_owner, leases_out, owner_of, LockId, WorkerId, BookView, Entry, owned}
use Rattle.lock_journal.specs.Names.{owned_from, Closed}
use Rattle.coordination.specs.Names.{Agrees, IsSoundBook, PassView, workers_from}
use Rattle.coordination.specs.Together.{ComeTo, closed_of_pass, entries_of, has_lease, locks_of}
use Rattle.coordination.proofs.Closing.{how_many, worker_at}
use Rattle.worker_notes.proofs.lemmas.Entries.{belongs_sound, good_sound}
use Rattle.coordination.proofs.AtRest.{known_entries}
use Rattle.coordination.proofs.Totals.{all_ones, closed_all, closed_each, is_total, one_each, sorted, spread, total, total-map, total-same, weight_of}

-- a lock that stands among those of a worker is its own
later : (n : ℕ) (o : Option WorkerId) (os : List (Option WorkerId)) (w : WorkerId) (l : LockId) → (n + 1 ≤ l.0) × (is_owner (get_or os (l.0 - (n + 1)) None) w ≡ true) → (n ≤ l.0) × (is_owner (get_or (o ∷ os) (l.0 - n) None) w ≡ true)
later n o os w l found =
    let low = found.0 in
    let next : l.0 - n ≡ suc (l.0 - (n + 1)) = omega arith in
    (omega arith, subst (λ (k : ℕ). is_owner (get_or (o ∷ os) k None) w ≡ true) (sym next) found.1)

owner_at : (n : ℕ) (os : List (Option WorkerId)) (w : WorkerId) (k : ℕ) (l : LockId) → k < length (owned_from n os w) → get_or (owned_from n os w) k l ≡ l → (n ≤ l.0) × (is_owner (get_or os (l.0 - n) None) w ≡ true)
owner_at n [] w k l within here = absurd (omega arith)
owner_at n (o ∷ os) w k l within here = at (is_owner o w) refl k within here (λ j. owner_at (n + 1) os w j l)
  where
    at : (b : Bool) → is_owner o w ≡ b → (k : ℕ) → k < length (cond b (record { 0 = n } ∷ owned_from (n + 1) os w) (owned_from (n + 1) os w))
        → get_or (cond b (record { 0 = n } ∷ owned_from (n + 1) os w) (owned_from (n + 1) os w)) k l ≡ l
        → ((j : ℕ) → j < length (owned_from (n + 1) os w) → get_or (owned_from (n + 1) os w) j l ≡ l → (n + 1 ≤ l.0) × (is_owner (get_or os (l.0 - (n + 1)) None) w ≡ true))
        → (n ≤ l.0) × (is_owner (get_or (o ∷ os) (l.0 - n) None) w ≡ true)
    at true is zero within here rest =
        let same : n ≡ l.0 = ap (λ (x : LockId). x.0) here in
        let first : 0 ≡ l.0 - n = omega arith in
        (omega arith, subst (λ (k : ℕ). is_owner (get_or (o ∷ os) k None) w ≡ true) first is)
    at true is (suc k) within here rest = later n o os w l (rest k (omega arith) here)
    at false is k within here rest = later n o os w l (rest k within here)

two_owners : (o : Option WorkerId) (v w : WorkerId) → is_owner o v ≡ true → is_owner o w ≡ true → v.0 ≡ w.0
two_owners None v w p q = absurd (cc)
two_owners (Some x) v w p q = sym (eqb-true x.0 v.0 p) ∙ eqb-true x.0 w.0 q

abbrev holding_in : PassView → Holding
holding_in p = holding_of p.sight.seen.state p.sight.worker

some_pass : (ps : List PassView) (k : ℕ) → k < length ps → PassView
some_pass [] k within = absurd (omega arith)
some_pass (p ∷ ps) k within = p

module _ (ps : List PassView) (book : BookView) (sound : IsSoundBook book) (agree : All (λ p. Agrees p.sight.worker p.sight.seen book) ps) (all : map (λ p. p.sight.worker.0) ps ≡ workers_from 0 book.graph.workers) where
  owner_in : (k : ℕ) (d : PassView) (l : LockId) → k < length ps → Contains (locks_of (get_or ps k d)) l → is_owner (owner_of book.state l) (get_or ps k d).sight.worker ≡ true
  owner_in k d l within has =
      let p : PassView = get_or ps k d in
      let a = agree k d within in
      let there : Contains (owned book.state p.sight.worker) l = subst (λ (ls : List LockId). Contains ls l) (sym a.state.owned) has in
      let first : l.0 - 0 ≡ l.0 = omega arith in
      subst (λ (n : ℕ). is_owner (get_or book.state.owners n None) p.sight.worker ≡ true) first (owner_at 0 book.state.owners p.sight.worker there.0 l there.1 there.2).1

  pub locks_apart : AllPairs (λ p q. (l : LockId) → Contains (locks_of p) l → Contains (locks_of q) l → ⊥) ps
  locks_apart i j d before within l first second =
      let same = two_owners (owner_of book.state l) (get_or ps i d).sight.worker (get_or ps j d).sight.worker (owner_in i d l (omega arith) first) (owner_in j d l within second) in
      let here = worker_at ps book.graph.workers all i d (omega arith) in
      let there = worker_at ps book.graph.workers all j d within in absurd (omega arith)

  holdings_are : map holding_in ps ≡ book.state.holdings
  holdings_are =
      let long = how_many ps book.graph.workers all in
      let wide = (belongs_sound book sound).workers in
      ext_get_or empty_holding (map holding_in ps) book.state.holdings (omega (arith, length-map ps holding_in)) (λ i within.
      let low : i < length ps = omega (arith, length-map ps holding_in) in
      let d : PassView = some_pass ps i low in
      get_or-map holding_in ps i d empty_holding low
      ∙ (sym (agree i d low).state.holding ∙ ap (λ (k : ℕ). get_or book.state.holdings k empty_holding) (worker_at ps book.graph.workers all i d low)))

  leases_are : count_by has_lease ps ≡ leases_out book.state
  leases_are =
      let one : Holding → ℕ = λ h. cond h.lease 1 0 in
      is_total (λ (p : PassView). cond (has_lease p) 1 0) ps ∙ (sym (total-map one holding_in ps) ∙ (ap (λ (hs : List Holding). total one hs) holdings_are ∙ sym (is_total one book.state.holdings)))

  few_leases : count_by has_lease ps ≤ book.graph.max_leases
  few_leases =
      omega (arith, leases_are, (good_sound book sound).few_leases, (belongs_sound book sound).max_leases)

  -- what is so of the entries of each worker
  together : (f : PassView → ℕ) (weight : Entry → ℕ) → All (λ p. f p ≡ weight_of weight p.sight.worker.0 book.history) ps → sum_by f ps ≡ total weight book.history
  together f weight each =
      let worker : PassView → ℕ = λ p. p.sight.worker.0 in
      let by : ℕ → ℕ = λ w. weight_of weight w book.history in
      is_total f ps
      ∙ (total-same f (λ (p : PassView). by (worker p)) ps each
      ∙ (sym (total-map by worker ps)
      ∙ (ap (λ (ws : List ℕ). total by ws) all ∙ spread weight book.graph.workers book.history (known_entries book sound))))

  pub come_to : ComeTo ps book
  come_to = record {
    locks = locks_apart;
    leases = few_leases;
    entries = together entries_of (λ _. 1) (λ k d within. sym (agree k d within).count ∙ one_each (get_or ps k d).sight.worker book.history) ∙ all_ones book.history;
    closings = λ sort.
        together (λ (p : PassView). count_by sort (closed_of_pass p)) (sorted sort)
        (λ k d within. ap (λ (ds : List Closed). count_by sort ds) (sym (agree k d within).closings) ∙ closed_each sort (get_or ps k d).sight.worker book.history)
        ∙ closed_all sort book.history;
  }
