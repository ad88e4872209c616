-- What a pass shows before and after its calls.
use Rattle.std.specs.Prelude.{◌≡◌, ◌<◌, true, false, not, List, [], ◌∷◌}
use Rattle.std.specs.List.{All, filter}
use Rattle.lock_journal.specs.Names.{stands_in, LockId, rises, lock_before, with_member}
use Rattle.coordination.specs.declared.rule.Sight.{Sight}
use Rattle.coordination.specs.Shown.{Shows, blocked_shown, claimed_shown, locks_shown, parked_shown}

-- The locks strictly rise, each is one of the graph's that the worker hasn't parked, and the worker runs nothing and isn't blocked.
pub record MayTake (s : Sight) (locks : List LockId) : Type 0 where
  pub rising : rises 0 locks ≡ true
  pub in_range : All (λ l. l.0 < s.seen.graph.locks) locks
  pub not_parked : All (λ l. stands_in l (parked_shown s) ≡ false) locks
  pub claimed : claimed_shown s ≡ []
  pub not_blocked : blocked_shown s ≡ false

-- locks by rising number, and more of them, each at its place
abbrev pub with_locks : List LockId → List LockId → List LockId
with_locks had [] = had
with_locks had (l ∷ ls) = with_locks (with_member lock_before l had) ls

-- the pass shows a lease, the locks that it showed, and those of these that weren't among them
abbrev pub ShowsTaken : List LockId → Sight → Sight → Type 0
ShowsTaken named old new = Shows (with_locks (locks_shown old) (filter (λ l. not (stands_in l (locks_shown old))) named)) true
    (claimed_shown old) (parked_shown old) old new

-- the pass shows no lock and no lease
abbrev pub ShowsGivenBack : Sight → Sight → Type 0
ShowsGivenBack old new = Shows [] false (claimed_shown old) (parked_shown old) old new
