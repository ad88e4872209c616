-- An item's closing, and what is decided behind it.
use Rattle.std.proofs.Common.{◌≡◌, Option, Result, Ok, Err, inl, inr, subst, sym}
use Rattle.std.specs.Prelude.{IfOk, IsErrAnd, MatchResult}
use Rattle.lock_journal.specs.Names.{WorkerId, BookView, IsFixedList, Closed, Kind}
use Rattle.lock_transforms.specs.declared.entries.Kind.TheVariants as kinds
use Rattle.coordination.specs.Names.{Cause, Making, HasFinished, HadStep, HasDecided, HasDecidedBehind, HasFollowed}
use Rattle.coordination.specs.declared.decisions.Decided.{Decided}
use Rattle.coordination.specs.declared.decisions.Followed.{Followed}
use Rattle.coordination.specs.declared.decisions.Followed.TheVariants as followed
use Rattle.coordination.specs.declared.halts.Halt.{Halt}
use Rattle.coordination.specs.declared.rule.Sight.{Sight}
use Rattle.async_tracker.specs.Closings.{HasClosedThen}
use Rattle.async_tracker.specs.declared.closing.CloseHalt.{CloseHalt}
use Rattle.async_tracker.specs.declared.closing.CloseHalt.TheVariants.{Closed as ClosedThen}
use Rattle.async_tracker.specs.Following.{HasDecidedAfter}
use Rattle.async_tracker.proofs.Claiming.{closed_shows}
use Rattle.async_tracker.proofs.lemmas.After.{if_ok}

pub closed_then : (c : Closed) {old between : Sight} {Follows : Sight → Type 0} → HasFinished (kinds.Close c) (IsFixedList (kinds.Close c)) old between → Follows between → HasClosedThen c old Follows
closed_then c {old} {between} {Follows} closed follows = record { between = between; closed = closed; shows = closed_shows {u = c.unit} {o = c.outcome} closed; follows = follows }

-- what the result of a decision becomes behind the closing
abbrev pub IsBehind : {T : Type 0} → Result T Halt → Result T CloseHalt → Type 0
IsBehind r r' = MatchResult r (λ x. r' ≡ Ok x) (λ e. IsErrAnd r' (λ h. h ≡ ClosedThen e))

pub ok_behind : {T : Type 0} (P : T → Type 0) (r : Result T Halt) (r' : Result T CloseHalt) → IsBehind r r' → IfOk r P → IfOk r' P
ok_behind P (Ok x) r' is p = subst (λ q. IfOk q P) (sym is) p
ok_behind P (Err e) (Ok x) is p = absurd is
ok_behind P (Err e) (Err h) is p = tt

pub err_behind : {T : Type 0} (r : Result T Halt) (r' : Result T CloseHalt) (e : Halt) → IsBehind r r' → r' ≡ Err (ClosedThen e) → r ≡ Err e
err_behind (Ok x) r' e is at = absurd (cc)
err_behind (Err d) (Ok x) e is at = absurd is
err_behind (Err d) (Err h) e is at = cc

module _ {A X : Type 0} (answers : WorkerId → BookView → A → Type 0) (waits : WorkerId → BookView → Type 0) (step_of : A → Option X) (kind_of : X → Kind)
    (makes : X → Making) (fails retries : X → Cause) (c : Closed) (old : Sight) where
  -- what an item's closing with a decision behind it left
  abbrev pub ClosesAnd : Sight → Followed A → Type 0
  ClosesAnd new f = HasFollowed answers waits step_of kind_of makes fails retries (kinds.Close c) (IsFixedList (kinds.Close c)) (λ g w s. ⊥) old new f

  abbrev pub ClosesThen : Sight → Decided A → Type 0
  ClosesThen new d = HasClosedThen c old (λ s. HasDecidedAfter answers waits step_of kind_of makes fails retries s new d)

  abbrev pub Closes : Sight → Type 0
  Closes new = HasFinished (kinds.Close c) (IsFixedList (kinds.Close c)) old new

  -- it was decided on the book that the closing left
  pub decided_behind : (new : Sight) (r : Result (Followed A) Halt) (d : Decided A) → r ≡ Ok (followed.Decided d) → IfOk r (ClosesAnd new) → ClosesThen new d
  decided_behind new r d is p =
      let k : HasDecidedBehind answers step_of kind_of makes fails retries (kinds.Close c) (IsFixedList (kinds.Close c)) old new d = if_ok (ClosesAnd new) r (followed.Decided d) is p in
      closed_then c k.finished (record { decided = k.decided; at_once = inl k.at_once })

  pub if_undecided : (new : Sight) (r : Result (Followed A) Halt) → r ≡ Ok followed.Undecided → IfOk r (ClosesAnd new) → Closes new × waits new.worker new.seen
  if_undecided new r is p = if_ok (ClosesAnd new) r followed.Undecided is p

  pub if_no_memory : (new : Sight) (r : Result (Followed A) Halt) → r ≡ Ok followed.NoMemory → IfOk r (ClosesAnd new) → Closes new × HadStep answers step_of new.worker new.seen
  if_no_memory new r is p = if_ok (ClosesAnd new) r followed.NoMemory is p

  -- it was decided later, since there was no answer
  pub decided_later : (mid new : Sight) (r : Result (Decided A) Halt) → Closes mid × waits mid.worker mid.seen → IfOk r (HasDecided answers step_of kind_of makes fails retries mid new)
      → IfOk r (ClosesThen new)
  decided_later mid new (Ok d) closed decided = closed_then c closed.0 (record { decided = decided; at_once = inr closed.1 })
  decided_later mid new (Err e) closed decided = tt
