-- What is so by the answer of a call.
use Rattle.std.proofs.Common.{◌≡◌, Result, Ok, Err, refl, sym, ◌<◌, subst}
use Rattle.std.specs.Prelude.{IfOk, OnErr}
use Rattle.lock_journal.specs.Names.{GraphView, WorkerId, BookView, Kind}
use Rattle.coordination.specs.Names.{Finds, Making, AskedInVain, HasFinished, HasLooked, ShowsTheSame}
use Rattle.worker_notes.proofs.lemmas.Growing.{agrees_self}
use Rattle.coordination.proofs.lemmas.Shown.{stopped_shows}
use Rattle.coordination.specs.declared.rule.Sight.{Sight}
use Rattle.coordination.specs.declared.halts.Halt.{Halt}

-- what is so at an error
pub halted : {P X : Type 0} (r : Result X Halt) (e : Halt) → r ≡ Err e → (r ≡ Err Halt.NoMemory → P) → ((by : WorkerId) → r ≡ Err (Halt.Stopped by) → P) → P
halted r Halt.NoMemory is no_memory stopped = no_memory is
halted r (Halt.Stopped by) is no_memory stopped = stopped by is

pub on_err : {T E P : Type 0} (r : Result T E) → P → OnErr r P
on_err (Ok x) p = tt
on_err (Err e) p = p

pub if_ok : {T E : Type 0} (P : T → Type 0) (r : Result T E) (x : T) → r ≡ Ok x → IfOk r P → P x
if_ok P (Ok y) x is p = subst P (cc) p
if_ok P (Err e) x is p = absurd (cc)

-- a pass that has made an entry finds what it has seen
pub found_again : {kind : Kind} {makes : Making} {old new : Sight} → HasFinished kind makes old new → HasLooked new new
found_again {kind} {makes} {old} {new} f = record { book = new.seen; found = subst (λ (s : Sight). Finds s.worker s.seen s.seen) (sym f.sight) there; sight = refl }
  where
    there : Finds old.worker f.after f.after
    there = record { agrees = agrees_self old.worker f.after; sound = f.left; known = subst (λ (g : GraphView). old.worker.0 < g.workers) (sym f.graph) f.found.known }

-- a wait that a stop ended leaves what the pass shows
pub in_vain_shows : {waits : WorkerId → BookView → Type 0} {by : WorkerId} {old new : Sight} → AskedInVain waits by old new → ShowsTheSame old new
in_vain_shows f = stopped_shows {cause = λ g w s. Unit {0}} (record { book = f.book; found = f.found; cause = tt; stopper = f.stopper; sight = f.sight })
