-- Turns, one after another.
use Rattle.std.proofs.Common.{◌≡◌, ◌<◌, Result, Err, refl, sym, ap, ◌∙◌, subst}
use Rattle.lock_journal.specs.Names.{GraphView, WorkerId, BookView}
use Rattle.history_views.specs.ShownBooks.{IsUnchanged}
use Rattle.coordination.specs.Names.{Finds, IsSoundBook, AskedInVain, HasLooked, hearing, seeing, HasTurned}
use Rattle.coordination.specs.declared.halts.Halt.{Halt}
use Rattle.coordination.specs.declared.halts.Halt.TheVariants.{Stopped}
use Rattle.coordination.specs.declared.rule.Sight.{Sight}
use Rattle.coordination.specs.declared.turns.Came.{Came}
use Rattle.coordination.specs.declared.turns.Came.TheVariants as came
use Rattle.coordination.specs.Turns.{HasDone, OnlyLooked}
use Rattle.worker_notes.proofs.lemmas.Growing.{agrees_same, agrees_self, agrees_then}

pub same_halt : {A : Type 0} (v w : WorkerId) → ◌≡◌ {A = Result A Halt} (Err (Stopped v)) (Err (Stopped w)) → v ≡ w
same_halt v w is = cc

pub looked_not : (s : Sight) → OnlyLooked s s
looked_not s = record { agrees = agrees_self s.worker s.seen; sight = refl }

-- a book that was left as it was found is found again
found_again : (w : WorkerId) (seen before after : BookView) → Finds w seen before → IsUnchanged before after → IsSoundBook after → Finds w seen after
found_again w seen before after f same sound = record {
  agrees = agrees_then w seen before after f.agrees (agrees_same w before after same.graph same.state same.history);
  sound = sound;
  known = subst (λ (g : GraphView). w.0 < g.workers) (sym same.graph) f.known;
}

-- what is found after a look
found_on : (s s' : Sight) (book : BookView) → OnlyLooked s s' → Finds s'.worker s'.seen book → Finds s.worker s.seen book
found_on s s' book look f =
    let g = subst (λ (k : Sight). Finds k.worker s'.seen book) look.sight f in record { agrees = agrees_then s.worker s.seen s'.seen book look.agrees g.agrees; sound = g.sound; known = g.known }

-- the sight after a look, and a book seen behind it
sight_on : (s s' s'' : Sight) (book : BookView) → OnlyLooked s s' → s'' ≡ seeing s' book → s'' ≡ seeing s book
sight_on s s' s'' book look is = is ∙ ap (λ (k : Sight). seeing k book) look.sight

-- they are of one worker
pub same_worker : (s s' s'' : Sight) (book : BookView) → OnlyLooked s s' → s'' ≡ seeing s' book → s''.worker ≡ s.worker
same_worker s s' s'' book look is = ap (λ (k : Sight). k.worker) (sight_on s s' s'' book look is)

-- a turn after the worker has only looked
module _ {C : Type 0} (gives : WorkerId → BookView → BookView → C → Type 0) (waits runs : WorkerId → BookView → Type 0) (s s' s'' : Sight) (look : OnlyLooked s s') where
  worker_is : s'.worker ≡ s.worker
  worker_is = ap (λ (k : Sight). k.worker) look.sight

  pub done_on : (c : C) → HasTurned gives waits runs s' s'' (came.Done c) → HasDone gives s s'' c
  done_on c h = record {
    before = h.before;
    after = h.after;
    found = found_on s s' h.before look h.found;
    graph = h.graph;
    outcome = subst (λ (w : WorkerId). gives w h.before h.after c) worker_is h.leaves;
    left = h.left;
    sight = sight_on s s' s'' h.after look h.sight;
  }

  pub no_memory_on : HasTurned gives waits runs s' s'' came.NoMemory → HasLooked s s'' × runs s''.worker s''.seen
  no_memory_on h = (
    record { book = h.after; found = found_again s.worker s.seen h.before h.after (found_on s s' h.before look h.found) h.leaves.1 h.left; sight = sight_on s s' s'' h.after look h.sight },
    subst (λ (k : Sight). runs k.worker k.seen) (sym h.sight) h.leaves.0,
  )

  pub again_on : HasTurned gives waits runs s' s'' came.Again → OnlyLooked s s''
  again_on h =
      let found = found_again s.worker s.seen h.before h.after (found_on s s' h.before look h.found) h.leaves.1 h.left in
      subst (OnlyLooked s) (sym (sight_on s s' s'' h.after look h.sight)) (record { agrees = found.agrees; sight = refl })

  pub stopped_on : (by : WorkerId) (t : Sight) → HasTurned gives waits runs s' s'' came.Again → by.0 < s''.seen.graph.workers → t ≡ hearing s'' by → AskedInVain waits by s t
  stopped_on by t h low stopped_by =
      let seen = sight_on s s' s'' h.after look h.sight in record {
        book = h.after;
        found = found_again s.worker s.seen h.before h.after (found_on s s' h.before look h.found) h.leaves.1 h.left;
        cause = subst (λ (w : WorkerId). waits w h.after) worker_is h.leaves.0;
        stopper = subst (λ (k : Sight). by.0 < k.seen.graph.workers) seen low;
        sight = stopped_by ∙ ap (λ (k : Sight). hearing k by) seen;
      }

-- a result that is known by an equation
pub turned_at : {C : Type 0} (gives : WorkerId → BookView → BookView → C → Type 0) (waits runs : WorkerId → BookView → Type 0) (s s' : Sight) (r r' : Came C) → r ≡ r' → HasTurned gives waits runs s s' r → HasTurned gives waits runs s s' r'
turned_at gives waits runs s s' r r' is h = subst (HasTurned gives waits runs s s') is h
