-- What the passes of a run's service show before it begins.
use Rattle.std.proofs.Common.{◌≡◌, List, [], Result, Ok, Err, ap, ◌∙◌}
use Rattle.std.specs.Prelude.{IfOk}
use Rattle.std.specs.List.{All}
use Rattle.lock_journal.specs.Names.{GraphView, BookView}
use Rattle.coordination.specs.Names.{HoldsNothing, CoordinationView, PassView}
use Rattle.build_workers.specs.Worked.{CanWork}

pub all_ready : (c : CoordinationView) (ps : List PassView) (g : GraphView) (book : BookView) → book.graph ≡ g → All (λ (p : PassView). p.service ≡ c.service) ps → All (λ (p : PassView). p.sight.seen ≡ book) ps → All (λ (p : PassView). HoldsNothing p.sight) ps → All (CanWork c g) ps
all_ready c ps g book graph service saw rest = λ k d lt. record {
  service = service k d lt;
  graph = ap (λ (b : BookView). b.graph) (saw k d lt) ∙ graph;
  rests = rest k d lt;
}

pub all_untouched : (ps : List PassView) (book : BookView) → book.history ≡ [] → All (λ (p : PassView). p.sight.seen ≡ book) ps → All (λ (p : PassView). p.sight.seen.history ≡ []) ps
all_untouched ps book none saw = λ k d lt. ap (λ (b : BookView). b.history) (saw k d lt) ∙ none

-- what follows where a call gave something
pub from_ok : {T E : Type 0} (P Q : T → Type 0) (r : Result T E) → IfOk r P → ((x : T) → P x → Q x) → IfOk r Q
from_ok P Q (Ok x) is go = go x is
from_ok P Q (Err e) is go = tt

pub from_three : {T E : Type 0} (P Q S R : T → Type 0) (r : Result T E) → IfOk r P → IfOk r Q → IfOk r S → ((x : T) → P x → Q x → S x → R x) → IfOk r R
from_three P Q S R (Ok x) is too third go = go x is too third
from_three P Q S R (Err e) is too third go = tt
