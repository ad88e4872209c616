-- From what the passes show at the end of a run to the book that it gives.
use Rattle.std.proofs.Common.{◌≡◌, ℕ, suc, ◌+◌, ◌-◌, ◌^◌, ◌<◌, ◌≤◌, Bool, true, List, [], ◌∷◌, ◌++◌, length, get_or, map, Option, None, Some, refl, sym, ap, ◌∙◌, subst, arith, ◌⊎◌, inl, inr}
use Rattle.std.specs.Prelude.{IfSome}
use Rattle.std.specs.List.{All, AllByRecursion}
use Rattle.std.proofs.lemmas.Bool.{cases_lt, ne_eqb}
use Rattle.item_actions.specs.Files.{Folder}
use Rattle.item_actions.specs.Value.{IsHonest}
use Rattle.item_actions.specs.declared.outcomes.Outcome.{Outcome}
use Rattle.lock_journal.specs.Names.{GraphView, StateView, WorkerId, Lawful, BookView, Entry, replay, IsHonestWorker, answers, closed_by, faults_by}
use Rattle.lock_journal.specs.Names.{faults_in, IsEnded, ComesTo, GivesClosedOutcomes, Closed}
use Rattle.plan_reader.specs.PlanView.{PlanView}
use Rattle.plan_reader.specs.Units.{PlannedUnit, unit_value}
use Rattle.coordination.specs.Names.{Agrees, HoldsNothing, PassView, workers_from}
use Rattle.coordination.specs.declared.rule.Sight.{Sight}
use Rattle.item_work.specs.Requests.{SentView}
use Rattle.build_workers.specs.Desks.{DeskView}
use Rattle.build_workers.specs.Points.{HasFinishedWork}
use Rattle.build_workers.specs.Run.{HasResults, depth}
use Rattle.build_workers.specs.Sent.{AreSentAndOneMore, AreSentBy, AreSentFor, HasSent}
use Rattle.build_workers.specs.Site.{SiteView}
use Rattle.build_workers.specs.Units.{given}
use Rattle.build_runner.specs.Worked.{HasComeToTheEnd, TookPart, WasThere}
use Rattle.build_workers.proofs.lemmas.Weaker.{sent_or_more}
use Rattle.coordination.proofs.lemmas.Numbered.{element, passes_count, worker_at}

-- what has ended stays so, whatever entries follow
abbrev pub TasksStay : Type 0
TasksStay = (g : GraphView) (h later : List Entry) → Lawful g (h ++ later) → All IsEnded (replay g h).tasks → All IsEnded (replay g (h ++ later)).tasks

abbrev pub HonestAnswers : Type 0
HonestAnswers = (value : ℕ → Outcome) (h : List Entry) → ((w : WorkerId) → IsHonestWorker value h w) → GivesClosedOutcomes (answers value h) h

-- the tasks that a worker saw ended have ended in the book
ended_in : TasksStay → (p : PassView) (b : BookView) → Agrees p.sight.worker p.sight.seen b → HasFinishedWork p.sight → Lawful b.graph b.history → All IsEnded (replay b.graph b.history).tasks
ended_in stay p b agrees finished lawful =
    let g : GraphView = b.graph in
    let seen : List Entry = p.sight.seen.history in
    let was : All IsEnded (replay p.sight.seen.graph seen).tasks = subst (λ (s : StateView). All IsEnded s.tasks) finished.sound.replays finished.ended in
    let here : All IsEnded (replay g seen).tasks = subst (λ (o : GraphView). All IsEnded (replay o seen).tasks) (sym agrees.graph) was in
    subst (λ (h : List Entry). All IsEnded (replay g h).tasks) (sym agrees.history) (stay g seen agrees.between (subst (Lawful g) agrees.history lawful) here)

-- who made no entry closed nothing
rest_of : (n : ℕ) (e : Entry) (h : List Entry) → All (λ (e : Entry). e.worker.0 < n) (e ∷ h) → All (λ (e : Entry). e.worker.0 < n) h
rest_of n e h all k d lt = all (suc k) d (omega (arith, lt))

closed_nothing : (n : ℕ) (w : WorkerId) (h : List Entry) → n ≤ w.0 → All (λ (e : Entry). e.worker.0 < n) h → closed_by w h ≡ []
closed_nothing n w [] le all = refl
closed_nothing n w (e ∷ h) le all =
    let low : e.worker.0 < n = all 0 e (omega arith) in
    rw (ne_eqb e.worker.0 w.0 (λ is. absurd (omega (arith, low, le, is)))) (closed_nothing n w h le (rest_of n e h all))

-- what worker i closed in the book, its pass saw
pub closings_in : (ps : List PassView) (n : ℕ) (b : BookView) → map (λ (p : PassView). p.sight.worker.0) ps ≡ workers_from 0 n → All (λ (p : PassView). Agrees p.sight.worker p.sight.seen b) ps
    → (i : ℕ) (p : PassView) → i < n → closed_by (record { 0 = i }) b.history ≡ closed_by (get_or ps i p).sight.worker (get_or ps i p).sight.seen.history
closings_in ps n b are agrees i p low =
    let count = passes_count ps n are in
    let own : PassView = get_or ps i p in
    subst (λ (w : WorkerId). closed_by w b.history ≡ closed_by own.sight.worker own.sight.seen.history) (worker_at ps n i p are low) (agrees i p (omega (arith, count, low))).closings

module _ (known : Option Folder) (units : List PlannedUnit) (before after : ℕ → DeskView) (ps : List PassView) (n : ℕ) (b : BookView)
    (are : map (λ (p : PassView). p.sight.worker.0) ps ≡ workers_from 0 n)
    (agrees : All (λ (p : PassView). Agrees p.sight.worker p.sight.seen b) ps)
    (entries : All (λ (e : Entry). e.worker.0 < n) b.history)
    (come : (i : ℕ) (p : PassView) → i < n → HasComeToTheEnd known units (before i) (after i) (get_or ps i p)) where
  within : (i : ℕ) → i < n → i < length ps
  within i low = let c = passes_count ps n are in omega (arith, c, low)

  -- the pass of worker i
  abbrev pass : (i : ℕ) → i < n → PassView
  pass i low = get_or ps i (element ps i (within i low))

  closings_of : (i : ℕ) (low : i < n) → closed_by (record { 0 = i }) b.history ≡ closed_by (pass i low).sight.worker (pass i low).sight.seen.history
  closings_of i low = closings_in ps n b are agrees i (element ps i (within i low)) low

  pub all_faults : (i : ℕ) → i < n → (after i).faults < 2 ^ 64 - 1 → faults_by (record { 0 = i }) b.history + (before i).faults ≤ (after i).faults
  all_faults i low lt =
      let f = (come i (element ps i (within i low)) low).faults lt in
      let e = ap faults_in (closings_of i low) in
      omega (arith, f, e)

  pub all_requests : (i : ℕ) → i < n → AreSentFor units (closed_by (record { 0 = i }) b.history) (before i).sent (after i).sent
  all_requests i low =
      subst (λ (ds : List Closed). AreSentFor units ds (before i).sent (after i).sent) (sym (closings_of i low))
      (come i (element ps i (within i low)) low).sent

  pub all_rest : All (λ (p : PassView). HoldsNothing p.sight) ps
  all_rest i d low = let c = passes_count ps n are in (come i d (omega (arith, c, low))).finished.rests

  pub all_ended : TasksStay → 0 < n → Lawful b.graph b.history → All IsEnded (replay b.graph b.history).tasks
  all_ended stay some lawful = ended_in stay (pass 0 some) b (agrees 0 (element ps 0 (within 0 some)) (within 0 some)) (come 0 (element ps 0 (within 0 some)) some).finished lawful

  all_honest : (files : Folder) → known ≡ Some files → (w : WorkerId) → IsHonestWorker (given units files) b.history w
  all_honest files is w = at (cases_lt w.0 n)
    where
      at : (w.0 < n) ⊎ (n ≤ w.0) → IsHonestWorker (given units files) b.history w
      at (inl low) =
          let p : PassView = pass w.0 low in
          let h : IsHonestWorker (given units files) p.sight.seen.history p.sight.worker = subst (λ (o : Option Folder). IfSome o (λ files. IsHonestWorker (given units files) p.sight.seen.history p.sight.worker)) is (come w.0 (element ps w.0 (within w.0 low)) low).honest in
          subst (AllByRecursion (λ d. IsHonest d.outcome (given units files d.unit))) (sym (closings_of w.0 low)) h
      at (inr past) = subst (AllByRecursion (λ d. IsHonest d.outcome (given units files d.unit))) (sym (closed_nothing n w b.history past entries)) tt

  pub all_are_honest : IfSome known (λ files. (w : WorkerId) → IsHonestWorker (given units files) b.history w)
  all_are_honest = at known refl
    where
      at : (o : Option Folder) → known ≡ o → IfSome o (λ files. (w : WorkerId) → IsHonestWorker (given units files) b.history w)
      at None e = tt
      at (Some files) e = all_honest files e

pub has_results : (plan : PlanView) (known : Option Folder) (b : BookView) → HonestAnswers → IfSome known (λ files. (w : WorkerId) → IsHonestWorker (unit_value plan files) b.history w)
    → ((v : ℕ → Outcome) → GivesClosedOutcomes v b.history → ComesTo b.graph b.history v (depth plan)) → HasResults plan known b
has_results plan None b give honest every = every
has_results plan (Some files) b give honest every = every _ (give (unit_value plan files) b.history honest)

-- what each desk of a run that was broken off sent, it sent for what its worker closed in the book, and for at most one more
pub all_there : (units : List PlannedUnit) (before after : ℕ → DeskView) (ps : List PassView) (n : ℕ) (b : BookView) → map (λ (p : PassView). p.sight.worker.0) ps ≡ workers_from 0 n
    → All (λ (p : PassView). Agrees p.sight.worker p.sight.seen b) ps → ((i : ℕ) (p : PassView) → i < n → WasThere units (before i) (after i) (get_or ps i p))
    → (i : ℕ) → i < n → AreSentAndOneMore units (closed_by (record { 0 = i }) b.history) (before i).sent (after i).sent
all_there units before after ps n b are agrees there i low =
    let count = passes_count ps n are in
    let p : PassView = element ps i (omega (arith, count, low)) in
    subst (λ (ds : List Closed). AreSentAndOneMore units ds (before i).sent (after i).sent) (sym (closings_in ps n b are agrees i p low)) (there i p low)

-- ---- a worker that began with an empty history

-- what its desk sent, it sent for all that it closed
sent_for_all : (done : Bool) (units : List PlannedUnit) {before after : SentView} {old new : Sight} → old.seen.history ≡ [] → HasSent done units before after old new → AreSentBy done units (closed_by new.worker new.seen.history) before after
sent_for_all done units {before} {after} {old} {new} none sent =
    let w : WorkerId = old.worker in
    let e : closed_by w new.seen.history ≡ sent.closed = sent.closes.closed ∙ ap (λ (h : List Entry). closed_by w h ++ sent.closed) none in
    subst (λ (v : WorkerId). AreSentBy done units (closed_by v new.seen.history) before after) (sym sent.closes.worker) (subst (λ (ds : List Closed). AreSentBy done units ds before after) (sym e) sent.sent)

pub was_there : {s : SiteView} {a b : DeskView} {old new : PassView} {ended : Bool} → TookPart s a b old new ended → old.sight.seen.history ≡ [] → WasThere s.units a b new
was_there {s} {a} {b} {new = new} {ended} part none =
    sent_or_more ended s.units (closed_by new.sight.worker new.sight.seen.history) a.sent b.sent (sent_for_all ended s.units none part.step.sent)

pub comes_to_the_end : {s : SiteView} {a b : DeskView} {old new : PassView} {ended : Bool} → TookPart s a b old new ended → ended ≡ true → old.sight.seen.history ≡ []
    → HasComeToTheEnd a.files s.units a b new
comes_to_the_end {s} {a} {b} {old} {new} {ended} part is none =
    let kept = part.step.keeps in record {
      faults = λ lt.
          let f = kept.faults lt in
          let z : faults_by old.sight.worker old.sight.seen.history ≡ 0 = ap (λ h. faults_by old.sight.worker h) none in
          subst (λ (w : WorkerId). faults_by w new.sight.seen.history + a.faults ≤ b.faults) (sym kept.worker) (omega (arith, f, z));
      honest = at a.files kept.honest;
      sent = subst (λ (done : Bool). AreSentBy done s.units (closed_by new.sight.worker new.sight.seen.history) a.sent b.sent) is (sent_for_all ended s.units none part.step.sent);
      finished = part.finished is;
    }
  where
    at : (o : Option Folder) → IfSome o (λ files. IsHonestWorker (given s.units files) old.sight.seen.history old.sight.worker → IsHonestWorker (given s.units files) new.sight.seen.history old.sight.worker)
        → IfSome o (λ files. IsHonestWorker (given s.units files) new.sight.seen.history new.sight.worker)
    at None keeps = tt
    at (Some files) keeps =
        subst (λ (w : WorkerId). IsHonestWorker (given s.units files) new.sight.seen.history w) (sym part.step.keeps.worker)
        (keeps (subst (λ (h : List Entry). IsHonestWorker (given s.units files) h old.sight.worker) (sym none) tt))

-- a worker that came to the end did so also where less is known of the files
pub come_as : {known known' : Option Folder} {units : List PlannedUnit} {before after : DeskView} {p : PassView} → (known' ≡ None) ⊎ (known' ≡ known) → HasComeToTheEnd known units before after p → HasComeToTheEnd known' units before after p
come_as {known} {known'} {units} {before} {after} {p} less come = record {
  faults = come.faults;
  honest = at less;
  sent = come.sent;
  finished = come.finished;
}
  where
    at : (known' ≡ None) ⊎ (known' ≡ known) → IfSome known' (λ files. IsHonestWorker (given units files) p.sight.seen.history p.sight.worker)
    at (inl none) = rw none tt
    at (inr same) = rw same come.honest
