-- A run within a call that began before it and ended behind it.
use Rattle.std.proofs.Common.{◌≡◌, ℕ, ◌≤◌, [], inl, Option, refl, sym, subst, arith}
use Rattle.item_actions.specs.Files.{Folder}
use Rattle.lock_journal.specs.Names.{BookView, closed_by}
use Rattle.item_work.specs.Requests.{SentView}
use Rattle.plan_reader.specs.PlanView.{PlanView}
use Rattle.plan_reader.specs.Units.{plan_units}
use Rattle.build_workers.specs.Desks.{DeskView}
use Rattle.build_workers.specs.Run.{HasResults, IsRunOf, WasBrokenOff}
use Rattle.build_workers.specs.Sent.{AreSentAndOneMore, AreSentFor}
use Rattle.build_workers.specs.declared.options.RunOptions.{RunOptions}
use Rattle.build_workers.proofs.lemmas.KnownFiles.{known_same}

-- a desk that asked nothing of a daemon
pub record AskedNothing (before after : DeskView) : Type 0 where
  pub files : after.files ≡ before.files
  pub faults : before.faults ≤ after.faults
  pub sent : after.sent ≡ before.sent

pub asked_nothing : {before after : DeskView} → after ≡ before → AskedNothing before after
asked_nothing {before} same = subst (AskedNothing before) (sym same) (record { files = refl; faults = omega arith; sent = refl })

module _ (plan : PlanView) (options : RunOptions) (first before after last : ℕ → DeskView) (earlier : (i : ℕ) → AskedNothing (first i) (before i)) (later : (i : ℕ) → AskedNothing (after i) (last i)) where
  pub run_within : (b : BookView) → IsRunOf plan options before after b → IsRunOf plan options first last b
  run_within b run = record {
    graph = run.graph;
    replays = run.replays;
    lawful = run.lawful;
    good = run.good;
    always_good = run.always_good;
    rest = run.rest;
    ended = run.ended;
    order = run.order;
    results = subst (λ (known : Option Folder). HasResults plan known b) (known_same options.workers before first (λ i. (earlier i).files)) run.results;
    workers = run.workers;
    faults = λ i few lt.
        let l = (later i).faults in
        let f = run.faults i few (omega (arith, l, lt)) in
        let e = (earlier i).faults in
        omega (arith, e, f, l);
    requests = λ i few.
        let ds = closed_by (record { 0 = i }) b.history in
        subst (λ (v : SentView). AreSentFor (plan_units plan) ds v (last i).sent) (earlier i).sent
        (subst (λ (v : SentView). AreSentFor (plan_units plan) ds (before i).sent v) (sym (later i).sent) (run.requests i few));
  }

  pub broken_within : WasBrokenOff plan options before after → WasBrokenOff plan options first last
  broken_within run = record {
    history = run.history;
    lawful = run.lawful;
    requests = λ i few.
        let ds = closed_by (record { 0 = i }) run.history in
        subst (λ (v : SentView). AreSentAndOneMore (plan_units plan) ds v (last i).sent) (earlier i).sent
        (subst (λ (v : SentView). AreSentAndOneMore (plan_units plan) ds (before i).sent v) (sym (later i).sent) (run.requests i few));
  }

-- nothing was done
pub nothing_done : (plan : PlanView) (options : RunOptions) (desks : ℕ → DeskView) → WasBrokenOff plan options desks desks
nothing_done plan options desks = record {
  history = [];
  lawful = tt;
  requests = λ i few. ((desks i).sent, refl, inl refl);
}
