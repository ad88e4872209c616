use Rattle.std.proofs.Common.{◌≡◌, ◌∷◌, ◌++◌, ◌+◌, [], List, take, sym, ap, ◌∙◌}
use Rattle.std.specs.List.{flat_map}
use Rattle.std.proofs.lemmas.List.{flat_map_more, take_more}
use Rattle.shared_services.specs.declared.jobs.JobDone.{JobDone}
use Rattle.shared_services.specs.declared.workers.Worker.{Worker}
use Rattle.shared_services.proofs.team.all_done.Goals as goal

pub loop-worker-preserved : goal.loop-worker-preserved
loop-worker-preserved g c =
    let W : Type 0 = Worker g.row.F.Denot in
    let f : W → List JobDone = λ w. w.done.items in
    let before : List W = take c.loop-worker.worker-index c.args.team.now in
    let more : take (c.loop-worker.worker-index + 1) c.args.team.now ≡ take c.loop-worker.worker-index c.args.team.now ++ c.worker-item.result ∷ [] =
    take_more c.args.team.now c.loop-worker.worker-index c.worker-item.result c.loop-worker-test.true ∙ ap (λ (w : W). before ++ w ∷ []) (sym c.worker-item.is) in
    c.in_ok-extend_from_slice.ensures.items
    ∙ ((λ i. c.loop-worker.invariant i ++ c.deref.ensures.value i)
    ∙ (flat_map_more f [] before c.worker-item.result ∙ ap (λ (ws : List W). flat_map f ws) (sym more)))
