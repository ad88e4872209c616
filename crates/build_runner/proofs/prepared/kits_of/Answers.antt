use Rattle.std.proofs.Common.{◌≡◌, ◌+◌, ◌∷◌, [], Some, ap, arith, length, length-append, subst, sym, ◌∙◌}
use Rattle.std.specs.List.{All}
use Rattle.std.proofs.lemmas.List.Elements.{All-pop, All-push}
use Rattle.history_views.specs.Growing.{ReachView}
use Rattle.coordination.specs.Passes.{ServiceId}
use Rattle.build_runner.specs.Watching.{IsWatchedBy}
use Rattle.build_runner.proofs.prepared.kits_of.Goals as goal

pub loop-preserved : goal.loop-preserved
loop-preserved c =
    let inv = c.loop.invariant in
    let of_view : ServiceId → ReachView → Type 0 = λ s v. s.ledger ≡ Some v.ledger in
    let popped = λ (s : ServiceId) (is : All (of_view s) c.args.views.items). All-pop (of_view s) c.loop.views.items c.pop.new.self.items c.pop.result c.pop.ensures.items (inv.views s is) in
    let items = c.in_ok-push.ensures.items in
    let longer : length c.push.new.self.items ≡ length c.loop.kits.items + 1 = ap (λ l. length l) items ∙ length-append c.loop.kits.items (_ ∷ []) in
    record {
      len = omega (arith, longer, inv.len);
      views = λ s is. (popped s is).0;
      watched = λ s is. subst (All (IsWatchedBy s)) (sym items)
          (All-push (IsWatchedBy s) c.loop.kits.items (record { watcher = c.in_ok-watcher.watcher }) (inv.watched s is) (c.in_ok-watcher.ensures s.ledger (popped s is).1));
    }
