use Rattle.std.proofs.Common.{ℕ, sym, subst}
use Rattle.resource_lock.specs.GraphView.{GraphView}
use Rattle.build_runner.specs.Prepared.{IsOpenedOn}
use Rattle.build_runner.specs.Watching.{HasRoomToLook}
use Rattle.build_runner.proofs.prepared.Prepared.new.Goals as goal

pub returns : goal.returns
returns g c =
    let made = c.in_ok-opened.ensures in
    let opened = c.in_ok-opened.opened.value in record {
      graph = c.in_ok-graph.ensures;
      units = c.in_ok-units.ensures.units;
      opened = subst (λ (k : GraphView). IsOpenedOn k opened.service opened.passes.items) (sym c.in_ok-graph.ensures) made.opened;
      kits = made.kits;
      watched = made.watched;
      looks = subst (λ (n : ℕ). HasRoomToLook c.args.options.now.watch n c.in_ok-looks.looks) c.units.ensures c.in_ok-looks.ensures;
    }
