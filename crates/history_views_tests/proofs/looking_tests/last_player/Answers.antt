use Rattle.std.proofs.Common.{◌≡◌, Some}
use Rattle.std.proofs.lemmas.List.Elements.{All-pop}
use Rattle.coordination.specs.Passes.{PassView}
use Rattle.history_views.specs.Growing.{ReachView}
use Rattle.history_views_tests.proofs.looking_tests.last_player.Goals as goal

pub invariant_of-result : goal.invariant_of-result
invariant_of-result g c = record {
  own = (All-pop (λ (p : PassView). p.service ≡ c.args.service.now.service) c.args.passes.now.items c.pop.new.self.items (Some c.in_ok-pass.pass)
      c.in_ok-pass.ensures.items c.requires.passes).1;
  known = (All-pop (λ (v : ReachView). c.args.service.now.service.ledger ≡ Some v.ledger) c.args.views.now.items c.pop-2.new.self.items (Some c.in_ok-view.view)
      c.in_ok-view.ensures.items c.requires.views).1;
}

pub returns-clause-passes : goal.returns-clause-passes
returns-clause-passes g c =
    (All-pop (λ (p : PassView). p.service ≡ c.args.service.now.service) c.args.passes.now.items c.pop.new.self.items c.pop.result c.pop.ensures.items c.requires.passes).0

pub returns-clause-views : goal.returns-clause-views
returns-clause-views g c =
    (All-pop (λ (v : ReachView). c.args.service.now.service.ledger ≡ Some v.ledger) c.args.views.now.items c.pop-2.new.self.items c.pop-2.result c.pop-2.ensures.items
    c.requires.views).0
