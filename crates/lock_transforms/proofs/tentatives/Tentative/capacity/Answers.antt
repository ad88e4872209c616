use Rattle.std.proofs.Common.{length, ap, arith}
use Rattle.lock_transforms.specs.TentativeView.{TentativeView}
use Rattle.lock_transforms.proofs.tentatives.Tentative.capacity.Goals as goal

pub returns : goal.returns
returns c = omega (
  arith,
  c.capacity.ensures,
  ap (λ (t : TentativeView). t.room) c.self.view_is,
  ap (λ (t : TentativeView). length t.made) c.self.view_is,
  c.self.inside.made.ok.0,
  c.self.inside.made.ok.1,
)
