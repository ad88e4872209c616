use Rattle.std.proofs.Common.{List}
use Rattle.coordination.specs.Passes.{PassView}
use Rattle.coordination.proofs.Closing.{length_first, workers_first}
use Rattle.coordination.proofs.FirstSights.{all_rest, all_saw}
use Rattle.coordination.proofs.services.Coordination+O.open_with.Goals as goal

pub returns : goal.returns
returns g c =
    let book = c.args.book.value in
    let ps : List PassView = c.in_ok-service.passes.items in
    let e = c.in_ok-service.ensures in
    let saw = all_saw ps _ book e.passes in record {
      book = e.book;
      passes = e.passes;
      len = length_first ps _ book e.passes;
      workers = workers_first ps _ book e.passes;
      service = e.service;
      seen = saw;
      rest = all_rest ps book c.requires.rest saw;
    }
