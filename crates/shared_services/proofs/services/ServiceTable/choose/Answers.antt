use Rattle.std.proofs.Common.{ℕ, get_or, length, sym, subst, arith}
use Rattle.std.proofs.lemmas.List.{get_or-take, length-take-le}
use Rattle.shared_services.specs.Services.{IsLowestFree, no_lock}
use Rattle.shared_services.proofs.services.ServiceTable.choose.Goals as goal

pub returns-clause-chosen : goal.returns-clause-chosen
returns-clause-chosen c = λ _.
    let n : ℕ = length c.args.asked.now in
    record {
      count = length-take-le n c.loop-place.chosen (omega (arith, c.requires.room, c.loop-place.auto.chosen));
      lowest = λ i low. subst (IsLowestFree c.args.self.now c.args.state.now (get_or c.args.asked.now i 0)) (sym (get_or-take n c.loop-place.chosen i no_lock low)) (c.loop-place.invariant i (omega (arith, low, c.loop-place-test.false)));
    }
