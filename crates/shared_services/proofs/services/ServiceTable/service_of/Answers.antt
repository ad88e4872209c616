use Rattle.std.proofs.Common.{arith}
use Rattle.shared_services.proofs.lemmas.Places.{ends_within}
use Rattle.shared_services.proofs.services.ServiceTable.service_of.Goals as goal

pub overflow_add-end : goal.overflow_add-end
overflow_add-end c =
    let within = ends_within c.args.self.now c.loop-service.service (omega (arith, c.loop-service-test.true, c.services-service-end.ensures.count)) in
    omega (arith, within, c.loop-service.invariant.0, c.maximum-end.ensures.maximum, c.maximum-end.ensures.few)
