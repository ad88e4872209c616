use Rattle.std.proofs.Common.{◌≡◌, true, false, Result, Ok, Err, OnOk, sym, ap, ◌∙◌}
use Rattle.std.specs.Result.{is_err}
use Rattle.std.proofs.lemmas.Bool.{false≢true}
use Rattle.resource_lock.specs.GraphView.{GraphView}
use Rattle.wakhurmi_c.specs.Locks.{locks_of}
use Rattle.wakhurmi_c.specs.Places.{are_in_order}
use Rattle.wakhurmi_c.proofs.Causes.{made_bare, take_leaves}
use Rattle.wakhurmi_c.proofs.workers.Worker.acquire.Goals as goal

-- what a result without an error says
said : {A E : Type 0} (P : Type 0) (r : Result A E) → is_err r ≡ false → OnOk r P → P
said P (Ok a) is p = p
said P (Err e) is p = absurd (false≢true (sym is))

pub returns-clause-left : goal.returns-clause-left
returns-clause-left c =
    let noted : c.ask_for.new.asked.items ≡ locks_of c.args.locks.now =
    said (c.ask_for.new.asked.items ≡ locks_of c.args.locks.now) c.ask_for.result (sym c.is_err.ensures.value ∙ c.if-is_err.false) c.ask_for.ensures in
    let same : c.deref.result.now ≡ locks_of c.args.locks.now = c.deref.ensures.value ∙ noted in
    let order : are_in_order c.deref.result.now c.args.self.now.pass.sight.seen.graph.locks ≡ true =
    (λ i. are_in_order (same i) (ap (λ (g : GraphView). g.locks) c.args.self.now.graph_is i)) ∙ (sym c.are_in_order.ensures ∙ c.if-not-are_in_order.false) in
    take_leaves c.args.shortage (locks_of c.args.locks.now) c.deref.result.now c.args.self.now.pass.sight c.try_once.new.pass.sight
    c.try_once.result.answer same (made_bare c.args.self.now.pass.sight.seen.graph _ _ _ _ c.args.self.now.graph_is) (sym c.may_take.ensures ∙ c.if-not-may_take.false) order c.try_once.ensures.left
