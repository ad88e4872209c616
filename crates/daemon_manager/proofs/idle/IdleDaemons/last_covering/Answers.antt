use Rattle.std.proofs.Common.{◌≡◌, sym, ap, ◌∙◌, subst, arith}
use Rattle.std.proofs.lemmas.Bool.{true≢false}
use Rattle.daemon_requirements.specs.Covers.{Covers}
use Rattle.daemon_manager.proofs.Order.{All-drop, some_weaker}
use Rattle.daemon_manager.proofs.idle.IdleDaemons.last_covering.Goals as goal

pub loop-place-preserved : goal.loop-place-preserved
loop-place-preserved g c =
    let made_for = g.L.Linked.requirements in
    All-drop (λ i. ¬ Covers (made_for i.link) c.args.asked.now) c.args.self.now _ c.loop-place.place
    (some_weaker {P = λ i. i.link ≡ c.link_at.result.now} {Q = λ i. ¬ Covers (made_for i.link) c.args.asked.now} _ c.link_at.ensures (λ i same. λ covers. true≢false (sym (c.covers.ensures.1 (subst (λ r. Covers r c.args.asked.now) (ap made_for same ∙ sym c.made_for.ensures) covers)) ∙ c.if-covers.false)))
    (omega (arith, c.loop-place-test.true))
    c.loop-place.invariant
