use Rattle.std.proofs.Common.{◌++◌, rules, sym, ap, ◌∙◌, subst}
use Rattle.daemon_desk.specs.Taking.{Takes}
use Rattle.daemon_desk.proofs.Supplies.{takes_then, nothing_behind}
use Rattle.daemon_desk.proofs.taking.take_frame.Goals as goal

pub loop-start-preserved : goal.loop-start-preserved
loop-start-preserved g c =
    let was = c.loop-start.invariant in
    let more = c.in_ok-take_more.ensures in
    record {
      takes = subst (Takes (g.S.Source.seen c.args.source.now) (g.S.Source.seen c.take_more.new.source) c.args.room) (sym more.held_of) (takes_then c.args.room _ c.loop-start.held.items more.piece was.takes more.takes (search rules));
      behind = record { front = c.loop-start.held.items; last = more.piece; held_of = more.held_of; unfinished = search rules; lacked = search rules };
      whole = nothing_behind _ _ more.piece c.lacking.result (more.held_of ∙ ap (λ held. held ++ more.piece) (sym c.deref-in-loop-start.ensures.value)) (search rules) c.lacking.ensures.least;
    }
