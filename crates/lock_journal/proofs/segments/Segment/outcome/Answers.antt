use Rattle.std.proofs.Common.{◌≡◌, ◌<◌, length, ◌∙◌, ap, arith}
use Rattle.std.proofs.lemmas.List.{get_or_default, get_or_past}
use Rattle.item_actions.specs.declared.outcomes.Outcome.TheVariants as outcomes
use Rattle.lock_journal.specs.Names.{Closed, closings, last_or, outcome_in, segment_view, SegmentView, closing_at, place_in}
use Rattle.lock_journal.specs.declared.segments.TheConstants.{NOWHERE}
use Rattle.lock_journal.specs.declared.segments.Segment.TheInside.{Inside}
use Rattle.lock_journal.proofs.Pushed.{outcome_at_place}
use Rattle.lock_journal.proofs.segments.Segment.outcome.Goals as goal

pub returns : goal.returns
returns c =
    let h : Inside = c.self.inside in
    let within : c.args.unit < length h.closed_at.items = omega (arith, c.requires, ap (λ (v : SegmentView). v.units) c.self.view_is, h.closed_at.ok.0) in
    let place : c.index.result.now ≡ place_in h.closings.items h.stored.items c.args.unit NOWHERE =
    c.index.ensures ∙ get_or_default h.closed_at.items c.args.unit c.index.result.now NOWHERE within ∙ c.self.invariant.closed c.args.unit in
    let none : closing_at h.closings.items NOWHERE ≡ record { unit = 0; outcome = outcomes.Skipped } =
    get_or_past h.closings.items NOWHERE (record { unit = 0; outcome = outcomes.Skipped }) (omega (arith, c.self.invariant.few_closings)) in
    c.outcome_at.ensures
    ∙ ap (λ p. (closing_at h.closings.items p).outcome) place
    ∙ outcome_at_place h.changes.items h.closings.items h.stored.items c.args.unit NOWHERE
    ∙ ap (λ (d : Closed). last_or d.outcome (closings (segment_view h).entries c.args.unit)) none
    ∙ ap (λ (v : SegmentView). outcome_in v.entries c.args.unit) c.self.view_is
