use Rattle.std.proofs.Common.{◌≡◌, Some, true, ap, map, subst, sym, ◌∙◌}
use Rattle.std.specs.Prelude.{slice_get}
use Rattle.resource_lock.specs.Ranges.{is_item}
use Rattle.plan_reader.specs.PlanView.{work_view}
use Rattle.plan_reader.specs.Units.{item_unit, unit_view}
use Rattle.build_workers.specs.Site.{SiteView}
use Rattle.build_workers.specs.Units.{HasFileName}
use Rattle.build_workers.proofs.SiteUnits.{is_no_item, may_ask, unit_is, unit_named, unit_within}
use Rattle.build_workers.proofs.site.Site.item.Goals as goal

pub bounds-self-inside-unit : goal.bounds-self-inside-unit
bounds-self-inside-unit g c =
    let planned = c.self.invariant.0.items c.args.unit (subst (λ (s : SiteView). is_item s.graph c.args.unit ≡ true) (sym c.self.view_is) c.requires.item) in
    unit_within c.self.inside.units.now c.args.unit _ planned.1

pub unreachable-requires : goal.unreachable-requires
unreachable-requires g c =
    let planned = c.self.invariant.0.items c.args.unit (subst (λ (s : SiteView). is_item s.graph c.args.unit ≡ true) (sym c.self.view_is) c.requires.item) in
    is_no_item (sym (ap unit_view c.in_default.is) ∙ unit_is c.self.inside.units.now c.args.unit _ planned.1 _)

pub returns-clause-unit : goal.returns-clause-unit
returns-clause-unit g c =
    let planned = c.self.invariant.0.items c.args.unit (subst (λ (s : SiteView). is_item s.graph c.args.unit ≡ true) (sym c.self.view_is) c.requires.item) in
    subst (λ (s : SiteView). slice_get s.units c.args.unit ≡ Some (item_unit (work_view c.in-Item.work.now))) c.self.view_is
    (planned.1 ∙ ap Some (sym (unit_is c.self.inside.units.now c.args.unit _ planned.1 _) ∙ ap unit_view c.in-Item.is))

pub returns-clause-named : goal.returns-clause-named
returns-clause-named g c =
    let planned = c.self.invariant.0.items c.args.unit (subst (λ (s : SiteView). is_item s.graph c.args.unit ≡ true) (sym c.self.view_is) c.requires.item) in
    subst HasFileName (sym (unit_is c.self.inside.units.now c.args.unit _ planned.1 _) ∙ ap unit_view c.in-Item.is) (unit_named c.self.inside.units.now c.args.unit _ planned.1 c.self.invariant.0.named)

pub returns-clause-asks : goal.returns-clause-asks
returns-clause-asks g c =
    let planned = c.self.invariant.0.items c.args.unit (subst (λ (s : SiteView). is_item s.graph c.args.unit ≡ true) (sym c.self.view_is) c.requires.item) in
    may_ask (map unit_view c.self.inside.units.now) g.T.Reserved.ReservationLedger.asks c.self.invariant.1 c.args.unit c.in-Item.work.now
    (planned.1 ∙ ap Some (sym (unit_is c.self.inside.units.now c.args.unit _ planned.1 _) ∙ ap unit_view c.in-Item.is))
