use Rattle.std.proofs.Common.{◌≡◌, Some, ap, subst, sym, ◌∙◌}
use Rattle.std.specs.Prelude.{slice_get}
use Rattle.resource_lock.specs.Ranges.{IsFetchOf}
use Rattle.build_workers.specs.Site.{SiteView}
use Rattle.plan_reader.specs.Units.{fetch_unit, unit_view}
use Rattle.build_workers.proofs.SiteUnits.{is_no_item, unit_is, unit_within}
use Rattle.build_workers.proofs.site.Site.fetch.Goals as goal

pub bounds-self-inside-unit : goal.bounds-self-inside-unit
bounds-self-inside-unit g c =
    let planned = c.self.invariant.0.fetches c.requires.0 c.args.unit (subst (λ (s : SiteView). IsFetchOf s.graph c.requires.0 c.args.unit) (sym c.self.view_is) c.requires.1) in
    unit_within c.self.inside.units.now c.args.unit _ planned.1

pub unreachable-requires : goal.unreachable-requires
unreachable-requires g c =
    let planned = c.self.invariant.0.fetches c.requires.0 c.args.unit (subst (λ (s : SiteView). IsFetchOf s.graph c.requires.0 c.args.unit) (sym c.self.view_is) c.requires.1) in
    is_no_item (sym (unit_is c.self.inside.units.now c.args.unit _ planned.1 _) ∙ ap unit_view c.in_default.is)

pub returns : goal.returns
returns g c =
    let planned = c.self.invariant.0.fetches c.requires.0 c.args.unit (subst (λ (s : SiteView). IsFetchOf s.graph c.requires.0 c.args.unit) (sym c.self.view_is) c.requires.1) in
    subst (λ (s : SiteView). slice_get s.units c.args.unit ≡ Some (fetch_unit c.in-Fetch.file.now)) c.self.view_is
    (planned.1 ∙ ap Some (sym (unit_is c.self.inside.units.now c.args.unit _ planned.1 _) ∙ ap unit_view c.in-Fetch.is))
