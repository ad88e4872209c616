use Rattle.std.proofs.Common.{◌-◌, length, map, take, ap, sym, ◌∙◌}
use Rattle.std.specs.List.{list_any}
use Rattle.std.proofs.lemmas.List.{length-map}
use Rattle.plan_document.specs.View.{view}
use Rattle.plan_table.proofs.lemmas.Lists.{any_of_map}
use Rattle.plan_reader.specs.Rows.{releases}
use Rattle.plan_reader.proofs.Lists.{take_of_map}
use Rattle.plan_reader.proofs.rows.releases_early.Goals as goal

pub returns : goal.returns
returns c =
    let values = c.args.actions.now in
    let earlier = length (map view values) - 1 in
    c.any_releases.ensures
    ∙ ap (λ n. list_any (λ v. releases (view v)) (take n values)) (c.saturating_sub.ensures ∙ ap (λ n. n - 1) (sym (length-map values view)))
    ∙ sym (any_of_map releases view (take earlier values))
    ∙ ap (list_any releases) (sym (take_of_map view earlier values))
