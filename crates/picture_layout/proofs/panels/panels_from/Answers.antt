use Rattle.std.proofs.Common.{◌≡◌, ℕ, ◌+◌, ◌-◌, ◌∷◌, ◌++◌, [], List, map, refl, sym, ap, ap₂, subst, ◌∙◌, arith}
use Rattle.std.specs.List.{filter}
use Rattle.std.proofs.lemmas.List.{map-append}
use Rattle.picture_layout.specs.Panels.{PanelView, panel_view, panel_with, panels_from, last_shown, touches}
use Rattle.picture_layout.proofs.Below.{one_panel, panel_is, carried, refused_so, for_place, for_locks}
use Rattle.picture_layout.proofs.Carrying.{Carries}
use Rattle.picture_layout.proofs.panels.panels_from.Goals as goal

pub returns-in_err-place_of-clause-refused : goal.returns-in_err-place_of-clause-refused
returns-in_err-place_of-clause-refused c =
    let s = c.args.scale in
    let all = panels_from s.panels c.args.workers s c.args.spans.now c.args.end c.args.spacing.gap 1 c.args.spacing.begin in
    let fail = c.in_err-place_of.field-0.0 in
    refused_so all c.from_residual-in_err-place_of.result fail c.from_residual-in_err-place_of.ensures.1
    (for_place c.loop-place.place c.args.workers s c.args.spans.now c.args.end c.args.spacing.gap c.loop-place.first c.loop-place.top (map panel_view c.loop-place.panels.items) all fail
    c.loop-place-test.true c.loop-place.invariant.0 c.in_err-place_of.ensures.refused.0 c.in_err-place_of.ensures.refused.1)

pub returns-in_err-panel-clause-refused : goal.returns-in_err-panel-clause-refused
returns-in_err-panel-clause-refused c =
    let s = c.args.scale in
    let first = c.loop-place.first in
    let behind = c.min-behind.result in
    let panels = c.loop-place.panels.items in
    let all = panels_from s.panels c.args.workers s c.args.spans.now c.args.end c.args.spacing.gap 1 c.args.spacing.begin in
    let fail = c.in_err-panel.field-0.0 in
    let before = c.shown_last.ensures ∙ ap (λ l. last_shown [] (map panel_view l)) c.deref.ensures.value in
    let shown = c.in_ok-shown.ensures ∙ ap (λ l. filter (touches first behind) (l ++ c.split_begun.result.0.now)) before in
    let p = panel_with c.args.workers s first behind c.in_ok-place_of.field-0 c.in_ok-shown.shown.items in
    let is = panel_is c.args.workers s behind c.loop-place.top c.in_ok-place_of.field-0 c.split_begun.result.0.now c.in_ok-shown.shown.items p
    c.loop-place.invariant.1 c.split_begun.ensures.before shown c.in_ok-place_of.ensures.place refl in
    refused_so all c.from_residual-in_err-panel.result fail c.from_residual-in_err-panel.ensures.1
    (for_locks c.loop-place.place c.args.workers s c.args.spans.now c.args.end c.args.spacing.gap first behind c.loop-place.top (map panel_view panels) all p fail
    c.loop-place-test.true c.loop-place.invariant.0 c.min-behind.ensures is c.in_err-panel.ensures.refused)

pub loop-place-preserved : goal.loop-place-preserved
loop-place-preserved c =
    let s = c.args.scale in
    let spans = c.args.spans.now in
    let first = c.loop-place.first in
    let behind = c.min-behind.result in
    let panels = c.loop-place.panels.items in
    let panel = c.in_ok-panel.panel in
    let begun = c.split_begun.result.0.now in
    let later = c.split_begun.result.1.now in
    let before = c.shown_last.ensures ∙ ap (λ l. last_shown [] (map panel_view l)) c.deref.ensures.value in
    let shown = c.in_ok-shown.ensures ∙ ap (λ l. filter (touches first behind) (l ++ begun)) before in
    let is = panel_is c.args.workers s behind c.loop-place.top c.in_ok-place_of.field-0 begun c.in_ok-shown.shown.items (panel_view panel)
    c.loop-place.invariant.1 c.split_begun.ensures.before shown c.in_ok-place_of.ensures.place c.in_ok-panel.ensures.panel in
    let more : map panel_view c.push.new.self.items ≡ map panel_view panels ++ panel_view panel ∷ [] = ap (map panel_view) c.in_ok-push.ensures.items ∙ map-append panel_view panels (panel ∷ []) in
    let below = ap₂ (λ (a b : ℕ). a + b) c.bottom.ensures.at c.from.ensures in
    let top = c.bottom.result + c.from.result in
    let next = one_panel c.loop-place.place c.args.workers s spans c.args.end c.args.spacing.gap first behind c.loop-place.top top (map panel_view panels) (panel_view panel)
    c.loop-place-test.true c.min-behind.ensures is below in
    let on = carried behind begun later c.in_ok-shown.shown.items (map panel_view panels) (panel_view panel) (omega (arith, c.min-behind.ensures, c.loop-place.invariant.2))
    c.loop-place.invariant.1 c.split_begun.ensures.before c.split_begun.ensures.from shown (ap (λ (q : PanelView). q.shown) c.in_ok-panel.ensures.panel) in (
      ap (λ (l : List PanelView). l ++ panels_from (s.panels - (c.loop-place.place + 1)) c.args.workers s spans c.args.end c.args.spacing.gap behind top) more ∙ (next ∙ c.loop-place.invariant.0),
      subst (λ (l : List PanelView). Carries spans behind (last_shown [] l) later) (sym more) on,
      omega (arith, c.min-behind.ensures),
    )
