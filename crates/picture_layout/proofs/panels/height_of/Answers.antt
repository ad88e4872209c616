use Rattle.std.proofs.Common.{◌≡◌, ℕ, ◌+◌, ◌-◌, ◌<◌, suc, List, [], ◌∷◌, length, get_or, map, sym, ap, ◌∙◌, arith}
use Rattle.std.proofs.lemmas.List.{get_or-map, length-map}
use Rattle.picture_layout.specs.Layout.{rows_bottom}
use Rattle.picture_layout.specs.Panels.{PanelView, panel_view, last_bottom}
use Rattle.picture_layout.proofs.panels.height_of.Goals as goal

last_there : (bottom : ℕ) (ps : List PanelView) (i : ℕ) (d : PanelView) → length ps ≡ i + 1 → last_bottom bottom ps ≡ rows_bottom (get_or ps i d).layout
last_there bottom [] i d long = absurd (omega (arith, long))
last_there bottom (p ∷ []) i d long =
    let here : 0 ≡ i = omega (arith, long) in
    ap (λ j. rows_bottom (get_or (p ∷ []) j d).layout) here
last_there bottom (p ∷ q ∷ ps) i d long =
    let before : length (q ∷ ps) ≡ i - 1 + 1 = omega (arith, long) in
    let here : suc (i - 1) ≡ i = omega (arith, long) in
    last_there (rows_bottom p.layout) (q ∷ ps) (i - 1) d before ∙ ap (λ j. rows_bottom (get_or (p ∷ q ∷ ps) j d).layout) here

pub returns-in-len1-up : goal.returns-in-len1-up
returns-in-len1-up c =
    let panels = c.args.panels.now in
    let last = c.last-item.result in
    let some : length panels - 1 < length panels = omega (arith, c.in-len1-up.len_at_least) in
    let long : length (map panel_view panels) ≡ length panels - 1 + 1 = omega (arith, c.in-len1-up.len_at_least, length-map panels panel_view) in
    ap (λ n. n + 20) (c.bottom.ensures.at
    ∙ ap (λ p. rows_bottom p.layout) (c.last-item.is)
    ∙ ap (λ (p : PanelView). rows_bottom p.layout) (sym (get_or-map panel_view panels (length panels - 1) last (panel_view last) some))
    ∙ sym (last_there 56 (map panel_view panels) (length panels - 1) (panel_view last) long))
