-- The panels show each entry once, in order.
use Rattle.std.proofs.Common.{◌≡◌, ◌≤◌, ◌<◌, ℕ, suc, zero, ◌+◌, ◌-◌, ◌*◌, ◌/◌, List, [], ◌∷◌, ◌++◌, Bool, true, false, cond, length, take, drop, refl, sym, ap, ap₂, subst, ◌∙◌, append_assoc, arith}
use Rattle.std.specs.Prelude.{min, max, nat_le}
use Rattle.std.specs.List.{flat_map}
use Rattle.std.proofs.Math.Nat.{lt-div-mul-add}
use Rattle.std.proofs.lemmas.Bool.{lt-ltb, le-ltb, leb-false}
use Rattle.std.proofs.lemmas.List.{take-append-drop, length-take, length-drop, drop-drop, drop_all}
use Rattle.lock_transforms.specs.Entry.{Entry}
use Rattle.history_text.specs.HistoryView.{HistoryView}
use Rattle.history_text.specs.Text.{numbered}
use Rattle.run_spans.specs.Spans.{spans_of}
use Rattle.run_spans.specs.declared.spans.Span.{Span}
use Rattle.picture_layout.specs.Layout.{scale_of, whole, cut, ceil_div, narrow, entries_in, rows_bottom}
use Rattle.run_picture.specs.Laws.{layout_at}
use Rattle.picture_layout.specs.Panels.{PanelView, panel_of, panels_from, heading, first_top}
use Rattle.run_picture.specs.Picture.{ticks_of, format_in, panels_in}
use Rattle.run_picture.specs.Ticks.{marks_of}
use Rattle.picture_layout.specs.declared.layout.Format.{Format}
use Rattle.picture_layout.specs.declared.layout.Layout.{Layout}

pub numbered_append : {X : Type 0} (line : ℕ → X → List ℕ) (n : ℕ) (xs ys : List X) → numbered line n (xs ++ ys) ≡ numbered line n xs ++ numbered line (n + length xs) ys
numbered_append line n [] ys = let at : n ≡ n + 0 = omega arith in ap (λ m. numbered line m ys) at
numbered_append line n (x ∷ xs) ys =
    let at : (n + 1) + length xs ≡ n + length (x ∷ xs) = omega arith in
    ap (λ l. line n x ++ l) (numbered_append line (n + 1) xs ys ∙ ap (λ m. numbered line (n + 1) xs ++ numbered line m ys) at)
    ∙ sym (append_assoc (line n x) (numbered line (n + 1) xs) (numbered line (n + length (x ∷ xs)) ys))

-- the texts of numbers in a range are the same where the lines are
numbered_same : {X : Type 0} (f g : ℕ → X → List ℕ) (n behind : ℕ) (xs : List X) → ((k : ℕ) (x : X) → n ≤ k → k < behind → f k x ≡ g k x) → n + length xs ≤ behind
    → numbered f n xs ≡ numbered g n xs
numbered_same f g n behind [] same few = refl
numbered_same f g n behind (x ∷ xs) same few =
    ap₂ (λ a b. a ++ b) (same n x (omega arith) (omega arith)) (numbered_same f g (n + 1) behind xs (λ k y from to. same k y (omega arith) to) (omega arith))

abbrev mark_at : Layout → List PanelView → ℕ → Entry → List ℕ
mark_at other ps n e = marks_of (layout_at other ps n) n e

in_front : (other : Layout) (p : PanelView) (ps : List PanelView) (n : ℕ) → n < p.layout.behind → layout_at other (p ∷ ps) n ≡ p.layout
in_front other p ps n less = ap (λ b. cond b p.layout (layout_at other ps n)) (lt-ltb n p.layout.behind less)

behind_front : (other : Layout) (p : PanelView) (ps : List PanelView) (n : ℕ) → p.layout.behind ≤ n → layout_at other (p ∷ ps) n ≡ layout_at other ps n
behind_front other p ps n past = ap (λ b. cond b p.layout (layout_at other ps n)) (le-ltb n p.layout.behind past)

-- so far the panels from an entry on reach
abbrev reached : ℕ → ℕ → ℕ → ℕ → ℕ
reached zero size end first = first
reached (suc n) size end first = reached n size end (min (first + size) end)

reached_is : (n size end first : ℕ) → first ≤ end → reached n size end first ≡ min (first + n * size) end
reached_is zero size end first less = omega (arith, less)
reached_is (suc n) size end first less =
    let step : reached n size end (min (first + size) end) ≡ min (min (first + size) end + n * size) end = reached_is n size end (min (first + size) end) (omega arith) in
    omega (arith, step, less)

exactly_within : (es : List Entry) (first behind : ℕ) → 1 ≤ first → first ≤ behind → behind ≤ length es + 1 → length (take (behind - first) (drop (first - 1) es)) ≡ behind - first
exactly_within es first behind some less few =
    let long = length-take (behind - first) (drop (first - 1) es) in
    let rest = length-drop (first - 1) es in
    omega (arith, long, rest, some, less, few)

-- where the panels reach the end, their ticks are those of all entries
ticks_from : (h : HistoryView) (other : Layout) (n workers : ℕ) (s : _) (spans : List Span) (end gap first top : ℕ) → 1 ≤ first → first ≤ end → end ≡ length h.entries + 1
    → gap ≡ 30 + heading s → reached n s.size end first ≡ end
    → numbered (mark_at other (panels_from n workers s spans end gap first top)) first (drop (first - 1) h.entries) ≡ flat_map (ticks_of h) (panels_from n workers s spans end gap first top)
ticks_from h other zero workers s spans end gap first top some less all apart at =
    ap (numbered (mark_at other []) first) (drop_all (first - 1) h.entries (omega (arith, at, all)))
ticks_from h other (suc n) workers s spans end gap first top some less all apart at =
    let behind = min (first + s.size) end in
    let p = panel_of workers s spans first behind top in
    let ps = panels_from n workers s spans end gap behind (rows_bottom p.layout + gap) in
    let here = take (behind - first) (drop (first - 1) h.entries) in
    let rest = drop (behind - 1) h.entries in
    let long : length here ≡ behind - first = exactly_within h.entries first behind some (omega (arith, less)) (omega (arith, all)) in
    let place : first - 1 + (behind - first) ≡ behind - 1 = omega (arith, some, less) in
    let split : drop (first - 1) h.entries ≡ here ++ rest =
    sym (take-append-drop (behind - first) (drop (first - 1) h.entries))
    ∙ ap (λ l. here ++ l) (drop-drop (behind - first) (first - 1) h.entries ∙ ap (λ m. drop m h.entries) place) in
    let next : first + length here ≡ behind = omega (arith, long, less) in
    let mine : numbered (mark_at other (p ∷ ps)) first here ≡ ticks_of h p =
    numbered_same (mark_at other (p ∷ ps)) (marks_of p.layout) first behind here (λ k e from to. ap (λ f. marks_of f k e) (in_front other p ps k to)) (omega (arith, next)) in
    let others : numbered (mark_at other (p ∷ ps)) behind rest ≡ numbered (mark_at other ps) behind rest =
    numbered_same (mark_at other (p ∷ ps)) (mark_at other ps) behind (behind + length rest) rest (λ k e from to. ap (λ f. marks_of f k e) (behind_front other p ps k from)) (omega arith) in
    ap (numbered (mark_at other (p ∷ ps)) first) split
    ∙ (numbered_append (mark_at other (p ∷ ps)) first here rest
    ∙ ap₂ (λ a b. a ++ b) mine
    (ap (λ m. numbered (mark_at other (p ∷ ps)) m rest) next ∙ (others ∙ ticks_from h other n workers s spans end gap behind (rows_bottom p.layout + gap) (omega (arith, some, less)) (omega arith) all apart at)))

some_quotient : (a b : ℕ) → 0 < b → b ≤ a → 1 ≤ a / b
some_quotient a b some less = at (a / b) (lt-div-mul-add some)
  where
    at : (q : ℕ) → a < q * b + b → 1 ≤ q
    at zero few = absurd (omega (arith, few, less))
    at (suc q) few = omega arith

ceil_covers : (n d : ℕ) → 0 < d → n ≤ ceil_div n d * d
ceil_covers n d some = let few : n + (d - 1) < ceil_div n d * d + d = lt-div-mul-add some in omega (arith, few, some)

ceil_some : (n d : ℕ) → 0 < d → 1 ≤ n → 1 ≤ ceil_div n d
ceil_some n d some one = some_quotient (n + (d - 1)) d some (omega (arith, some, one))

cut_covers : (plot workers count : ℕ) → 1 ≤ count → count ≤ ceil_div count (ceil_div count (ceil_div count (entries_in plot workers))) * ceil_div count (ceil_div count (entries_in plot workers))
cut_covers plot workers count one =
    let panels : 1 ≤ ceil_div count (entries_in plot workers) = ceil_some count (entries_in plot workers) (omega arith) one in
    ceil_covers count (ceil_div count (ceil_div count (entries_in plot workers))) (ceil_some count (ceil_div count (entries_in plot workers)) panels one)

whole_covers : (count : ℕ) → count ≤ min count 1 * max count 1
whole_covers zero = omega arith
whole_covers (suc n) =
    let one : min (suc n) 1 ≡ 1 = omega arith in
    let all : max (suc n) 1 ≡ suc n = omega arith in
    let same : min (suc n) 1 * max (suc n) 1 ≡ 1 * suc n = ap₂ (λ a b. a * b) one all in
    omega (arith, same)

scale_covers : (t : Format) (workers count : ℕ) → count ≤ (scale_of t workers count).panels * (scale_of t workers count).size
scale_covers t workers count = at (nat_le count (entries_in t.plot workers)) refl
  where
    at : (b : Bool) → nat_le count (entries_in t.plot workers) ≡ b → count ≤ (scale_of t workers count).panels * (scale_of t workers count).size
    at true s =
        subst (λ (z : _). count ≤ z.panels * z.size) (sym (ap (λ b. cond b (whole t count) (cut t.folding count (narrow workers) (ceil_div count (ceil_div count (entries_in t.plot workers))))) s)) (whole_covers count)
    at false s =
        subst (λ (z : _). count ≤ z.panels * z.size) (sym (ap (λ b. cond b (whole t count) (cut t.folding count (narrow workers) (ceil_div count (ceil_div count (entries_in t.plot workers))))) s))
        (cut_covers t.plot workers count (omega (arith, leb-false count (entries_in t.plot workers) s)))

pub all_ticks : (h : HistoryView) (other : Layout) → flat_map (ticks_of h) (panels_in h) ≡ numbered (mark_at other (panels_in h)) 1 h.entries
all_ticks h other =
    let count = length h.entries in
    let s = scale_of (format_in h) h.workers count in
    let far : reached s.panels s.size (count + 1) 1 ≡ count + 1 =
    (let is = reached_is s.panels s.size (count + 1) 1 (omega arith) in omega (arith, is, scale_covers (format_in h) h.workers count)) in
    sym (ticks_from h other s.panels h.workers s (spans_of h.entries) (count + 1) (30 + heading s) 1 (first_top h.workers s) (omega arith) (omega arith) refl refl far)
