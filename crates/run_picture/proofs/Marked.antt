-- The ticks stand behind the last `<g>` of a picture: what stands behind it is the same in two pictures that are the same.
use Rattle.std.proofs.Common.{◌≡◌, ℕ, ◌+◌, List, [], ◌∷◌, ◌++◌, Bool, true, false, not, ◌&&◌, cond, refl, sym, subst, decimal, codes, nat_eq, nat_le}
use Rattle.std.specs.Prelude.{is_some}
use Rattle.std.proofs.lemmas.Bool.{and_from, and_parts, true≢false}
use Rattle.std.proofs.lemmas.List.{append_cancel_left}
use Rattle.lock_journal.specs.Names.{Entry, Kind}
use Rattle.lock_transforms.specs.declared.entries.Kind.TheVariants as kinds
use Rattle.history_text.specs.Text.{numbered}
use Rattle.run_picture.specs.Laws.{is_plain, all_plain}
use Rattle.run_picture.specs.Shapes.{area_text, rect_begin}
use Rattle.run_picture.specs.Ticks.{line_of, line_title, tick_area, tick_bar, skip_area, skip_bar, skip_where, cross_at, cross_text, more_marks, marks_of}
use Rattle.picture_layout.specs.declared.layout.Layout.{Layout}
use Rattle.run_picture.specs.declared.shapes.Area.{Area}
use Rattle.run_picture.proofs.Plain.{number_plain, line_plain}

-- neither `<` at the end nor `<g` stands in the text
abbrev pub calm : List ℕ → Bool
calm [] = true
calm (c ∷ []) = not (nat_eq c 60)
calm (c ∷ d ∷ text) = not (nat_eq c 60 && nat_eq d 103) && calm (d ∷ text)

not_both : (a b : Bool) → not a ≡ true → not (a && b) ≡ true
not_both true b never = absurd (true≢false (sym never))
not_both false b never = refl

pub calm_both : (xs ys : List ℕ) → calm xs ≡ true → calm ys ≡ true → calm (xs ++ ys) ≡ true
calm_both [] ys a b = b
calm_both (c ∷ []) [] a b = a
calm_both (c ∷ []) (y ∷ ys) a b = and_from (not (nat_eq c 60 && nat_eq y 103)) (calm (y ∷ ys)) (not_both (nat_eq c 60) (nat_eq y 103) a) b
calm_both (c ∷ d ∷ xs) ys a b =
    let parts = and_parts (not (nat_eq c 60 && nat_eq d 103)) (calm (d ∷ xs)) a in
    and_from (not (nat_eq c 60 && nat_eq d 103)) (calm (d ∷ (xs ++ ys))) parts.0 (calm_both (d ∷ xs) ys parts.1 b)

no_less : (c : ℕ) → is_plain c ≡ true → not (nat_eq c 60) ≡ true
no_less c is = (and_parts (nat_le 32 c && not (nat_eq c 38)) (not (nat_eq c 60)) (and_parts (nat_le 32 c && not (nat_eq c 38) && not (nat_eq c 60)) (not (nat_eq c 62)) is).0).1

calm_plain : (xs : List ℕ) → all_plain xs ≡ true → calm xs ≡ true
calm_plain [] all = refl
calm_plain (c ∷ []) all = no_less c (and_parts (is_plain c) true all).0
calm_plain (c ∷ d ∷ xs) all =
    let parts = and_parts (is_plain c) (all_plain (d ∷ xs)) all in
    and_from (not (nat_eq c 60 && nat_eq d 103)) (calm (d ∷ xs)) (not_both (nat_eq c 60) (nat_eq d 103) (no_less c parts.0)) (calm_plain (d ∷ xs) parts.1)

calm_number : (word : List ℕ) (n : ℕ) → calm word ≡ true → calm (word ++ decimal n) ≡ true
calm_number word n a = calm_both word (decimal n) a (calm_plain (decimal n) (number_plain n))

calm_area : (a : Area) → calm (area_text a) ≡ true
calm_area a =
    let x = codes "\" x=\"" ++ decimal a.x in
    let y = codes "\" y=\"" ++ decimal a.y in
    let w = codes "\" width=\"" ++ decimal a.width in
    let h = codes "\" height=\"" ++ decimal a.height in
    calm_both (x ++ y ++ w ++ h) (codes "\"")
    (calm_both (x ++ y ++ w) h (calm_both (x ++ y) w (calm_both x y (calm_number (codes "\" x=\"") a.x refl) (calm_number (codes "\" y=\"") a.y refl))
    (calm_number (codes "\" width=\"") a.width refl)) (calm_number (codes "\" height=\"") a.height refl)) refl

calm_begin : (class : List ℕ) (a : Area) → calm (codes "<rect class=\"" ++ class) ≡ true → calm (rect_begin class a) ≡ true
calm_begin class a is = calm_both (codes "<rect class=\"" ++ class) (area_text a) is (calm_area a)

calm_title : (n : ℕ) (e : Entry) → calm (line_title n e) ≡ true
calm_title n e = calm_both (codes "><title>" ++ line_of n e) (codes "</title>") (calm_both (codes "><title>") (line_of n e) refl (calm_plain (line_of n e) (line_plain n e))) refl

calm_tick : (a : Area) (n : ℕ) (e : Entry) → calm (tick_bar a n e) ≡ true
calm_tick a n e = calm_both (rect_begin (codes "t") a ++ line_title n e) (codes "</rect>\n") (calm_both (rect_begin (codes "t") a) (line_title n e) (calm_begin (codes "t") a refl) (calm_title n e)) refl

calm_cross : (x y n : ℕ) (e : Entry) → calm (cross_at x y n e) ≡ true
calm_cross x y n e =
    let across = codes "<path class=\"s\" d=\"M" ++ decimal x in
    let down = codes " " ++ decimal y in
    let begin = across ++ down ++ codes "l6 6m0-6l-6 6\"" in
    calm_both (begin ++ line_title n e) (codes "</path>\n")
    (calm_both begin (line_title n e)
    (calm_both (across ++ down) (codes "l6 6m0-6l-6 6\"") (calm_both across down (calm_number (codes "<path class=\"s\" d=\"M") x refl) (calm_number (codes " ") y refl)) refl)
    (calm_title n e)) refl

calm_skip : (a : Area) (n w t : ℕ) → calm (skip_bar a n w t) ≡ true
calm_skip a n w t =
    let begin = rect_begin (codes "n") a in
    let task = codes "><title>task " ++ decimal t in
    let worker = codes " is skipped by w" ++ decimal w in
    let entry = codes ", entry " ++ decimal n in
    calm_both (begin ++ task ++ worker ++ entry) (codes "</title></rect>\n")
    (calm_both (begin ++ task ++ worker) entry
    (calm_both (begin ++ task) worker (calm_both begin task (calm_begin (codes "n") a refl) (calm_number (codes "><title>task ") t refl)) (calm_number (codes " is skipped by w") w refl))
    (calm_number (codes ", entry ") n refl)) refl

calm_skip_where : (f : Layout) (n w : ℕ) (k : Kind) → calm (skip_where f n w k) ≡ true
calm_skip_where f n w (kinds.Skip t) = calm_skip (skip_area f n w) n w t
calm_skip_where f n w (kinds.Start t) = refl
calm_skip_where f n w (kinds.End t) = refl
calm_skip_where f n w (kinds.Submit a) = refl
calm_skip_where f n w (kinds.Park a) = refl
calm_skip_where f n w (kinds.Resume a) = refl
calm_skip_where f n w (kinds.Claim u) = refl
calm_skip_where f n w (kinds.Close d) = refl
calm_skip_where f n w (kinds.Block u) = refl
calm_skip_where f n w (kinds.Unblock d) = refl
calm_skip_where f n w kinds.Acquire = refl
calm_skip_where f n w kinds.HandBack = refl

calm_cross_text : (f : Layout) (n : ℕ) (e : Entry) → calm (cross_text f n e) ≡ true
unfolding cross_text
calm_cross_text f n e = calm_cross _ _ n e

calm_more : (f : Layout) (n : ℕ) (e : Entry) → calm (more_marks f n e) ≡ true
calm_more f n e = at (is_some e.changes)
  where
    at : (b : Bool) → calm (cond b (skip_where f n e.worker.0 e.kind) (cross_text f n e)) ≡ true
    at true = calm_skip_where f n e.worker.0 e.kind
    at false = calm_cross_text f n e

calm_marks : (f : Layout) (n : ℕ) (e : Entry) → calm (marks_of f n e) ≡ true
calm_marks f n e = calm_both (tick_bar (tick_area f n e.worker.0) n e) (more_marks f n e) (calm_tick (tick_area f n e.worker.0) n e) (calm_more f n e)

pub calm_ticks : (f : ℕ → Layout) (n : ℕ) (es : List Entry) → calm (numbered (λ m e. marks_of (f m) m e) n es) ≡ true
calm_ticks f n [] = refl
calm_ticks f n (e ∷ es) = calm_both (marks_of (f n) n e) (numbered (λ m x. marks_of (f m) m x) (n + 1) es) (calm_marks (f n) n e) (calm_ticks f (n + 1) es)

-- `<g` stands in no such text
calm_never : (xs ys : List ℕ) → calm (xs ++ (60 ∷ 103 ∷ ys)) ≡ true → ⊥
calm_never [] ys is = true≢false (sym is)
calm_never (x ∷ []) ys is = true≢false (sym (and_parts (not (nat_eq x 60 && nat_eq 60 103)) (calm (60 ∷ 103 ∷ ys)) is).1)
calm_never (x ∷ z ∷ xs) ys is = calm_never (z ∷ xs) ys (and_parts (not (nat_eq x 60 && nat_eq z 103)) (calm (z ∷ (xs ++ (60 ∷ 103 ∷ ys)))) is).1

abbrev mark : List ℕ
mark = codes "<g>\n"

behind_mark : (ys : List ℕ) → calm ys ≡ true → calm (codes "g>\n" ++ ys) ≡ true
behind_mark ys is = calm_both (codes "g>\n") ys refl is

tail_is : {b c : ℕ} {xs ys : List ℕ} → b ∷ xs ≡ c ∷ ys → xs ≡ ys
tail_is e = cc

-- behind the last one stands the same
pub last_mark : (xs zs ys ws : List ℕ) → calm ys ≡ true → calm ws ≡ true → xs ++ (mark ++ ys) ≡ zs ++ (mark ++ ws) → ys ≡ ws
last_mark [] [] ys ws a b e = append_cancel_left mark ys ws e
last_mark [] (z ∷ zs) ys ws a b e = absurd (calm_never zs (codes ">\n" ++ ws) (subst (λ l. calm l ≡ true) (tail_is e) (behind_mark ys a)))
last_mark (x ∷ xs) [] ys ws a b e = absurd (calm_never xs (codes ">\n" ++ ys) (subst (λ l. calm l ≡ true) (tail_is (sym e)) (behind_mark ws b)))
last_mark (x ∷ xs) (z ∷ zs) ys ws a b e = last_mark xs zs ys ws a b (tail_is e)
