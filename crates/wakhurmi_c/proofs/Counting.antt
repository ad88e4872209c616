-- How many workers a service has that was opened, and lists that grow together.
use Rattle.std.proofs.Common.{◌≡◌, ◌∷◌, ◌++◌, ℕ, zero, suc, List, [], Option, length, map, refl, sym, ap, ◌∙◌}
use Rattle.std.proofs.lemmas.List.{length-map, map-append}
use Rattle.lock_journal.specs.Names.{BookView, LockId}
use Rattle.coordination.specs.Names.{PassView, sights_from}
use Rattle.planned_work.specs.Opened.{IsOpenedFor}
use Rattle.planned_work.specs.Plans.{WorkPlanView}
use Rattle.wakhurmi_c.specs.Opened.{IsOpened}

length_sights : (w n : ℕ) (book : BookView) → length (sights_from w n book) ≡ n
length_sights w zero book = refl
length_sights w (suc n) book = ap suc (length_sights (suc w) n book)

pub opened_len : (ps : List PassView) (n max locks : ℕ) (all : Option LockId) → IsOpened n max locks all ps → length ps ≡ n
opened_len ps n max locks all o = sym (length-map ps (λ p. p.sight)) ∙ (ap length o.passes ∙ length_sights 0 n o.book)

pub planned_len : (p : WorkPlanView) (ps : List PassView) (n max : ℕ) → IsOpenedFor p n max ps → length ps ≡ n
planned_len p ps n max o = sym (length-map ps (λ p. p.sight)) ∙ (ap length o.passes ∙ length_sights 0 n o.book)

-- lists with the same values still have them with one more each
pub mapped_push : {X Y Z : Type 0} (f : X → Z) (g : Y → Z) (xs longer : List X) (ys : List Y) (x : X) (y : Y) → longer ≡ xs ++ x ∷ [] → map f xs ≡ map g ys → f x ≡ g y
    → map f longer ≡ map g (ys ++ y ∷ [])
mapped_push f g xs longer ys x y is same here = ap (map f) is ∙ (map-append f xs (x ∷ []) ∙ ((λ i. same i ++ here i ∷ []) ∙ sym (map-append g ys (y ∷ []))))
