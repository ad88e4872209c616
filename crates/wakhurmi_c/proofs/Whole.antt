-- Handles that are those of all workers of a service, or aren't.
use Rattle.std.proofs.Common.{◌≡◌, ◌≢◌, ◌⊎◌, ◌<◌, ◌≤◌, ◌+◌, ◌-◌, ℕ, List, drop, get_or, length, map, take, Option, None, Some, IfSome, inl, inr, sym, ap, ◌∙◌, subst, arith}
use Rattle.std.specs.List.{All}
use Rattle.std.proofs.lemmas.List.{drop_all, length-map, take_all, take_more}
use Rattle.std.proofs.lemmas.List.Elements.{All-push}
use Rattle.std.proofs.lemmas.Simd.{map-map}
use Rattle.std.proofs.Math.ListN.{get_or-map}
use Rattle.coordination.specs.Names.{PassView, workers_from}
use Rattle.wakhurmi_c.specs.Closed.{AreWhole}
use Rattle.wakhurmi_c.specs.declared.handles.Handle.{Handle}
use Rattle.wakhurmi_c.specs.declared.workers.Worker.{Worker}
use Rattle.wakhurmi_c.proofs.Numbered.{one_more, other_number}

abbrev pub number : Handle → ℕ
number h = h.held.worker.pass.sight.worker.0

-- so many of them fit, and the others do where they have their numbers
abbrev pub FitSoFar : List Handle → ℕ → Type 0
FitSoFar hs i =
    (0 < length hs) × All (λ h. h.held.worker.workers ≡ length hs) (take i hs)
    × (map (λ h. h.held.worker.pass.sight.worker.0) (drop i hs) ≡ workers_from i (length hs - i) → map (λ h. h.held.worker.pass.sight.worker.0) hs ≡ workers_from 0 (length hs))

module _ (hs : List Handle) (i : ℕ) (d : Handle) (low : i < length hs) where
  pub fits_more : FitSoFar hs i → number (get_or hs i d) ≡ i → (get_or hs i d).held.worker.workers ≡ length hs → FitSoFar hs (i + 1)
  fits_more so here count = (
    so.0,
    subst (All (λ h. h.held.worker.workers ≡ length hs)) (sym (take_more hs i d low)) (All-push (λ (h : Handle). h.held.worker.workers ≡ length hs) (take i hs) (get_or hs i d) so.1 count),
    λ rest. so.2 (one_more number hs i d low here rest),
  )

  pub one_differs : (number (get_or hs i d) ≢ i) ⊎ ((get_or hs i d).held.worker.workers ≢ length hs) → AreWhole hs → ⊥
  one_differs why whole = elim why [
    | inl other ↦ other_number number hs i d low other whole.numbers
    | inr other ↦ other (whole.workers i d low)
  ]

pub whole_at_end : (hs : List Handle) (i : ℕ) → length hs ≤ i → FitSoFar hs i → AreWhole hs
whole_at_end hs i end so =
    let none : length hs - i ≡ 0 = omega (arith, end) in record {
      some = so.0;
      numbers = so.2 (ap (map number) (drop_all i hs end) ∙ sym (ap (workers_from i) none));
      workers = subst (All (λ (h : Handle). h.held.worker.workers ≡ length hs)) (take_all i hs end) so.1;
    }

module _ {X Y : Type 0} (f : X → Y) where
  -- elements of lists with the same values have the same value
  pub same_value : (xs ys : List X) (k : ℕ) (d : X) → map f xs ≡ map f ys → f (get_or xs k d) ≡ f (get_or ys k d)
  same_value xs ys k d same = sym (get_or-map f xs k d) ∙ (ap (λ l. get_or l k (f d)) same ∙ get_or-map f ys k d)

  pub same_map : {Z : Type 0} (g : Y → Z) (xs ys : List X) → map f xs ≡ map f ys → map (λ x. g (f x)) xs ≡ map (λ x. g (f x)) ys
  same_map g xs ys same = sym (map-map g f xs) ∙ (ap (map g) same ∙ map-map g f ys)

  -- what is so of the values of elements is so of others with the same values
  pub all_same : (P : Y → Type 0) (xs ys : List X) → map f xs ≡ map f ys → All (λ x. P (f x)) ys → All (λ x. P (f x)) xs
  all_same P xs ys same all = λ k d low.
      let within : k < length ys = omega (arith, low, length-map xs f, length-map ys f, ap (λ (l : List Y). length l) same) in
      subst P (sym (same_value xs ys k d same)) (all k d within)

-- the passes of handles that are whole have their numbers, as many as the service that they share has workers
pub in_order : {S : Type 0} (service : Option S) (count : S → ℕ) (hs new : List Handle) (ps : List PassView) → AreWhole hs → map (λ h. h.held.worker) new ≡ map (λ h. h.held.worker) hs → ps ≡ map (λ h. h.held.worker.pass) new
    → IfSome service (λ s. (n : ℕ) → All (λ (h : Handle). h.held.worker.workers ≡ n) new → count s ≡ n) → IfSome service (λ s. map (λ p. p.sight.worker.0) ps ≡ workers_from 0 (count s))
in_order None count hs new ps whole same are counts = tt
in_order (Some s) count hs new ps whole same are counts =
    let workers = all_same (λ (h : Handle). h.held.worker) (λ (w : Worker). w.workers ≡ length hs) new hs same whole.workers in
    ap (map (λ (p : PassView). p.sight.worker.0)) are
    ∙ (map-map (λ (p : PassView). p.sight.worker.0) (λ (h : Handle). h.held.worker.pass) new
    ∙ (same_map (λ (h : Handle). h.held.worker) (λ (w : Worker). w.pass.sight.worker.0) new hs same ∙ (whole.numbers ∙ ap (workers_from 0) (sym (counts (length hs) workers)))))
