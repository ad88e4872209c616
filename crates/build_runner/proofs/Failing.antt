-- What all workers closed that wasn't worked out, by what their passes saw.
use Rattle.std.proofs.Common.{◌≡◌, ℕ, suc, ◌+◌, ◌<◌, ◌≤◌, List, [], ◌∷◌, length, get_or, refl, sym, ap, ◌∙◌, arith, subst}
use Rattle.std.specs.List.{range_with_len}
use Rattle.std.specs.Prelude.{sum_by}
use Rattle.std.proofs.lemmas.List.Sums.{sum_by-cons}
use Rattle.lock_journal.specs.Names.{Entry, closed_by}
use Rattle.daemon_manager.specs.Counts.{TallyView}
use Rattle.coordination.specs.Passes.{PassView}
use Rattle.build_workers.specs.Failing.{unreal_by, unreal_in}
use Rattle.build_workers.specs.RunFailing.{unreal_of}
use Rattle.build_runner.specs.Failing.{unreal_seen}

-- what is said of a worker's pass, where it came to the end
pub failed_of : (old new : PassView) (mine mine' : TallyView) → new.sight.worker ≡ old.sight.worker
    → mine'.failed + unreal_by old.sight.worker old.sight.seen.history ≤ mine.failed + unreal_by old.sight.worker new.sight.seen.history → mine'.failed + unreal_seen old ≤ mine.failed + unreal_seen new
failed_of old new mine mine' worker failed = let same = ap (λ w. unreal_by w new.sight.seen.history) worker in omega (arith, failed, same)

-- a sum over numbers that go on from one
sum_along : (f : PassView → ℕ) (g : ℕ → ℕ) (ps : List PassView) (k : ℕ) → ((i j : ℕ) (p : PassView) → i < length ps → k + i ≡ j → f (get_or ps i p) ≡ g j) → sum_by f ps ≡ sum_by g (range_with_len k (length ps))
sum_along f g [] k each = refl
sum_along f g (p ∷ ps) k each =
    let first : f p ≡ g k = each 0 k p (omega arith) (omega arith) in
    let rest = sum_along f g ps (k + 1) (λ i j q low is. each (suc i) j q (omega (arith, low)) (omega (arith, is))) in
    omega (arith, first, rest, sum_by-cons f p ps, sum_by-cons g k (range_with_len (k + 1) (length ps)))

-- what the passes saw at the end is what the workers closed
pub unreal_at_end : (ps : List PassView) (n : ℕ) (h : List Entry) → length ps ≡ n
    → ((i : ℕ) (p : PassView) → i < n → closed_by (record { 0 = i }) h ≡ closed_by (get_or ps i p).sight.worker (get_or ps i p).sight.seen.history)
    → sum_by unreal_seen ps ≡ unreal_of n h
unreal_at_end ps n h long each =
    sum_along unreal_seen (λ i. unreal_by (record { 0 = i }) h) ps 0 (λ i j p low is.
    let here : i ≡ j = omega (arith, is) in
    let same : closed_by (record { 0 = i }) h ≡ closed_by (get_or ps i p).sight.worker (get_or ps i p).sight.seen.history = each i p (omega (arith, long, low)) in
    subst (λ (m : ℕ). unreal_seen (get_or ps i p) ≡ unreal_by (record { 0 = m }) h) here (ap unreal_in (sym same)))
    ∙ ap (λ (m : ℕ). sum_by (λ i. unreal_by (record { 0 = i }) h) (range_with_len 0 m)) long

-- and at the beginning they saw nothing
pub unreal_at_first : (ps : List PassView) → ((i : ℕ) (p : PassView) → i < length ps → (get_or ps i p).sight.seen.history ≡ []) → sum_by unreal_seen ps ≡ 0
unreal_at_first [] none = refl
unreal_at_first (p ∷ ps) none =
    let first : unreal_seen p ≡ 0 = ap (λ (h : List Entry). unreal_by p.sight.worker h) (none 0 p (omega arith)) in
    let rest = unreal_at_first ps (λ i q low. none (suc i) q (omega (arith, low))) in
    omega (arith, first, rest, sum_by-cons unreal_seen p ps)
