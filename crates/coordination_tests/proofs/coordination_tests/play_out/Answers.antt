use Rattle.std.proofs.Common.{rules, arith, ◌≡◌, ◌<◌, ℕ, suc, List, [], ◌∷◌, ◌++◌, length, take, drop, map, slice_index_or, refl, ap, ◌∙◌, subst}
use Rattle.std.proofs.Math.Seq.{take-append_seam}
use Rattle.resource_lock.specs.declared.ids.WorkerId.{WorkerId}
use Rattle.coordination.specs.declared.passes.Pass.{Pass}
use Rattle.coordination_tests.proofs.coordination_tests.play_out.Goals as goal

-- what is the same of the members of two lists is the same of the lists
same_map : {A B : Type 0} (f : A → B) (xs ys : List A) → length xs ≡ length ys → ((i : ℕ) (d : A) → i < length ys → f (slice_index_or xs i d) ≡ f (slice_index_or ys i d)) → map f xs ≡ map f ys
same_map f [] [] len each = refl
same_map f [] (y ∷ ys) len each = absurd (omega (arith, len))
same_map f (x ∷ xs) [] len each = absurd (omega (arith, len))
same_map f (x ∷ xs) (y ∷ ys) len each =
    let first : f x ≡ f y = each 0 x (omega arith) in
    let rest : map f xs ≡ map f ys = same_map f xs ys (omega (arith, len)) (λ i d low. each (suc i) d (omega (arith, low))) in
    λ i. first i ∷ rest i

pub finish-requires-clause-all : goal.finish-requires-clause-all
finish-requires-clause-all g c =
    let old : List Pass = c.args.opened.passes.items in
    let new : List Pass = c.take_turns_in_threads.new.passes in
    let worker : Pass → ℕ = λ p. p.sight.worker.0 in
    let played = c.take_turns_in_threads.ensures in
    let value : c.as_mut_slice-workers.result.now ≡ old = search rules in
    let len : length new ≡ c.args.opened.passes.len = search rules in
    let written : take c.args.opened.passes.len (new ++ drop (length new) old) ≡ new = subst (λ (n : ℕ). take n (new ++ drop (length new) old) ≡ new) len (take-append_seam new (drop (length new) old)) in
    let same : map worker new ≡ map worker c.as_mut_slice-workers.result.now = same_map worker _ _ played.len (λ i d low. ap (λ (w : WorkerId). w.0) (played.workers i d low)) in
    ap (map worker) written ∙ (same ∙ (ap (map worker) value ∙ c.requires.workers))
