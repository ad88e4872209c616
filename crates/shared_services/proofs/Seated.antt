-- From the workers, each with its pass and its desk, to the passes and the desks.
use Rattle.std.proofs.Common.{◌≡◌, ◌<◌, ℕ, Bool, true, List, [], length, get_or, map, Option, Result, Ok, Err, sym, ap, ◌∙◌, subst, arith}
use Rattle.std.specs.List.{All, flat_map}
use Rattle.std.specs.Prelude.{IfOk}
use Rattle.std.proofs.lemmas.List.{get_or-map, length-map}
use Rattle.std.proofs.lemmas.List.Folds.{flat_map-map}
use Rattle.item_actions.specs.Files.{Folder}
use Rattle.coordination.specs.Passes.{PassView}
use Rattle.coordination.proofs.lemmas.Numbered.{element}
use Rattle.shared_services.specs.Team.{HasComeBack, HasWorked, HaveRun}
use Rattle.shared_services.specs.declared.jobs.Job.{Job}
use Rattle.shared_services.specs.declared.jobs.JobDone.{JobDone}

-- as many as have parts
pub as_many : {W V : Type 0} (part : W → V) (ws : List W) (vs : List V) → map part ws ≡ vs → length ws ≡ length vs
as_many {W} {V} part ws vs is = sym (length-map ws part) ∙ ap (λ (l : List V). length l) is

-- Each worker is a pass, a desk, what it has run, and whether it has run all of its jobs.
module _ {W D : Type 0} (pass : W → PassView) (desk : W → D) (done : W → List JobDone) (ended : W → Bool) (old new : List W) (long : length new ≡ length old)
    (mine desks : List D) (passes left : List PassView) (mine_are : map desk old ≡ mine) (desks_are : map desk new ≡ desks) (passes_are : map pass old ≡ passes) (left_are : map pass new ≡ left)
    (maxima : List ℕ) (files : D → Option Folder) (faults : D → ℕ) (jobs : ℕ → List Job)
    (each : (i : ℕ) (w : W) → i < length old → HasWorked maxima files faults (jobs i) (pass (get_or old i w)) (pass (get_or new i w)) (desk (get_or old i w)) (desk (get_or new i w)) (done (get_or new i w)) (ended (get_or new i w))) where
  at_part : {V : Type 0} (part : W → V) (ws : List W) (vs : List V) → map part ws ≡ vs → (i : ℕ) (w : W) (v : V) → i < length ws → get_or vs i v ≡ part (get_or ws i w)
  at_part {V} part ws vs is i w v low = ap (λ (l : List V). get_or l i v) (sym is) ∙ get_or-map part ws i w v low

  within : (i : ℕ) → i < length old → i < length new
  within i low = omega (arith, long, low)

  pub all_back : (i : ℕ) (p : PassView) (d : D) → i < length mine → HasComeBack files faults (get_or passes i p) (get_or left i p) (get_or mine i d) (get_or desks i d)
  all_back i p d low =
      let l : i < length old = omega (arith, as_many desk old mine mine_are, low) in
      let w : W = element old i l in
      rw (at_part pass old passes passes_are i w p l, at_part pass new left left_are i w p (within i l), at_part desk old mine mine_are i w d l, at_part desk new desks desks_are i w d (within i l))
      (each i w l).back

  pub all_ran : (ran : List JobDone) → All (λ w. ended w ≡ true) new → ran ≡ flat_map done new → HaveRun maxima files faults jobs passes left mine desks ran
  all_ran ran all is = record {
    lists = map done new;
    joined = is ∙ sym (flat_map-map (λ (l : List JobDone). l) done new);
    count = length-map new done ∙ (long ∙ as_many pass old passes passes_are);
    each = λ i p d low.
        let l : i < length old = omega (arith, as_many pass old passes passes_are, low) in
        let m : i < length new = omega (arith, long, l) in
        let w : W = element old i l in
        rw (at_part pass old passes passes_are i w p l, at_part pass new left left_are i w p m, at_part desk old mine mine_are i w d l, at_part desk new desks desks_are i w d m, get_or-map done new i w [] m)
        ((each i w l).ran (all i w m));
  }

-- what is so where a call succeeds
pub of_ok : {A E : Type 0} (P : A → Type 0) (r : Result A E) (x : A) → r ≡ Ok x → IfOk r P → P x
of_ok P (Ok y) x is p = subst P (cc) p
of_ok P (Err e) x is p = absurd (cc)

pub if_ok : {A E : Type 0} (P Q : A → Type 0) → ((x : A) → P x → Q x) → (r : Result A E) → IfOk r P → IfOk r Q
if_ok P Q f (Ok x) p = f x p
if_ok P Q f (Err e) p = tt

-- two things that are so where a call succeeds
pub if_both : {A E : Type 0} (P Q S : A → Type 0) → ((x : A) → P x → Q x → S x) → (r : Result A E) → IfOk r P → IfOk r Q → IfOk r S
if_both P Q S f (Ok x) p q = f x p q
if_both P Q S f (Err e) p q = tt
