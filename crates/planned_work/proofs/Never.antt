-- The calls of a worker of a plan are never refused by the rules.
use Rattle.std.proofs.Common.{◌≡◌, ◌≢◌, ℕ, ◌⊎◌, true, false, ◌||◌, Option, None, Some, inl, inr, refl, sym, ap, ◌∙◌, subst, arith}
use Rattle.std.specs.List.{list_all}
use Rattle.std.proofs.lemmas.Bool.{and_from, and_parts, cases_eq, eq-eqb, false≢true, not_from_false}
use Rattle.item_actions.specs.declared.outcomes.Outcome.TheVariants as outcomes
use Rattle.lock_journal.specs.Names.{same_mark, Fits, task_of, actions_of, holding_of, mark_of, WorkerId, Passed, Running, ActionOf, IsDisabled}
use Rattle.lock_journal.specs.Names.{condition, has_passed, never_ran, BookView}
use Rattle.lock_transforms.specs.declared.entries.Kind.TheVariants as kinds
use Rattle.lock_journal.proofs.lemmas.Fitting.{apart_of}
use Rattle.coordination.specs.Names.{Finds, blocked_shown, claimed_shown, lease_shown}
use Rattle.coordination.specs.declared.rule.Sight.{Sight}
use Rattle.async_tracker.specs.NextWork.{step_of_next, step_of_parked}
use Rattle.async_tracker.specs.WorkSteps.{IsRefused}
use Rattle.async_tracker.specs.declared.next_work.NextWork.TheVariants as next
use Rattle.async_tracker.specs.declared.next_work.ParkedWork.TheVariants as parked
use Rattle.async_tracker.specs.declared.work_steps.WorkStep.{WorkStep}
use Rattle.async_tracker.specs.declared.work_steps.WorkStep.TheVariants as steps
use Rattle.async_tracker.proofs.Claiming.{close_never_waits}
use Rattle.async_tracker.proofs.lemmas.NextWork.{never_refused}
use Rattle.single_steps.specs.TaskMoves.{step_of_move}
use Rattle.single_steps.specs.declared.task_moves.TaskMove.TheVariants as moves
use Rattle.single_steps.proofs.AtOnce.{next_end}
use Rattle.single_steps.proofs.TaskActions.{all_range}
use Rattle.single_steps.proofs.TaskSteps.{cannot_skip}
use Rattle.planned_work.specs.Done.{CloseLeaves, ClosedAlone, DoneIn, DoneLeaves, DoneNextIn, DoneNextLeaves, TakeUpLeaves, closed_as, next_of_answer}
use Rattle.planned_work.specs.Fitting.{IsPlanFit}
use Rattle.planned_work.specs.InPlace.{HasReleasedTask, ReleasesLast}
use Rattle.planned_work.specs.Next.{IsIdleChoice, IsMove, IsParkedChoice, IsStuckAt, NextLeaves}
use Rattle.planned_work.specs.Places.{may_enter, place_of, unit_in}
use Rattle.planned_work.specs.Sections.{EnterLeaves}
use Rattle.planned_work.specs.Trying.{HasToWaitFor, InBook}
use Rattle.planned_work.specs.declared.answers.Answer.{Answer}
use Rattle.planned_work.specs.declared.answers.Answer.TheVariants as answers
use Rattle.planned_work.specs.declared.answers.Next.{Next}
use Rattle.planned_work.specs.declared.answers.Next.TheVariants as nexts
use Rattle.planned_work.specs.declared.places.Place.{Place}
use Rattle.planned_work.specs.declared.places.Place.TheVariants as places
use Rattle.planned_work.proofs.AtPlaces.{alone_here, here, idle_free, idle_holds, idle_rests, is_item_here, leased_here, open_here, owns_lock}
use Rattle.planned_work.proofs.AtPlaces.{owns_to_park, parked_by, parked_free, parked_waits, reads, runs_none, runs_task_here, same_lease, unitless_here, works_here}
use Rattle.planned_work.proofs.NeverStuck.{enters_always, fetch_ends, fits_as, section_ends, unit_stands}
use Rattle.planned_work.proofs.Order.{AreInOrder, HasCome, order_after}
use Rattle.planned_work.proofs.Placed.{task_there}
use Rattle.planned_work.proofs.Possible.{claim_never, comes_in_task, fetch_never, park_never, parked_claim_never, resume_never, skip_never_waits, start_never, submit_never}
use Rattle.planned_work.proofs.Skips.{can_end, can_skip}

told_stuck : (a : Answer) → nexts.Stuck ≡ next_of_answer a → a ≡ answers.Stuck
told_stuck answers.Stuck is = refl
told_stuck answers.Done is = absurd (cc)
told_stuck answers.Busy is = absurd (cc)
told_stuck answers.Stopped is = absurd (cc)
told_stuck answers.Again is = absurd (cc)
told_stuck answers.NoMemory is = absurd (cc)
told_stuck answers.Misused is = absurd (cc)

-- the book of which a choice was made
refused_in : {A : Type 0} (answers : WorkerId → BookView → A → Type 0) (step_of : A → Option WorkStep) (a : A) (old new : Sight) → IsRefused answers step_of a old new → (book : BookView) × Finds old.worker old.seen book × answers old.worker book a
refused_in answers step_of a old new (inl f) = (f.failed.before, f.failed.found, f.answer)
refused_in answers step_of a old new (inr k) = (k.before, k.found, k.answer)

-- an answer without a step is never refused
no_step : {A : Type 0} (answers : WorkerId → BookView → A → Type 0) (step_of : A → Option WorkStep) (a : A) (old new : Sight) → step_of a ≡ None → IsRefused answers step_of a old new → ⊥
no_step answers step_of a old new none (inl f) = let is = f.is in absurd (cc (sym none ∙ is))
no_step answers step_of a old new none (inr k) = let is = k.is in absurd (cc (sym none ∙ is))

order_of : (book : BookView) (old : Sight) → Fits old.seen.graph → Finds old.worker old.seen book → AreInOrder book.graph book.state
order_of book old fits found = subst (AreInOrder book.graph) (sym found.sound.replays) (order_after book.graph book.history (subst Fits (sym found.agrees.graph) fits) found.sound.lawful)

module _ (old new : Sight) (fits : Fits old.seen.graph) where
  fits_in : (book : BookView) → Finds old.worker old.seen book → Fits book.graph
  fits_in book found = subst Fits (sym found.agrees.graph) fits

  -- at rest
  skip_never : (t : ℕ) → place_of old ≡ places.Idle → IsRefused IsIdleChoice step_of_next (next.Skip t) old new → ⊥
  skip_never t is (inr k) = skip_never_waits old new t k
  skip_never t is (inl f) =
      never_refused IsIdleChoice step_of_next (next.Skip t) (steps.Skip t) old new refl (λ book found answer. (
        λ fails. false≢true (sym (cannot_skip old book t found (idle_holds old book fits found is) fails answer.1.is)
            ∙ can_skip book.graph book.state old.worker t (apart_of book.graph (fits_in book found)) (order_of book old fits found) answer.1.is.waits),
        λ again. let within = answer.1.is.within in omega (arith, again, within),
      )) (inl f)

  idle_never : place_of old ≡ places.Idle → IsStuckAt places.Idle old new → ⊥
  idle_never is (next.Claim u, h) =
      let book = refused_in IsIdleChoice step_of_next (next.Claim u) old new h in
      claim_never old new u fits (idle_free old book.0 fits book.1 is) (idle_rests old book.0 fits book.1 is) h
  idle_never is (next.Start t, h) =
      let book = refused_in IsIdleChoice step_of_next (next.Start t) old new h in
      start_never old new t (idle_holds old book.0 fits book.1 is) h
  idle_never is (next.Skip t, h) = skip_never t is h
  idle_never is (next.Beside, h) = no_step IsIdleChoice step_of_next next.Beside old new refl h
  idle_never is (next.Finish, h) = no_step IsIdleChoice step_of_next next.Finish old new refl h

  -- in an action
  parked_never : (n : ℕ) → place_of old ≡ places.Parked n → IsStuckAt (places.Parked n) old new → ⊥
  parked_never n is (parked.Claim u, h) =
      let book = refused_in (IsParkedChoice n) (step_of_parked n) (parked.Claim u) old new h in
      parked_claim_never old new n u fits (parked_free old book.0 fits book.1 n is) (parked_waits old book.0 fits book.1 n is) h
  parked_never n is (parked.Resume failed, h) =
      let book = refused_in (IsParkedChoice n) (step_of_parked n) (parked.Resume failed) old new h in
      resume_never old new (record { worker = old.worker; action = n }) failed (parked_by old book.0 fits book.1 n is) (parked_free old book.0 fits book.1 n is) h
  parked_never n is (parked.Beside, h) = no_step (IsParkedChoice n) (step_of_parked n) parked.Beside old new refl h

  -- in its task, with a lease
  leased : (book : BookView) → Finds old.worker old.seen book → (holding_of book.state old.worker).lease ≡ true → lease_shown old ≡ true
  leased book found lease = sym (same_lease old book fits found) ∙ lease

  fetch_in_task : (t u : ℕ) → place_of old ≡ places.InTask t → IsRefused (IsMove t) (step_of_move t) (moves.Fetch u) old new → ⊥
  fetch_in_task t u is h =
      let book = refused_in (IsMove t) (step_of_move t) (moves.Fetch u) old new h in
      fetch_never old new t u fits (works_here old book.0 fits book.1 t is (leased book.0 book.1 book.2.0)) h

  submit_in_task : (t a : ℕ) → place_of old ≡ places.InTask t → IsRefused (IsMove t) (step_of_move t) (moves.Submit a) old new → ⊥
  submit_in_task t a is h =
      let book = refused_in (IsMove t) (step_of_move t) (moves.Submit a) old new h in
      submit_never old new t a fits (works_here old book.0 fits book.1 t is (leased book.0 book.1 book.2.0)) (unitless_here old book.0 fits book.1 t is) h

  park_in_task : (t a : ℕ) → place_of old ≡ places.InTask t → IsRefused (IsMove t) (step_of_move t) (moves.Park a) old new → ⊥
  park_in_task t a is h =
      let book = refused_in (IsMove t) (step_of_move t) (moves.Park a) old new h in
      park_never old new t a fits (works_here old book.0 fits book.1 t is (leased book.0 book.1 book.2.0))
      (owns_to_park old book.0 fits book.1 t is a (comes_in_task book.0.graph book.0.state old.worker t a book.2) book.2.0) h

  -- and its end
  module _ (last : ReleasesLast old.seen.graph) (t : ℕ) (is : place_of old ≡ places.InTask t) (book : BookView) (found : Finds old.worker old.seen book) where
    all_passed : HasReleasedTask book.graph book.state old.worker t → list_all (λ a. has_passed (mark_of book.state (ActionOf a)) || never_ran book.graph book.state a) (actions_of book.graph t) ≡ true
    all_passed r =
        let order = order_of book old fits found in
        let behind = subst ReleasesLast (sym found.agrees.graph) last t r.action r.of_task r.releases in
        all_range (λ a. has_passed (mark_of book.state (ActionOf a)) || never_ran book.graph book.state a) (task_of book.graph t).first_action (task_of book.graph t).actions (λ a low high.
        ap (λ m. has_passed m || never_ran book.graph book.state a) (elim (cases_eq a r.action) [
          | inl same ↦ subst (λ n. mark_of book.state (ActionOf n) ≡ Passed) (sym same) r.passed
          | inr other ↦ order.earlier t r.action a r.of_task (low, high) (omega (arith, other, behind, high)) (subst HasCome (sym r.passed) tt)
        ]))

    ends : IsMove t old.worker book moves.End → condition book.graph book.state old.worker (kinds.End t) ≡ true
    ends answer = at ((here old book fits found).works t (runs_task_here old book fits found t is) (open_here old book fits found t is) (alone_here old book fits found t is))
      where
        at : ((holding_of book.state old.worker).lease ≡ true) ⊎ HasReleasedTask book.graph book.state old.worker t → condition book.graph book.state old.worker (kinds.End t) ≡ true
        at (inl lease) = next_end old book t (fits_in book found) found (works_here old book fits found t is (leased book found lease)) (unitless_here old book fits found t is) answer
        at (inr released) =
            and_from _ _ (and_from _ _ (and_from _ _ (and_from _ _ (ap (λ m. same_mark m (Running old.worker)) (runs_task_here old book fits found t is) ∙ eq-eqb old.worker.0 old.worker.0 refl)
            (not_from_false _ (alone_here old book fits found t is))) (not_from_false _ (open_here old book fits found t is))) (not_from_false _ (runs_none old book fits found (unitless_here old book fits found t is)))) (all_passed released)

    end_possible : IsMove t old.worker book moves.End → IsDisabled (kinds.End t) book.graph old.worker book.state → ⊥
    end_possible answer disabled =
        let holds = ends answer in
        let through = (and_parts _ _ holds).1 in
        let possible = can_end book.graph book.state old.worker t (apart_of book.graph (fits_in book found)) (runs_task_here old book fits found t is) through (owns_lock old book fits found t is) in
        false≢true (sym (disabled (task_there old book t is found)) ∙ and_from _ _ holds possible)

  task_never : ReleasesLast old.seen.graph → (t : ℕ) → place_of old ≡ places.InTask t → IsStuckAt (places.InTask t) old new → ⊥
  task_never last t is (moves.Fetch u, h) = fetch_in_task t u is h
  task_never last t is (moves.Submit a, h) = submit_in_task t a is h
  task_never last t is (moves.Park a, h) = park_in_task t a is h
  task_never last t is (moves.End, h) =
      never_refused (IsMove t) (step_of_move t) moves.End (steps.End t) old new refl (λ book found answer. (λ no. no, λ disabled. end_possible last t is book found answer disabled)) h

  -- at each place
  pub stuck_nowhere : ReleasesLast old.seen.graph → (p : Place) → place_of old ≡ p → IsStuckAt p old new → ⊥
  stuck_nowhere last places.Idle is h = idle_never is h
  stuck_nowhere last (places.InTask t) is h = task_never last t is h
  stuck_nowhere last (places.Parked n) is h = parked_never n is h
  stuck_nowhere last places.Outside is h = h
  stuck_nowhere last (places.Fetch u) is h = h
  stuck_nowhere last (places.Item u) is h = h
  stuck_nowhere last (places.ItemIn u a) is h = h
  stuck_nowhere last places.Section is h = h

  -- an item is closed at once
  closes_at_once : (u : ℕ) (gave : Option ℕ) → blocked_shown old ≡ false → unit_in (claimed_shown old) ≡ Some u → HasToWaitFor (InBook (IsDisabled (kinds.Close (closed_as u gave)))) old new → ⊥
  closes_at_once u (Some n) free unit h =
      close_never_waits old h.book u (outcomes.Number n) h.found (is_item_here old h.book fits h.found u free unit) (unit_stands (claimed_shown old) u unit) (leased_here old h.book fits h.found u free unit) (fits_as u (Some n)) h.cause
  closes_at_once u None free unit h =
      close_never_waits old h.book u outcomes.Fault h.found (is_item_here old h.book fits h.found u free unit) (unit_stands (claimed_shown old) u unit) (leased_here old h.book fits h.found u free unit) (fits_as u None) h.cause

  pub closes_item : (u : ℕ) (gave : Option ℕ) → place_of old ≡ places.Item u → HasToWaitFor (InBook (IsDisabled (kinds.Close (closed_as u gave)))) old new → ⊥
  closes_item u gave is h = let r = reads old (places.Item u) is in closes_at_once u gave r.0 r.1 h

  pub closes_item_in : (u a : ℕ) (gave : Option ℕ) → place_of old ≡ places.ItemIn u a → HasToWaitFor (InBook (IsDisabled (kinds.Close (closed_as u gave)))) old new → ⊥
  closes_item_in u a gave is h = let r = reads old (places.ItemIn u a) is in closes_at_once u gave r.0 r.1 h

  -- so no call ends in such a way
  pub next_never : ReleasesLast old.seen.graph → NextLeaves old new nexts.Stuck → ⊥
  next_never last h = stuck_nowhere last (place_of old) refl h

  done_in : (p : Place) (gave : Option ℕ) → place_of old ≡ p → DoneIn p gave old new answers.Stuck → ⊥
  done_in (places.Item u) gave is h = closes_item u gave is h
  done_in (places.ItemIn u a) gave is h = closes_item_in u a gave is h
  done_in (places.Fetch u) gave is h = fetch_ends old new u gave is h
  done_in places.Idle gave is h = h
  done_in places.Outside gave is h = h
  done_in (places.InTask t) gave is h = h
  done_in (places.Parked a) gave is h = h
  done_in places.Section gave is h = h

  pub done_never : (gave : Option ℕ) → DoneLeaves gave old new answers.Stuck → ⊥
  done_never gave h = done_in (place_of old) gave refl h

  alone_never : (Leaves : Answer → Type 0) → (Leaves answers.Stuck → ⊥) → ClosedAlone Leaves nexts.Stuck → ⊥
  alone_never Leaves never h = never (subst Leaves (told_stuck h.0 h.1) h.2)

  done_next_in : (p : Place) (gave : Option ℕ) → place_of old ≡ p → DoneNextIn p gave old new nexts.Stuck → ⊥
  done_next_in (places.Item u) gave is h = closes_item u gave is h
  done_next_in (places.ItemIn u a) gave is h = closes_item_in u a gave is h
  done_next_in (places.Fetch u) gave is h = alone_never (TakeUpLeaves (Some (closed_as u gave)) old new) (λ stuck. fetch_ends old new u gave is stuck) h
  done_next_in places.Idle gave is h = h
  done_next_in places.Outside gave is h = h
  done_next_in (places.InTask t) gave is h = h
  done_next_in (places.Parked a) gave is h = h
  done_next_in places.Section gave is h = h

  pub done_next_never : (gave : Option ℕ) → DoneNextLeaves gave old new nexts.Stuck → ⊥
  done_next_never gave (inl h) = done_next_in (place_of old) gave refl h.1
  done_next_never gave (inr h) = alone_never (DoneIn (place_of old) gave old new) (done_in (place_of old) gave refl) h.1

-- what a call answers, by what it leaves
module _ (old new : Sight) (fit : IsPlanFit old.seen.graph) where
  pub next_answers : (n : Next) → NextLeaves old new n → n ≢ nexts.Stuck
  next_answers n left = λ is. next_never old new fit.fits fit.last (subst (NextLeaves old new) is left)

  pub done_answers : (gave : Option ℕ) (a : Answer) → DoneLeaves gave old new a → a ≢ answers.Stuck
  done_answers gave a left = λ is. done_never old new fit.fits gave (subst (DoneLeaves gave old new) is left)

  pub item_answers : (u : ℕ) (gave : Option ℕ) (a : Answer) → (place_of old ≡ places.Item u) ⊎ ((n : ℕ) × (place_of old ≡ places.ItemIn u n)) → CloseLeaves (closed_as u gave) old new a → a ≢ answers.Stuck
  item_answers u gave a (inl at) left = λ is. closes_item old new fit.fits u gave at (subst (CloseLeaves (closed_as u gave) old new) is left)
  item_answers u gave a (inr at) left = λ is. closes_item_in old new fit.fits u at.0 gave at.1 (subst (CloseLeaves (closed_as u gave) old new) is left)

  pub done_next_answers : (gave : Option ℕ) (n : Next) → DoneNextLeaves gave old new n → n ≢ nexts.Stuck
  done_next_answers gave n left = λ is. done_next_never old new fit.fits gave (subst (DoneNextLeaves gave old new) is left)

pub enter_answers : (old new : Sight) (a : Answer) → may_enter old ≡ true → EnterLeaves old new a → a ≢ answers.Stuck
enter_answers old new a may left = λ is. enters_always old new may (subst (EnterLeaves old new) is left)

pub leave_answers : (old new : Sight) (a : Answer) → place_of old ≡ places.Section → TakeUpLeaves None old new a → a ≢ answers.Stuck
leave_answers old new a at left = λ is. section_ends old new at (subst (TakeUpLeaves None old new) is left)
