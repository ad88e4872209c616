-- Whether a call had a hold, by what its try came to.
use Rattle.std.proofs.Common.{◌≡◌, ◌≢◌, ℕ, Bool, true, false, refl, sym, subst}
use Rattle.std.proofs.lemmas.Bool.{false≢true}
use Rattle.coordination.specs.declared.decisions.Decided.{Decided}
use Rattle.coordination.specs.declared.decisions.Decided.TheVariants as decided
use Rattle.coordination.specs.declared.decisions.Followed.{Followed}
use Rattle.coordination.specs.declared.decisions.Followed.TheVariants as followed
use Rattle.coordination.specs.declared.rule.Sight.{Sight}
use Rattle.coordination.specs.declared.turns.Came.{Came}
use Rattle.coordination.specs.declared.turns.Came.TheVariants as came
use Rattle.async_tracker.specs.declared.next_work.NextWork.{NextWork}
use Rattle.async_tracker.specs.declared.next_work.NextWork.TheVariants as next
use Rattle.async_tracker.specs.declared.next_work.ParkedWork.{ParkedWork}
use Rattle.async_tracker.specs.declared.next_work.ParkedWork.TheVariants as parked
use Rattle.single_steps.specs.declared.task_moves.TaskMove.{TaskMove}
use Rattle.single_steps.specs.declared.task_moves.TaskMove.TheVariants as moves
use Rattle.planned_work.specs.Deciding.{idle_next, idle_then, moved_next, parked_next, parked_then, unless_stuck}
use Rattle.planned_work.specs.Done.{answer_of, ends_hold, had_hold_closing, next_of_answer}
use Rattle.planned_work.specs.Next.{had_hold}
use Rattle.planned_work.specs.Rings.{WakesBy}
use Rattle.planned_work.specs.Trying.{NeverFailed, behind_of, had_hold as tried_hold, had_hold_behind, had_hold_run, ran_of, tried_of}
use Rattle.planned_work.specs.declared.answers.Answer.{Answer}
use Rattle.planned_work.specs.declared.answers.Answer.TheVariants as answers
use Rattle.planned_work.specs.declared.answers.Next.{Next}
use Rattle.planned_work.specs.declared.answers.Next.TheVariants as nexts
use Rattle.planned_work.specs.declared.rings.Rings.{Rings}
use Rattle.planned_work.specs.declared.trying.Behind.{Behind}
use Rattle.planned_work.specs.declared.trying.Behind.TheVariants as behind
use Rattle.planned_work.specs.declared.trying.Ran.{Ran}
use Rattle.planned_work.specs.declared.trying.Ran.TheVariants as ran
use Rattle.planned_work.specs.declared.trying.Tried.{Tried}
use Rattle.planned_work.specs.declared.trying.Tried.TheVariants as tried

pub idle_held : (t : Tried NextWork) → tried_hold t ≡ had_hold (idle_next t)
idle_held (tried.Decided (decided.Entered (next.Claim u) true)) = refl
idle_held (tried.Decided (decided.Entered (next.Start t) true)) = refl
idle_held (tried.Decided (decided.Entered (next.Skip t) true)) = refl
idle_held (tried.Decided (decided.Entered next.Beside true)) = refl
idle_held (tried.Decided (decided.Entered next.Finish true)) = refl
idle_held (tried.Decided (decided.Entered (next.Claim u) false)) = refl
idle_held (tried.Decided (decided.Entered (next.Start t) false)) = refl
idle_held (tried.Decided (decided.Entered (next.Skip t) false)) = refl
idle_held (tried.Decided (decided.Entered next.Beside false)) = refl
idle_held (tried.Decided (decided.Entered next.Finish false)) = refl
idle_held (tried.Decided (decided.Answered (next.Claim u))) = refl
idle_held (tried.Decided (decided.Answered (next.Start t))) = refl
idle_held (tried.Decided (decided.Answered (next.Skip t))) = refl
idle_held (tried.Decided (decided.Answered next.Beside)) = refl
idle_held (tried.Decided (decided.Answered next.Finish)) = refl
idle_held (tried.Decided (decided.Waiting n)) = refl
idle_held tried.Unanswered = refl
idle_held tried.NoMemory = refl
idle_held tried.Again = refl

pub parked_held : (a : ℕ) (t : Tried ParkedWork) → tried_hold t ≡ had_hold (parked_next a t)
parked_held a (tried.Decided (decided.Entered (parked.Claim u) true)) = refl
parked_held a (tried.Decided (decided.Entered (parked.Resume failed) true)) = refl
parked_held a (tried.Decided (decided.Entered parked.Beside true)) = refl
parked_held a (tried.Decided (decided.Entered (parked.Claim u) false)) = refl
parked_held a (tried.Decided (decided.Entered (parked.Resume failed) false)) = refl
parked_held a (tried.Decided (decided.Entered parked.Beside false)) = refl
parked_held a (tried.Decided (decided.Answered n)) = refl
parked_held a (tried.Decided (decided.Waiting n)) = refl
parked_held a tried.Unanswered = refl
parked_held a tried.NoMemory = refl
parked_held a tried.Again = refl

pub moved_held : (t : Tried TaskMove) → tried_hold t ≡ had_hold (moved_next t)
moved_held (tried.Decided (decided.Entered (moves.Fetch u) true)) = refl
moved_held (tried.Decided (decided.Entered (moves.Submit a) true)) = refl
moved_held (tried.Decided (decided.Entered (moves.Park a) true)) = refl
moved_held (tried.Decided (decided.Entered moves.End true)) = refl
moved_held (tried.Decided (decided.Entered (moves.Fetch u) false)) = refl
moved_held (tried.Decided (decided.Entered (moves.Submit a) false)) = refl
moved_held (tried.Decided (decided.Entered (moves.Park a) false)) = refl
moved_held (tried.Decided (decided.Entered moves.End false)) = refl
moved_held (tried.Decided (decided.Answered n)) = refl
moved_held (tried.Decided (decided.Waiting n)) = refl
moved_held tried.Unanswered = refl
moved_held tried.NoMemory = refl
moved_held tried.Again = refl

-- behind a closing that stands
held_closing : (n : Next) → had_hold n ≡ true → true ≡ had_hold_closing (unless_stuck n)
held_closing (nexts.Do work) is = refl
held_closing nexts.GoesOn is = refl
held_closing nexts.Busy is = refl
held_closing nexts.Stopped is = absurd (false≢true is)
held_closing nexts.Again is = absurd (false≢true is)
held_closing nexts.NoMemory is = refl
held_closing nexts.Misused is = absurd (false≢true is)
held_closing nexts.Stuck is = refl

pub idle_behind_held : (b : Behind NextWork) → had_hold_behind b ≡ had_hold_closing (idle_then b)
idle_behind_held (behind.Decided d) = held_closing (idle_next (tried.Decided d)) (sym (idle_held (tried.Decided d)))
idle_behind_held behind.Alone = refl
idle_behind_held behind.NoMemory = refl
idle_behind_held behind.Retry = refl
idle_behind_held behind.Again = refl

pub parked_behind_held : (a : ℕ) (b : Behind ParkedWork) → had_hold_behind b ≡ had_hold_closing (parked_then a b)
parked_behind_held a (behind.Decided d) = held_closing (parked_next a (tried.Decided d)) (sym (parked_held a (tried.Decided d)))
parked_behind_held a behind.Alone = refl
parked_behind_held a behind.NoMemory = refl
parked_behind_held a behind.Retry = refl
parked_behind_held a behind.Again = refl

pub answer_held : (a : Answer) → ends_hold a ≡ had_hold_closing (next_of_answer a)
answer_held answers.Done = refl
answer_held answers.Busy = refl
answer_held answers.Stopped = refl
answer_held answers.Again = refl
answer_held answers.NoMemory = refl
answer_held answers.Misused = refl
answer_held answers.Stuck = refl

pub ran_held : (r : Ran) → had_hold_run r ≡ ends_hold (answer_of r)
ran_held ran.Finished = refl
ran_held ran.NoMemory = refl
ran_held ran.Retry = refl
ran_held ran.Again = refl

pub wakes_at : (b c : Bool) (s : Sight) (r : Rings) → b ≡ c → WakesBy b s r → WakesBy c s r
wakes_at b c s r same w = subst (λ (x : Bool). WakesBy x s r) same w

-- a turn that was had had a hold
pub tried_held : {A : Type 0} (c : Came (Decided A)) → true ≡ tried_hold (tried_of c)
tried_held (came.Done d) = refl
tried_held came.NoMemory = refl
tried_held came.Again = refl

pub behind_held : {A : Type 0} (c : Came (Followed A)) → NeverFailed c → true ≡ had_hold_behind (behind_of c)
behind_held (came.Done (followed.Decided d)) never = refl
behind_held (came.Done followed.Undecided) never = refl
behind_held (came.Done followed.NoMemory) never = refl
behind_held (came.Done followed.Failed) never = absurd (never refl)
behind_held came.NoMemory never = refl
behind_held came.Again never = refl

pub run_held : (c : Came Bool) → c ≢ came.Done false → true ≡ had_hold_run (ran_of c)
run_held (came.Done true) never = refl
run_held (came.Done false) never = absurd (never refl)
run_held came.NoMemory never = refl
run_held came.Again never = refl
