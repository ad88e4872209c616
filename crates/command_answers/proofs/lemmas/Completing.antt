-- A call that met no fault has succeeded, unless there was no memory.
use Rattle.std.proofs.Common.{◌≡◌, ℕ, ◌+◌, ◌<◌, ◌≤◌, ◌⊎◌, Bool, true, false, cond, inl, inr, List, [], ◌∷◌, Option, None, Some, Result, Ok, Err, refl, sym, ◌∙◌, ap, subst, arith}
use Rattle.std.specs.Prelude.{nat_lt, sum_by, unwrap_or, ◌-◌, ◌^◌}
use borrow.Author.Tests.{ltb-false}
use Rattle.std.specs.List.{All, AllByRecursion}
use Rattle.std.proofs.lemmas.Bool.{cases_lt, ne_eqb}
use Rattle.std.proofs.lemmas.List.Elements.{All-head, All-tail}
use Rattle.std.proofs.lemmas.List.Sums.{sum_by-cons}
use Rattle.item_actions.specs.Files.{Folder}
use Rattle.item_actions.specs.Value.{IsHonest, is_fault, value_on}
use Rattle.item_actions.specs.declared.outcomes.Outcome.{Outcome}
use Rattle.lock_journal.specs.Names.{WorkerId, BookView, Entry, closed_by, faults_in}
use Rattle.file_access.specs.Calls.{next}
use Rattle.file_access.specs.SinkView.{SinkView, Rises}
use Rattle.plan_reader.specs.PlanView.{PlanView}
use Rattle.build_workers.specs.Desks.{DeskView}
use Rattle.build_workers.specs.Run.{IsRunOf}
use Rattle.build_workers.proofs.lemmas.KnownFiles.{known_first}
use Rattle.build_workers.specs.declared.options.RunOptions.{RunOptions}
use Rattle.command_words.specs.Reading.{IsBounded}
use Rattle.command_words.specs.declared.commands.Command.{Command}
use Rattle.command_words.specs.declared.commands.Command.TheVariants.{Run, Worker, Check, Again, Make}
use Rattle.command_words.specs.declared.commands.RunWords.{RunWords}
use Rattle.command_words.specs.declared.commands.MakeWords.{MakeWords}
use Rattle.history_check.specs.Checking.{HasChecked}
use Rattle.history_check.specs.declared.checks.Checked.{Checked}
use Rattle.history_check.specs.declared.checks.Checked.TheVariants as checked
use Rattle.history_check.specs.declared.fails.CheckFail.{CheckFail}
use Rattle.history_check.specs.declared.fails.CheckFail.TheVariants as fails
use Rattle.history_check.specs.Driving.{HasDriven, IsAgainCounted}
use Rattle.history_check.specs.declared.again.Again.{Again as Came}
use Rattle.history_check.specs.declared.again.Again.TheVariants as again
use Rattle.daemon_desk.specs.Answer.{Answer, replies, IsHonestAnswer}
use Rattle.daemon_desk.specs.Serving.{Outside, IsEnd}
use Rattle.daemon_desk.specs.declared.served_stream.Served.{Served}
use Rattle.daemon_desk.specs.declared.served_stream.Served.TheVariants as ends
use Rattle.command_answers.specs.Around.{Call, at_first_desk, desks_used}
use Rattle.command_answers.specs.Answered.{Answered, EndedWith, IsNamedRun, RunEnded, all_pass, known_files, values_or_closings}
use Rattle.command_answers.specs.Causes.{IsFileOf, IsFileCause}
use Rattle.command_answers.specs.Complete.{MetNoFault, MetNoFaults, HasNoFault, HasPlan, HasSucceeded, HasValue, IsByFrames, HasWorkedWell, HasVerdict, HasComeAgain, Succeeds, IsComplete, status_by}
use Rattle.command_answers.specs.Worker.{HasWorked}
use Rattle.command_answers.specs.Check.{HasCheckedHistory, IsFoundTold}
use Rattle.command_answers.specs.Again.{AnyRead, HasDrivenHistory, IsAgainTold}
use Rattle.command_answers.specs.Told.{IsRefusedFor}
use Rattle.command_answers.specs.Make.{HasMade, MakeAnswered}
use Rattle.command_answers.proofs.Readings.{FirstCycleOnce, one_file, no_refusal}
use Rattle.command_answers.specs.declared.status.Status.{Status}
use Rattle.command_answers.specs.declared.status.Status.TheVariants.{Passed, TaskFailed, BadWords, BadPlan, NoPlan, PlanFault, SinkFault, BadFrame, SourceFault, NotLawful, Differs, FileFault, NoMemory}

some_is : {X : Type 0} {x y : X} → Some x ≡ Some y → x ≡ y
some_is {x = x} e = ap (λ o. unwrap_or o x) e

not_risen : (before after : ℕ) → MetNoFault before after → Rises before after → ⊥
not_risen before after calm rises = let same = calm.same in let below = calm.below in omega arith

-- ---- a plan that is read

module _ (once : FirstCycleOnce) (name : List ℕ) (files : Folder) (plan : PlanView) (has : HasPlan name files plan) where
  same_plan : (found : PlanView) → IsFileOf (Some files) name found → found ≡ plan
  same_plan found named =
      let bytes = some_is (sym named.1 ∙ has.file) in
      one_file once has.bytes plan found has.reading (rw bytes at named.2)

  no_cause : (before after : ℕ) (refusal : Status) → MetNoFault before after → IsFileCause (Some files) before after name refusal → ⊥
  no_cause before after (BadPlan refusal) calm c =
      let bytes = some_is (sym c.1 ∙ has.file) in
      no_refusal once has.bytes plan refusal has.reading (rw bytes at c.2)
  no_cause before after NoPlan calm c = let none = sym c ∙ has.file in cc none
  no_cause before after PlanFault calm c = not_risen before after calm c
  no_cause before after BadWords calm c = c
  no_cause before after Passed calm c = c
  no_cause before after TaskFailed calm c = c
  no_cause before after SinkFault calm c = c
  no_cause before after (BadFrame place) calm c = c
  no_cause before after SourceFault calm c = c
  no_cause before after (NotLawful n) calm c = c
  no_cause before after (Differs n) calm c = c
  no_cause before after (FileFault u) calm c = c
  no_cause before after NoMemory calm c = c

-- ---- a run

-- what only others made closes nothing of a worker's
closed_by_none : (w : WorkerId) (n : ℕ) (h : List Entry) → All (λ e. e.worker.0 < n) h → n ≤ w.0 → closed_by w h ≡ []
closed_by_none w n [] others past = refl
closed_by_none w n (e ∷ h) others past =
    let other = All-head (λ (x : Entry). x.worker.0 < n) e h others in
    rw (ne_eqb e.worker.0 w.0 (λ same. omega (arith, same, other, past))) (closed_by_none w n h (All-tail (λ (x : Entry). x.worker.0 < n) e h others) past)

no_fault : (plan : PlanView) (options : RunOptions) (before after : ℕ → DeskView) (b : BookView) → IsRunOf plan options before after b → MetNoFaults options.workers before after → HasNoFault b
no_fault plan options before after b run calm = λ w. elim (cases_lt w.0 options.workers) [
  | inl within ↦
      let same = (calm w.0 within).same in
      let below = (calm w.0 within).below in
      let faults = run.faults w.0 within (omega arith) in
      omega (arith, faults, same)
  | inr past ↦ ap faults_in (closed_by_none w options.workers b.history run.workers past)
]

module _ (once : FirstCycleOnce) (asked : RunWords) (files : Folder) (plan : PlanView) (has : HasPlan asked.plan files plan) where
  module _ (c : Call) (known : known_files asked c ≡ Some files) (some : 1 ≤ asked.threads) (calm : MetNoFaults asked.threads c.before.desks c.after.desks) (quiet : MetNoFault c.before.sink.faults c.after.sink.faults) where
    first : (c.before.desks 0).files ≡ Some files
    first = known_first asked.threads c.before.desks files known

    ran : (found : PlanView) (b : BookView) (passed : Bool) → IsNamedRun asked c found b → all_pass found b.graph (values_or_closings found (known_files asked c) b.history) ≡ passed → HasNoFault b × (status_by passed ≡ status_by (all_pass plan b.graph (values_or_closings plan (Some files) b.history)))
    ran found b passed run pass = (
      no_fault found _ c.before.desks c.after.desks b run.run calm,
      ap status_by
          (sym pass ∙ (ap (λ (o : Option Folder). all_pass found b.graph (values_or_closings found o b.history)) known
          ∙ ap (λ p. all_pass p b.graph (values_or_closings p (Some files) b.history)) (same_plan once asked.plan files plan has found (subst (λ (o : Option Folder). IsFileOf o asked.plan found) first run.named)))),
    )

    run_ended : (b : BookView) (status : Status) → RunEnded asked c b status → HasSucceeded plan files status (Some b)
    run_ended b Passed a = ran a.0 b true a.1 a.2.0
    run_ended b TaskFailed a = ran a.0 b false a.1 a.2.0
    run_ended b SinkFault a = absurd (not_risen c.before.sink.faults c.after.sink.faults quiet a.2.faults)
    run_ended b BadWords a = absurd a
    run_ended b (BadPlan refusal) a = absurd a
    run_ended b NoPlan a = absurd a
    run_ended b PlanFault a = absurd a
    run_ended b (BadFrame place) a = absurd a
    run_ended b SourceFault a = absurd a
    run_ended b (NotLawful n) a = absurd a
    run_ended b (Differs n) a = absurd a
    run_ended b (FileFault u) a = absurd a
    run_ended b NoMemory a = absurd a

    none_ended : (status : Status) → IsRefusedFor (IsFileCause (c.before.desks 0).files (c.before.desks 0).faults (c.after.desks 0).faults asked.plan) c.before.sink c.after.sink status → HasSucceeded plan files status None
    none_ended status (inl lacking) = lacking.0
    none_ended status (inr refused) =
        absurd (no_cause once asked.plan files plan has (c.before.desks 0).faults (c.after.desks 0).faults refused.0 (calm 0 (omega (arith, some))) (subst (λ (o : Option Folder). IsFileCause o (c.before.desks 0).faults (c.after.desks 0).faults asked.plan refused.0) first refused.1))

    run_succeeds : (book : Option BookView) → EndedWith asked c book → HasSucceeded plan files c.status book
    run_succeeds (Some b) a = run_ended b c.status a
    run_succeeds None a = none_ended c.status a.refused

-- ---- a worker

abbrev fault_count : Outcome → ℕ
fault_count o = cond (is_fault o) 1 0

valued : (files : Folder) (a : Answer) → IsHonest a.outcome (value_on files a.request.action a.request.file) → fault_count a.outcome ≡ 0 → HasValue files a
valued files a (inl value) none = inl value
valued files a (inr (inl fault)) none = absurd (let one = subst (λ (o : Outcome). fault_count o ≡ 0) fault none in cc one)
valued files a (inr (inr memory)) none = inr memory

all_valued : (files : Folder) (answers : List Answer) → AllByRecursion (IsHonestAnswer (Some files)) answers → sum_by (λ (x : Answer). fault_count x.outcome) answers ≡ 0 → AllByRecursion (HasValue files) answers
all_valued files [] honest none = tt
all_valued files (a ∷ answers) honest none =
    let both : fault_count a.outcome + sum_by (λ (x : Answer). fault_count x.outcome) answers ≡ 0 = sym (sum_by-cons (λ (x : Answer). fault_count x.outcome) a answers) ∙ none in
    (valued files a honest.0.honest (omega arith), all_valued files answers honest.1 (omega arith))

by_frames : (old new : Outside) (came rest text : List ℕ) (end : Served) → MetNoFault old.source.faults new.source.faults → MetNoFault old.sink.faults new.sink.faults → IsEnd old new came rest text end → IsByFrames end
by_frames old new came rest text ends.Done source sink e = tt
by_frames old new came rest text (ends.BadFrame place) source sink e = tt
by_frames old new came rest text ends.NoMemory source sink e = tt
by_frames old new came rest text ends.SourceFault source sink e = not_risen old.source.faults new.source.faults source e.1
by_frames old new came rest text ends.SinkFault source sink e = not_risen old.sink.faults new.sink.faults sink e.1.faults

worker_succeeds : (files : Folder) (old new : Outside) (status : Status) → old.files ≡ Some files → MetNoFault old.faults new.faults → MetNoFault old.sink.faults new.sink.faults → MetNoFault old.source.faults new.source.faults → HasWorked old new status → HasWorkedWell files old new status
worker_succeeds files old new status known calm quiet source w =
    let same = calm.same in
    let below = calm.below in
    let served = w.1 in
    let faults = served.answered.faults (omega arith) in (
      w.0,
      record {
        served = served;
        values = all_valued files served.answers (subst (λ (o : Option Folder). AllByRecursion (IsHonestAnswer o) served.answers) known served.answered.honest) (omega arith);
        by_frames = by_frames old new served.came served.rest (replies served.answers) w.0 source quiet served.end;
      },
      w.2,
    )

-- ---- a plan that is made

made_whole : (asked : MakeWords) (old new : SinkView) (status : Status) → MetNoFault old.faults new.faults → HasMade asked.seed asked.file old new status → status ≡ Passed
made_whole asked old new Passed quiet m = refl
made_whole asked old new SinkFault quiet m = absurd (not_risen old.faults new.faults quiet m.faults)
made_whole asked old new TaskFailed quiet m = absurd m
made_whole asked old new BadWords quiet m = absurd m
made_whole asked old new (BadPlan refusal) quiet m = absurd m
made_whole asked old new NoPlan quiet m = absurd m
made_whole asked old new PlanFault quiet m = absurd m
made_whole asked old new (BadFrame place) quiet m = absurd m
made_whole asked old new SourceFault quiet m = absurd m
made_whole asked old new (NotLawful n) quiet m = absurd m
made_whole asked old new (Differs n) quiet m = absurd m
made_whole asked old new (FileFault u) quiet m = absurd m
made_whole asked old new NoMemory quiet m = absurd m

make_succeeds : (asked : MakeWords) (old new : SinkView) (status : Status) → MetNoFault old.faults new.faults → MakeAnswered asked old new status → (status ≡ Passed) ⊎ (status ≡ NoMemory)
make_succeeds asked old new status quiet (inl lacking) = inr lacking.0
make_succeeds asked old new status quiet (inr made) = inl (made_whole asked old new status quiet made)

-- ---- a check

-- what was found of a source that didn't fail is an answer, which was told by a sink that didn't
verdict_told : (plan : PlanView) (old new : Outside) (found : Result Checked CheckFail) (status : Status) → MetNoFault old.source.faults new.source.faults → MetNoFault old.sink.faults new.sink.faults → HasChecked plan old.source new.source found → IsFoundTold found old.sink new.sink status
    → HasVerdict plan old.source new.source status
verdict_told plan old new (Ok (checked.Lawful n)) status source quiet h (inl told) = inl (checked.Lawful n, h, told.0)
verdict_told plan old new (Ok (checked.Lawful n)) status source quiet h (inr broke) = absurd (not_risen old.sink.faults new.sink.faults quiet broke.1.faults)
verdict_told plan old new (Ok (checked.NotLawful n)) status source quiet h (inl told) = inl (checked.NotLawful n, h, told.0)
verdict_told plan old new (Ok (checked.NotLawful n)) status source quiet h (inr broke) = absurd (not_risen old.sink.faults new.sink.faults quiet broke.1.faults)
verdict_told plan old new (Err fails.SourceFault) status source quiet h told = absurd (not_risen old.source.faults new.source.faults source h.3)
verdict_told plan old new (Err fails.NoMemory) status source quiet h told = inr told.0

check_succeeds : (once : FirstCycleOnce) (name : List ℕ) (files : Folder) (plan : PlanView) (old new : Outside) (status : Status) → HasPlan name files plan → old.files ≡ Some files → MetNoFault old.faults new.faults → MetNoFault old.sink.faults new.sink.faults
    → MetNoFault old.source.faults new.source.faults → HasCheckedHistory name old new status → HasVerdict plan old.source new.source status
check_succeeds once name files plan old new status has known calm quiet source (inl not) =
    elim not.refused [
      | inl lacking ↦ inr lacking.0
      | inr refused ↦ absurd (no_cause once name files plan has old.faults new.faults refused.0 calm (subst (λ (o : Option Folder). IsFileCause o old.faults new.faults name refused.0) known refused.1))
    ]
check_succeeds once name files plan old new status has known calm quiet source (inr c) =
    let same = same_plan once name files plan has c.plan (subst (λ (o : Option Folder). IsFileOf o name c.plan) known c.named) in
    subst (λ (p : PlanView). HasVerdict p old.source new.source status) same (verdict_told c.plan old new c.found status source quiet c.checked c.told)

-- ---- a recorded run

-- a read that failed is counted
no_read_fault : (old read_at new : ℕ) → MetNoFault old new → old ≤ read_at → new ≡ next read_at → ⊥
no_read_fault old read_at new calm kept rose = by (nat_lt read_at (2 ^ 64 - 1)) refl
  where
    by : (b : Bool) → nat_lt read_at (2 ^ 64 - 1) ≡ b → ⊥
    by true is = let same = calm.same in let up : new ≡ read_at + 1 = rose ∙ ap (λ c. cond c (read_at + 1) read_at) is in omega (arith, same, kept, up)
    by false is = let same = calm.same in let below = calm.below in let there : new ≡ read_at = rose ∙ ap (λ c. cond c (read_at + 1) read_at) is in let high : 2 ^ 64 - 1 ≤ read_at = ltb-false read_at (2 ^ 64 - 1) is in omega (arith, same, below, there, high)

again_told : (plan : PlanView) (files : Folder) (old new : Outside) (read_at : ℕ) (found : Result Came CheckFail) (status : Status) → MetNoFault old.faults new.faults → MetNoFault old.source.faults new.source.faults → MetNoFault old.sink.faults new.sink.faults
    → old.faults ≤ read_at → IsAgainCounted read_at new.faults found → HasDriven plan old.source new.source (Some files) AnyRead found → IsAgainTold found old.sink new.sink status → HasComeAgain plan files old.source new.source status
again_told plan files old new read_at (Ok (again.Same b)) status calm source quiet kept counted h (inl told) = inl (again.Same b, h, told.0)
again_told plan files old new read_at (Ok (again.Same b)) status calm source quiet kept counted h (inr broke) = absurd (not_risen old.sink.faults new.sink.faults quiet broke.1.faults)
again_told plan files old new read_at (Ok (again.NotLawful n)) status calm source quiet kept counted h (inl told) = inl (again.NotLawful n, h, told.0)
again_told plan files old new read_at (Ok (again.NotLawful n)) status calm source quiet kept counted h (inr broke) = absurd (not_risen old.sink.faults new.sink.faults quiet broke.1.faults)
again_told plan files old new read_at (Ok (again.Differs n o)) status calm source quiet kept counted h (inl told) = inl (again.Differs n o, h, told.0)
again_told plan files old new read_at (Ok (again.Differs n o)) status calm source quiet kept counted h (inr broke) = absurd (not_risen old.sink.faults new.sink.faults quiet broke.1.faults)
again_told plan files old new read_at (Ok (again.ReadFault u)) status calm source quiet kept counted h told = absurd (no_read_fault old.faults read_at new.faults calm kept counted)
again_told plan files old new read_at (Err fails.SourceFault) status calm source quiet kept counted h told = absurd (not_risen old.source.faults new.source.faults source h.0.3)
again_told plan files old new read_at (Err fails.NoMemory) status calm source quiet kept counted h told = inr told.0

again_succeeds : (once : FirstCycleOnce) (name : List ℕ) (files : Folder) (plan : PlanView) (old new : Outside) (status : Status) → HasPlan name files plan → old.files ≡ Some files → MetNoFault old.faults new.faults → MetNoFault old.sink.faults new.sink.faults
    → MetNoFault old.source.faults new.source.faults → HasDrivenHistory name old new status → HasComeAgain plan files old.source new.source status
again_succeeds once name files plan old new status has known calm quiet source (inl not) =
    elim not.refused [
      | inl lacking ↦ inr lacking.0
      | inr refused ↦ absurd (no_cause once name files plan has old.faults new.faults refused.0 calm (subst (λ (o : Option Folder). IsFileCause o old.faults new.faults name refused.0) known refused.1))
    ]
again_succeeds once name files plan old new status has known calm quiet source (inr c) =
    let same = same_plan once name files plan has c.plan (subst (λ (o : Option Folder). IsFileOf o name c.plan) known c.named) in
    let driven = subst (λ (o : Option Folder). HasDriven c.plan old.source new.source o AnyRead c.found) known c.driven in
    subst (λ (p : PlanView). HasComeAgain p files old.source new.source status) same (again_told c.plan files old new c.read_at c.found status calm source quiet c.kept c.counted driven c.told)

-- ---- the call

succeeds : (once : FirstCycleOnce) (command : Command) (c : Call) → IsBounded command → MetNoFaults (desks_used (Some command)) c.before.desks c.after.desks → MetNoFault c.before.sink.faults c.after.sink.faults → Answered (Some command) c → Succeeds (Some command) c
succeeds once (Run asked) c bounded calm quiet a = λ files known plan has. run_succeeds once asked files plan has c known bounded.some_thread calm quiet c.book a
succeeds once Worker c bounded calm quiet a = λ files known source.
    worker_succeeds files (at_first_desk c.before) (at_first_desk c.after) c.status known (calm 0 (omega arith)) quiet source a.1
succeeds once (Check name) c bounded calm quiet a = λ files known source plan has.
    check_succeeds once name files plan (at_first_desk c.before) (at_first_desk c.after) c.status has known (calm 0 (omega arith)) quiet source a.1
succeeds once (Again name) c bounded calm quiet a = λ files known source plan has.
    again_succeeds once name files plan (at_first_desk c.before) (at_first_desk c.after) c.status has known (calm 0 (omega arith)) quiet source a.1
succeeds once (Make asked) c bounded calm quiet a = make_succeeds asked c.before.sink c.after.sink c.status quiet a.1

-- a command was carried out
pub carried_out : (once : FirstCycleOnce) (command : Command) (words : Option Command) (c : Call) → words ≡ Some command → IsBounded command → Answered (Some command) c → IsComplete words c
carried_out once command words c is bounded a =
    subst (λ (k : Option Command). IsComplete k c) (sym is) (λ calm quiet. succeeds once command c bounded calm quiet a)

-- words that are no command are owed nothing
pub no_command_complete : (words : Option Command) (c : Call) → words ≡ None → IsComplete words c
no_command_complete words c is = subst (λ (k : Option Command). IsComplete k c) (sym is) (λ calm quiet. tt)

at_no_memory : (words : Option Command) (c : Call) → c.book ≡ None → c.status ≡ NoMemory → Answered words c → MetNoFaults (desks_used words) c.before.desks c.after.desks → MetNoFault c.before.sink.faults c.after.sink.faults → Succeeds words c
at_no_memory None c without is a calm quiet = tt
at_no_memory (Some (Run asked)) c without is a calm quiet = λ files known plan has. subst (HasSucceeded plan files c.status) (sym without) is
at_no_memory (Some Worker) c without is a calm quiet = λ files known source.
    worker_succeeds files (at_first_desk c.before) (at_first_desk c.after) c.status known (calm 0 (omega arith)) quiet source a.1
at_no_memory (Some (Check name)) c without is a calm quiet = λ files known source plan has. inr is
at_no_memory (Some (Again name)) c without is a calm quiet = λ files known source plan has. inr is
at_no_memory (Some (Make asked)) c without is a calm quiet = inr is

-- there was no memory to read the words
pub no_memory_complete : (words : Option Command) (c : Call) → c.book ≡ None → c.status ≡ NoMemory → Answered words c → IsComplete words c
no_memory_complete words c without is a = λ calm quiet. at_no_memory words c without is a calm quiet
