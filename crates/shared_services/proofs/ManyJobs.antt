-- What a worker has done after each of its jobs.
use Rattle.std.proofs.Common.{◌≡◌, ◌≢◌, ◌<◌, ◌≤◌, ◌+◌, ◌-◌, ◌^◌, ℕ, Bool, true, false, cond, ◌&&◌, List, [], ◌∷◌, ◌++◌, length, get_or, min, take, eqb, Option, Some, refl, sym, ap, ◌∙◌, subst, arith}
use Rattle.std.specs.List.{AllByRecursion}
use Rattle.std.proofs.lemmas.List.{append_assoc, length-append, take_more}
use Rattle.item_actions.specs.Files.{Folder}
use Rattle.item_actions.specs.Value.{is_fault}
use Rattle.item_actions.specs.declared.outcomes.Outcome.{Outcome}
use Rattle.item_actions.specs.declared.outcomes.Outcome.TheVariants.{Digest, Fault, NoMemory, NotThere, Number, Skipped, TooLong}
use Rattle.file_access.specs.SinkView.{Rises}
use Rattle.lock_journal.specs.Names.{WorkerId, Entry, entry, Acquire, HandBack}
use Rattle.coordination.specs.declared.rule.Sight.{Sight}
use Rattle.shared_services.specs.Services.{AreServices}
use Rattle.shared_services.specs.Takings.{taken}
use Rattle.shared_services.specs.Done.{AreApart, IsHonestJob, IsRunIn, faults_of, given_back}
use Rattle.shared_services.specs.OneByOne.{OneByOne}
use Rattle.shared_services.specs.Worked.{CanRun, HasRun, HasRunJob}
use Rattle.shared_services.specs.declared.jobs.Job.{Job}
use Rattle.shared_services.specs.declared.jobs.JobDone.{JobDone}
use Rattle.shared_services.proofs.OneJob.{IsOneMore, one_more}

pub related : {X Y : Type 0} (R S : X → Y → Type 0) → ((x : X) (y : Y) → R x y → S x y) → (xs : List X) (ys : List Y) → OneByOne R xs ys → OneByOne S xs ys
related R S f [] [] all = tt
related R S f [] (y ∷ ys) all = absurd all
related R S f (x ∷ xs) [] all = absurd all
related R S f (x ∷ xs) (y ∷ ys) all = (f x y all.0, related R S f xs ys all.1)

pub joined : {X Y : Type 0} (R : X → Y → Type 0) (xs us : List X) (ys vs : List Y) → OneByOne R xs ys → OneByOne R us vs → OneByOne R (xs ++ us) (ys ++ vs)
joined R [] us [] vs all more = more
joined R [] us (y ∷ ys) vs all more = absurd all
joined R (x ∷ xs) us [] vs all more = absurd all
joined R (x ∷ xs) us (y ∷ ys) vs all more = (all.0, joined R xs us ys vs all.1 more)

pub each_of : {X : Type 0} (P Q : X → Type 0) → ((x : X) → P x → Q x) → (xs : List X) → AllByRecursion P xs → AllByRecursion Q xs
each_of P Q f [] all = tt
each_of P Q f (x ∷ xs) all = (f x all.0, each_of P Q f xs all.1)

pub both_of : {X : Type 0} (P : X → Type 0) (xs ys : List X) → AllByRecursion P xs → AllByRecursion P ys → AllByRecursion P (xs ++ ys)
both_of P [] ys all more = more
both_of P (x ∷ xs) ys all more = (all.0, both_of P xs ys all.1 more)

-- two lists without a common number are apart together
pub apart_both : (ds es : List JobDone) → AreApart ds → AreApart es → AllByRecursion (λ (d : JobDone). AllByRecursion (λ (e : JobDone). d.taken ≢ e.taken) es) ds → AreApart (ds ++ es)
apart_both [] es apart more other = more
apart_both (d ∷ ds) es apart more other = (both_of (λ (e : JobDone). d.taken ≢ e.taken) ds es apart.0 other.0, apart_both ds es apart.1 more other.1)

-- a run of a job stays one in a longer history
pub still_run : (maxima asked : List ℕ) (h more longer : List Entry) (w : WorkerId) (n : ℕ) → longer ≡ h ++ more → IsRunIn maxima asked h w n → IsRunIn maxima asked longer w n
still_run maxima asked h more longer w n grew r =
    let e : Entry = entry w Acquire (Some (taken r.locks)) in
    let f : Entry = entry w HandBack (Some (given_back r.locks)) in
    record {
      locks = r.locks;
      before = r.before;
      between = r.between;
      later = r.later ++ more;
      one_each = r.one_each;
      entries = grew ∙ (ap (λ (es : List Entry). es ++ more) r.entries
          ∙ (append_assoc r.before (entry w Acquire (Some (taken r.locks)) ∷ (r.between ++ (entry w HandBack (Some (given_back r.locks)) ∷ r.later))) more
          ∙ ap (λ (es : List Entry). r.before ++ (entry w Acquire (Some (taken r.locks)) ∷ es)) (append_assoc r.between (entry w HandBack (Some (given_back r.locks)) ∷ r.later) more)));
      place = r.place;
      others = r.others;
    }

none_run : (maxima : List ℕ) (known : Option Folder) (n : ℕ) (old : Sight) → CanRun maxima old → HasRun maxima known n n old [] old []
none_run maxima known n old can = record {
  worker = refl;
  graph = refl;
  rests = can.rests;
  sound = can.sound;
  always = can.always;
  done = tt;
  honest = tt;
  own = tt;
  apart = tt;
  entries = omega arith;
  count = omega arith;
  faults = λ low. omega arith;
}

pub first_run : (maxima : List ℕ) (known : Option Folder) (n : ℕ) (old : Sight) (jobs : List Job) (ran : List JobDone) → jobs ≡ [] → ran ≡ [] → CanRun maxima old → HasRun maxima known n n old jobs old ran
first_run maxima known n old jobs ran no_jobs none can = rw (no_jobs, none) (none_run maxima known n old can)

fault_is : (o : Outcome) → is_fault o ≡ true → o ≡ Fault
fault_is Fault is = refl
fault_is (Number n) is = absurd (cc)
fault_is (Digest d) is = absurd (cc)
fault_is NotThere is = absurd (cc)
fault_is TooLong is = absurd (cc)
fault_is NoMemory is = absurd (cc)
fault_is Skipped is = absurd (cc)

-- the count of faults after one job more
counted : (own fault : Bool) (n m before mid after : ℕ) → m ≡ n + cond (own && fault) 1 0 → (fault ≡ true → min (mid + 1) (2 ^ 64 - 1) ≤ after) → mid ≤ after → after < 2 ^ 64 - 1 → n + before ≤ mid → m + before ≤ after
counted own true n m before mid after is rises kept low was = let up = rises refl in at own is
  where
    at : (b : Bool) → m ≡ n + cond (b && true) 1 0 → m + before ≤ after
    at true e = let up : min (mid + 1) (2 ^ 64 - 1) ≤ after = rises refl in omega (arith, e, up, low, was)
    at false e = omega (arith, e, kept, was)
counted true false n m before mid after is rises kept low was = omega (arith, is, kept, was)
counted false false n m before mid after is rises kept low was = omega (arith, is, kept, was)

pub faults_join : (w : WorkerId) (ds es : List JobDone) → faults_of w (ds ++ es) ≡ faults_of w ds + faults_of w es
faults_join w [] es = omega arith
faults_join w (d ∷ ds) es = at (eqb d.worker.0 w.0 && is_fault d.outcome) (faults_join w ds es)
  where
    at : (b : Bool) → faults_of w (ds ++ es) ≡ faults_of w ds + faults_of w es
        → cond b (faults_of w (ds ++ es) + 1) (faults_of w (ds ++ es)) ≡ cond b (faults_of w ds + 1) (faults_of w ds) + faults_of w es
    at true rest = omega (arith, rest)
    at false rest = omega (arith, rest)

faults_more : (w : WorkerId) (ds : List JobDone) (d : JobDone) → faults_of w (ds ++ d ∷ []) ≡ faults_of w ds + cond (eqb d.worker.0 w.0 && is_fault d.outcome) 1 0
faults_more w ds d = faults_join w ds (d ∷ []) ∙ ap (λ (n : ℕ). faults_of w ds + n) (at (eqb d.worker.0 w.0 && is_fault d.outcome))
  where
    at : (b : Bool) → cond b (0 + 1) 0 ≡ cond b 1 0
    at true = refl
    at false = refl

pub one_job_more : (maxima : List ℕ) (known known' : Option Folder) (before mid after : ℕ) {old meanwhile new : Sight} (jobs : List Job) (job : Job) (i : ℕ) (none : Job) (ran : List JobDone) (d : JobDone)
    → i < length jobs → get_or jobs i none ≡ job → AreServices maxima job.uses.items → known' ≡ known
    → HasRun maxima known before mid old (take i jobs) meanwhile ran → HasRunJob maxima job.uses.items meanwhile new d
    → IsHonestJob known' job d → mid ≤ after → (d.outcome ≡ Fault → Rises mid after)
    → HasRun maxima known before after old (take (i + 1) jobs) new (ran ++ d ∷ [])
one_job_more maxima known known' before mid after {old} {meanwhile} {new} jobs job i none ran d low is are same r one honest kept fault =
    let more = one_more maxima job.uses.items are r.rests one in
    let jobs_are : take (i + 1) jobs ≡ take i jobs ++ job ∷ [] = take_more jobs i none low ∙ ap (λ (j : Job). take i jobs ++ j ∷ []) is in
    let worker_is : new.worker ≡ meanwhile.worker = more.worker in
    subst (λ (js : List Job). HasRun maxima known before after old js new (ran ++ d ∷ [])) (sym jobs_are) record {
      worker = more.worker ∙ r.worker;
      graph = more.graph ∙ r.graph;
      rests = more.rests;
      sound = more.sound;
      always = more.always r.always;
      done = joined (λ (j : Job) (e : JobDone). IsRunIn maxima j.uses.items new.seen.history e.worker e.taken) (take i jobs) (job ∷ []) ran (d ∷ [])
          (related (λ (j : Job) (e : JobDone). IsRunIn maxima j.uses.items meanwhile.seen.history e.worker e.taken) (λ (j : Job) (e : JobDone). IsRunIn maxima j.uses.items new.seen.history e.worker e.taken) (λ j e. still_run maxima j.uses.items meanwhile.seen.history more.more new.seen.history e.worker e.taken more.grew) (take i jobs) ran r.done) (more.run, tt);
      honest = joined (IsHonestJob known) (take i jobs) (job ∷ []) ran (d ∷ []) r.honest (subst (λ (k : Option Folder). IsHonestJob k job d) same honest, tt);
      own = both_of (λ (e : JobDone). (e.worker ≡ new.worker) × (e.taken ≤ length new.seen.history)) ran (d ∷ [])
          (each_of (λ (e : JobDone). (e.worker ≡ meanwhile.worker) × (e.taken ≤ length meanwhile.seen.history)) (λ (e : JobDone). (e.worker ≡ new.worker) × (e.taken ≤ length new.seen.history)) (λ e o. (o.0 ∙ sym more.worker, upto e o.1)) ran r.own) ((more.own, more.within), tt);
      apart = apart_both ran (d ∷ []) r.apart (tt, tt) (each_of (λ (e : JobDone). (e.worker ≡ meanwhile.worker) × (e.taken ≤ length meanwhile.seen.history)) (λ (e : JobDone). AllByRecursion (λ (o : JobDone). e.taken ≢ o.taken) (d ∷ [])) (λ e o. (before_it e o.1, tt)) ran r.own);
      entries = omega (arith, r.entries, more.two, length-append ran (d ∷ []));
      count = omega (arith, r.count, kept);
      faults = λ low_after. counted (eqb d.worker.0 new.worker.0) (is_fault d.outcome) (faults_of new.worker ran) (faults_of new.worker (ran ++ d ∷ [])) before mid after (faults_more new.worker ran d)
          (λ f. fault (fault_is d.outcome f)) kept low_after (subst (λ (w : WorkerId). faults_of w ran + before ≤ mid) (sym more.worker) (r.faults (omega (arith, low_after, kept))));
    }
  where
    grown : IsOneMore maxima job.uses.items meanwhile new d → length meanwhile.seen.history ≤ length new.seen.history
    grown more = let long : length new.seen.history ≡ length meanwhile.seen.history + length more.more = ap (λ (h : List Entry). length h) more.grew ∙ length-append meanwhile.seen.history more.more in omega (arith, long)

    upto : (e : JobDone) → e.taken ≤ length meanwhile.seen.history → e.taken ≤ length new.seen.history
    upto e within = let g = grown (one_more maxima job.uses.items are r.rests one) in omega (arith, g, within)

    before_it : (e : JobDone) → e.taken ≤ length meanwhile.seen.history → e.taken ≢ d.taken
    before_it e within same_number = let later = (one_more maxima job.uses.items are r.rests one).later in omega (arith, later, within, same_number)
