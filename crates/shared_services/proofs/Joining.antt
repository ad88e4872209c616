-- From what each worker of a run did to what all of them did.
use Rattle.std.proofs.Common.{◌≡◌, ◌≢◌, ◌<◌, ◌≤◌, ◌+◌, ℕ, zero, suc, ne_eqb, List, [], ◌∷◌, ◌++◌, length, get_or, drop, Some, refl, sym, ap, ◌∙◌, subst, arith}
use Rattle.std.specs.List.{AllByRecursion, flat_map}
use Rattle.std.proofs.Math.Seq.{drop-length}
use Rattle.lock_journal.specs.Names.{WorkerId, Entry, entry, Acquire, HandBack}
use Rattle.shared_services.specs.Takings.{taken}
use Rattle.shared_services.specs.Done.{AreApart, IsRunIn, faults_of, given_back}
use Rattle.shared_services.specs.OneByOne.{OneByOne}
use Rattle.shared_services.specs.Shares.{jobs_of, start_of}
use Rattle.shared_services.specs.declared.jobs.Job.{Job}
use Rattle.shared_services.specs.declared.jobs.JobDone.{JobDone}
use Rattle.shared_services.proofs.ManyJobs.{apart_both, both_of, each_of, faults_join, joined}
use Rattle.shared_services.proofs.Sharing.{from_worker, last_start}

-- the lists of all workers, one behind the other
abbrev pub joined_lists : List (List JobDone) → List JobDone
joined_lists lists = flat_map (λ list. list) lists

-- each of the lists of the workers from i on
abbrev pub EachFrom : (ℕ → List JobDone → Type 0) → ℕ → List (List JobDone) → Type 0
EachFrom P i [] = Unit {0}
EachFrom P i (l ∷ ls) = P i l × EachFrom P (i + 1) ls

pub each_from : (P : ℕ → List JobDone → Type 0) (i : ℕ) (lists : List (List JobDone)) → ((k : ℕ) → k < length lists → P (i + k) (get_or lists k [])) → EachFrom P i lists
each_from P i [] each = tt
each_from P i (l ∷ ls) each =
    let here : i + 0 ≡ i = omega arith in
    (subst (λ (n : ℕ). P n l) here (each 0 (omega arith)), each_from P (i + 1) ls (λ k low. let there : i + suc k ≡ (i + 1) + k = omega arith in subst (λ (n : ℕ). P n (get_or ls k [])) there (each (suc k) (omega (arith, low)))))

-- where each worker's list belongs to its jobs, all lists belong to all jobs
pub all_jobs : (R : Job → JobDone → Type 0) (jobs : List Job) (workers i : ℕ) (lists : List (List JobDone)) → 0 < workers → i + length lists ≡ workers
    → EachFrom (λ (k : ℕ) (l : List JobDone). OneByOne R (jobs_of workers jobs k) l) i lists → OneByOne R (drop (start_of (length jobs) workers i) jobs) (joined_lists lists)
all_jobs R jobs workers i [] some at_end each =
    let last : start_of (length jobs) workers i ≡ length jobs = ap (λ (k : ℕ). start_of (length jobs) workers k) (omega (arith, at_end)) ∙ last_start (length jobs) workers some in
    let none : drop (start_of (length jobs) workers i) jobs ≡ [] = ap (λ (k : ℕ). drop k jobs) last ∙ drop-length jobs in
    subst (λ (js : List Job). OneByOne R js []) (sym none) tt
all_jobs R jobs workers i (l ∷ ls) some more each =
    subst (λ (js : List Job). OneByOne R js (l ++ joined_lists ls)) (sym (from_worker jobs workers i some))
    (joined R (jobs_of workers jobs i) (drop (start_of (length jobs) workers (i + 1)) jobs) l (joined_lists ls) each.0 (all_jobs R jobs workers (i + 1) ls some (omega (arith, more)) each.1))

pub same_length : {X Y : Type 0} (R : X → Y → Type 0) (xs : List X) (ys : List Y) → OneByOne R xs ys → length ys ≡ length xs
same_length R [] [] all = refl
same_length R [] (y ∷ ys) all = absurd all
same_length R (x ∷ xs) [] all = absurd all
same_length R (x ∷ xs) (y ∷ ys) all = let rest = same_length R xs ys all.1 in omega (arith, rest)

-- what stands at the end of a list's front
at_end_of : (front later : List Entry) (e none : Entry) → get_or (front ++ (e ∷ later)) (length front) none ≡ e
at_end_of [] later e none = refl
at_end_of (x ∷ front) later e none = at_end_of front later e none

-- The entry of this number was found in the history.
pub record IsFound (maxima : List ℕ) (h : List Entry) (d : JobDone) : Type 0 where
  pub asked : List ℕ
  pub run : IsRunIn maxima asked h d.worker d.taken

-- an entry has one worker
one_worker : (maxima : List ℕ) (h : List Entry) (d e : JobDone) → IsFound maxima h d → IsFound maxima h e → d.taken ≡ e.taken → d.worker ≡ e.worker
one_worker maxima h d e found other same =
    let r = found.run in
    let s = other.run in
    let mine : Entry = entry d.worker Acquire (Some (taken r.locks)) in
    let its : Entry = entry e.worker Acquire (Some (taken s.locks)) in
    let place : length r.before ≡ length s.before = omega (arith, r.place, s.place, same) in
    let at_mine : get_or h (length r.before) mine ≡ mine = ap (λ (es : List Entry). get_or es (length r.before) mine) r.entries ∙ at_end_of r.before (r.between ++ (entry d.worker HandBack (Some (given_back r.locks)) ∷ r.later)) mine mine in
    let at_its : get_or h (length s.before) mine ≡ its = ap (λ (es : List Entry). get_or es (length s.before) mine) s.entries ∙ at_end_of s.before (s.between ++ (entry e.worker HandBack (Some (given_back s.locks)) ∷ s.later)) its mine in
    ap (λ (x : Entry). x.worker) (sym at_mine ∙ (ap (λ (k : ℕ). get_or h k mine) place ∙ at_its))

-- jobs of different workers have different entries
others_differ : (maxima : List ℕ) (h : List Entry) (i : ℕ) (d e : JobDone) → d.worker.0 ≡ i → i + 1 ≤ e.worker.0 → IsFound maxima h d → IsFound maxima h e → d.taken ≢ e.taken
others_differ maxima h i d e mine later found other same =
    let one : d.worker.0 ≡ e.worker.0 = ap (λ (w : WorkerId). w.0) (one_worker maxima h d e found other same) in omega (arith, mine, later, one)

-- A worker's list: all of it is the worker's, found in the history, with entries of their own.
pub record IsWorkersOwn (maxima : List ℕ) (h : List Entry) (i : ℕ) (l : List JobDone) : Type 0 where
  pub own : AllByRecursion (λ (d : JobDone). (d.worker.0 ≡ i) × IsFound maxima h d) l
  pub apart : AreApart l

-- The jobs of the workers from i on.
record AreFrom (maxima : List ℕ) (h : List Entry) (i : ℕ) (ds : List JobDone) : Type 0 where
  found : AllByRecursion (λ (d : JobDone). (i ≤ d.worker.0) × IsFound maxima h d) ds
  apart : AreApart ds

from_all : (maxima : List ℕ) (h : List Entry) (i : ℕ) (lists : List (List JobDone)) → EachFrom (IsWorkersOwn maxima h) i lists → AreFrom maxima h i (joined_lists lists)
from_all maxima h i [] each = record { found = tt; apart = tt }
from_all maxima h i (l ∷ ls) each =
    let rest = from_all maxima h (i + 1) ls each.1 in
    let own = each.0.own in
    record {
      found = both_of (λ (d : JobDone). (i ≤ d.worker.0) × IsFound maxima h d) l (joined_lists ls)
          (each_of (λ (d : JobDone). (d.worker.0 ≡ i) × IsFound maxima h d) (λ (d : JobDone). (i ≤ d.worker.0) × IsFound maxima h d) (λ d o. (omega (arith, o.0), o.1)) l own)
          (each_of (λ (d : JobDone). (i + 1 ≤ d.worker.0) × IsFound maxima h d) (λ (d : JobDone). (i ≤ d.worker.0) × IsFound maxima h d) (λ d o. (omega (arith, o.0), o.1)) (joined_lists ls) rest.found);
      apart = apart_both l (joined_lists ls) each.0.apart rest.apart
          (each_of (λ (d : JobDone). (d.worker.0 ≡ i) × IsFound maxima h d) (λ (d : JobDone). AllByRecursion (λ (e : JobDone). d.taken ≢ e.taken) (joined_lists ls))
          (λ d o. each_of (λ (e : JobDone). (i + 1 ≤ e.worker.0) × IsFound maxima h e) (λ (e : JobDone). d.taken ≢ e.taken) (λ e p. others_differ maxima h i d e o.0 p.0 o.1 p.1) (joined_lists ls) rest.found) l own);
    }

-- all entries that took uses are different ones
pub all_apart : (maxima : List ℕ) (h : List Entry) (i : ℕ) (lists : List (List JobDone)) → EachFrom (IsWorkersOwn maxima h) i lists → AreApart (joined_lists lists)
all_apart maxima h i lists each = (from_all maxima h i lists each).apart

-- jobs of others are none of the worker's faults
no_faults : (w : WorkerId) (ds : List JobDone) → AllByRecursion (λ (d : JobDone). d.worker.0 ≢ w.0) ds → faults_of w ds ≡ 0
no_faults w [] others = refl
no_faults w (d ∷ ds) others = rw (ne_eqb d.worker.0 w.0 others.0) (no_faults w ds others.1)

-- a worker's faults stand in its own list alone
pub faults_at : (maxima : List ℕ) (h : List Entry) (i k : ℕ) (w : WorkerId) (lists : List (List JobDone)) → EachFrom (IsWorkersOwn maxima h) i lists → k < length lists → w.0 ≡ i + k
    → faults_of w (joined_lists lists) ≡ faults_of w (get_or lists k [])
faults_at maxima h i k w [] each low is = absurd (omega (arith, low))
faults_at maxima h i zero w (l ∷ ls) each low is =
    let rest = from_all maxima h (i + 1) ls each.1 in
    let none : faults_of w (joined_lists ls) ≡ 0 =
    no_faults w (joined_lists ls) (each_of (λ (d : JobDone). (i + 1 ≤ d.worker.0) × IsFound maxima h d) (λ (d : JobDone). d.worker.0 ≢ w.0) (λ d o same. omega (arith, o.0, is, same)) (joined_lists ls) rest.found) in
    omega (arith, faults_join w l (joined_lists ls), none)
faults_at maxima h i (suc k) w (l ∷ ls) each low is =
    let none : faults_of w l ≡ 0 = no_faults w l (each_of (λ (d : JobDone). (d.worker.0 ≡ i) × IsFound maxima h d) (λ (d : JobDone). d.worker.0 ≢ w.0) (λ d o same. omega (arith, o.0, is, same)) l each.0.own) in
    omega (arith, faults_join w l (joined_lists ls), none, faults_at maxima h (i + 1) k w ls each.1 (omega (arith, low)) (omega (arith, is)))
