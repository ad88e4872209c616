-- A whole run, from what each of its workers did and the book that they left.
use Rattle.std.proofs.Common.{◌≡◌, ◌<◌, ◌≤◌, ◌+◌, ◌-◌, ◌*◌, ◌/◌, ◌^◌, ◌⊎◌, inl, inr, ℕ, suc, List, [], ◌∷◌, ◌++◌, length, get_or, map, drop, take, None, Option, refl, sym, ap, ◌∙◌, subst, arith}
use Rattle.std.specs.List.{All, AllByRecursion}
use Rattle.std.specs.Prelude.{sum_by}
use Rattle.std.proofs.Math.Nat.{zero-div, zero-mul}
use Rattle.std.proofs.lemmas.Bool.{cases_lt}
use Rattle.std.proofs.lemmas.List.{length-append, take-append-drop}
use Rattle.std.proofs.lemmas.List.Sums.{sum_by-cons}
use Rattle.item_actions.specs.Files.{Folder}
use Rattle.lock_journal.specs.Names.{IsAtRest, GraphView, made_of, WorkerId, Lawful, Entry, prefix_state, BookView}
use Rattle.resource_lock.proofs.lemmas.Undo.{owner_from}
use Rattle.lock_journal.proofs.lemmas.Growing.{lawful-front}
use Rattle.lock_journal.proofs.lemmas.Named.{named}
use Rattle.coordination.specs.Names.{Agrees, IsSoundBook, HoldsNothing, entry_count_of, PassView, workers_from}
use Rattle.coordination.specs.Together.{ComeTo, entries_of}
use Rattle.coordination.specs.declared.rule.Sight.{Sight}
use Rattle.coordination.proofs.lemmas.Numbered.{element, passes_count, worker_at}
use Rattle.shared_services.specs.Services.{first_lock, lock_count, maximum_of}
use Rattle.shared_services.proofs.lemmas.Owners.{few_of}
use Rattle.shared_services.specs.Done.{AreApart, IsHonestJob, IsRunIn, OwnsOneOfEach, faults_of}
use Rattle.shared_services.specs.OneByOne.{OneByOne}
use Rattle.shared_services.specs.Run.{IsRunOfJobs, KeepsMaxima}
use Rattle.shared_services.specs.Shares.{jobs_of, start_of}
use Rattle.shared_services.specs.Team.{HaveRun}
use Rattle.shared_services.specs.Worked.{AlwaysOneOfEach, HasRun}
use Rattle.shared_services.specs.declared.jobs.Job.{Job}
use Rattle.shared_services.specs.declared.jobs.JobDone.{JobDone}
use Rattle.shared_services.proofs.Joining.{EachFrom, IsFound, IsWorkersOwn, all_apart, all_jobs, each_from, faults_at, joined_lists, same_length}
use Rattle.shared_services.proofs.ManyJobs.{each_of, related, still_run}
use Rattle.shared_services.proofs.Prefixes.{always_others}

both : {X : Type 0} (P Q : X → Type 0) (xs : List X) → AllByRecursion P xs → AllByRecursion Q xs → AllByRecursion (λ x. P x × Q x) xs
both P Q [] all more = tt
both P Q (x ∷ xs) all more = ((all.0, more.0), both P Q xs all.1 more.1)

with_each : {X Y : Type 0} (R S : X → Y → Type 0) (Q : Y → Type 0) → ((x : X) (y : Y) → R x y → Q y → S x y) → (xs : List X) (ys : List Y) → OneByOne R xs ys → AllByRecursion Q ys → OneByOne S xs ys
with_each R S Q f [] [] all each = tt
with_each R S Q f [] (y ∷ ys) all each = absurd all
with_each R S Q f (x ∷ xs) [] all each = absurd all
with_each R S Q f (x ∷ xs) (y ∷ ys) all each = (f x y all.0 each.0, with_each R S Q f xs ys all.1 each.1)

-- whatever was run was found in the history
all_found : (maxima : List ℕ) (h : List Entry) (jobs : List Job) (ran : List JobDone) → OneByOne (λ (j : Job) (d : JobDone). IsRunIn maxima j.uses.items h d.worker d.taken) jobs ran → AllByRecursion (IsFound maxima h) ran
all_found maxima h [] [] all = tt
all_found maxima h [] (d ∷ ran) all = absurd all
all_found maxima h (j ∷ jobs) [] all = absurd all
all_found maxima h (j ∷ jobs) (d ∷ ran) all = (record { asked = j.uses.items; run = all.0 }, all_found maxima h jobs ran all.1)

-- where each worker has two entries for each of its jobs, all have two for each job
entries_sum : (ps : List PassView) (lists : List (List JobDone)) → length lists ≡ length ps → ((i : ℕ) (p : PassView) → i < length ps → entries_of (get_or ps i p) ≡ 2 * length (get_or lists i []))
    → sum_by entries_of ps ≡ 2 * length (joined_lists lists)
entries_sum [] [] long each = refl
entries_sum [] (l ∷ ls) long each = absurd (omega (arith, long))
entries_sum (p ∷ ps) [] long each = absurd (omega (arith, long))
entries_sum (p ∷ ps) (l ∷ ls) long each =
    let here : entries_of p ≡ 2 * length l = each 0 p (omega arith) in
    let rest : sum_by entries_of ps ≡ 2 * length (joined_lists ls) = entries_sum ps ls (omega (arith, long)) (λ i q low. each (suc i) q (omega (arith, low))) in
    let sum : sum_by entries_of (p ∷ ps) ≡ entries_of p + sum_by entries_of ps = sum_by-cons entries_of p ps in
    let long : length (joined_lists (l ∷ ls)) ≡ length l + length (joined_lists ls) = length-append l (joined_lists ls) in
    omega (arith, here, rest, sum, long)

module _ {D : Type 0} (maxima : List ℕ) (files : D → Option Folder) (faults : D → ℕ) (jobs : List Job) (n most : ℕ) (old new : List PassView) (before after : List D) (ran : List JobDone) (book : BookView)
    (some : 0 < n) (desks : length before ≡ n) (passes : length old ≡ n) (numbers : map (λ (p : PassView). p.sight.worker.0) new ≡ workers_from 0 n) (fresh : All (λ (p : PassView). p.sight.seen.history ≡ []) old)
    (graph : book.graph ≡ made_of (lock_count maxima) None n most [] []) (agrees : All (λ (p : PassView). Agrees p.sight.worker p.sight.seen book) new) (sound : IsSoundBook book)
    (r : HaveRun maxima files faults (jobs_of n jobs) old new before after ran) where
  many : length new ≡ n
  many = passes_count new n numbers

  pass : (i : ℕ) → i < n → PassView
  pass i low = element new i (omega (arith, many, low))

  desk : (i : ℕ) → i < n → D
  desk i low = element before i (omega (arith, desks, low))

  of_worker : (i : ℕ) (p : PassView) → i < n → (get_or new i p).sight.worker ≡ record { 0 = i }
  of_worker i p low = worker_at new n i p numbers low

  agree : (i : ℕ) (p : PassView) → i < n → Agrees (get_or new i p).sight.worker (get_or new i p).sight.seen book
  agree i p low = agrees i p (omega (arith, many, low))

  did : (i : ℕ) (p : PassView) (d : D) → i < n
      → HasRun maxima (files (get_or before i d)) (faults (get_or before i d)) (faults (get_or after i d)) (get_or old i p).sight (jobs_of n jobs i) (get_or new i p).sight (get_or r.lists i [])
  did i p d low = r.each i p d (omega (arith, passes, low))

  -- what a worker found in its own history stands in the book
  in_book : (i : ℕ) → i < n → OneByOne (λ (j : Job) (d : JobDone). IsRunIn maxima j.uses.items book.history d.worker d.taken) (jobs_of n jobs i) (get_or r.lists i [])
  in_book i low =
      let p = pass i low in
      let a = agree i p low in
      let h : List Entry = (get_or new i (pass i low)).sight.seen.history in
      related (λ (j : Job) (d : JobDone). IsRunIn maxima j.uses.items h d.worker d.taken) (λ (j : Job) (d : JobDone). IsRunIn maxima j.uses.items book.history d.worker d.taken)
      (λ j d. still_run maxima j.uses.items h a.between book.history d.worker d.taken a.history) (jobs_of n jobs i) (get_or r.lists i []) (did i p (desk i low) low).done

  own_of : (i : ℕ) → i < n → AllByRecursion (λ (d : JobDone). d.worker.0 ≡ i) (get_or r.lists i [])
  own_of i low =
      let p = pass i low in
      let w : WorkerId = (get_or new i (pass i low)).sight.worker in
      let h : List Entry = (get_or new i (pass i low)).sight.seen.history in
      each_of (λ (d : JobDone). (d.worker ≡ w) × (d.taken ≤ length h)) (λ (d : JobDone). d.worker.0 ≡ i) (λ d o. ap (λ (v : WorkerId). v.0) (o.0 ∙ of_worker i p low)) (get_or r.lists i []) (did i p (desk i low) low).own

  workers_own : (i : ℕ) → i < n → IsWorkersOwn maxima book.history i (get_or r.lists i [])
  workers_own i low = record {
    own = both (λ (d : JobDone). d.worker.0 ≡ i) (IsFound maxima book.history) (get_or r.lists i []) (own_of i low) (all_found maxima book.history (jobs_of n jobs i) (get_or r.lists i []) (in_book i low));
    apart = (did i (pass i low) (desk i low) low).apart;
  }

  -- whatever holds of each worker's list
  of_lists : (P : ℕ → List JobDone → Type 0) → ((i : ℕ) → i < n → P i (get_or r.lists i [])) → EachFrom P 0 r.lists
  of_lists P each = each_from P 0 r.lists (λ k low. let l : k < n = omega (arith, low, r.count, passes) in let here : k ≡ 0 + k = omega arith in subst (λ (m : ℕ). P m (get_or r.lists k [])) here (each k l))

  from_first : drop (start_of (length jobs) n 0) jobs ≡ jobs
  from_first = ap (λ (k : ℕ). drop k jobs) (ap (λ (k : ℕ). k / n) (zero-mul (length jobs)) ∙ zero-div n)

  of_all : (R : Job → JobDone → Type 0) → ((i : ℕ) → i < n → OneByOne R (jobs_of n jobs i) (get_or r.lists i [])) → OneByOne R jobs ran
  of_all R each =
      subst (λ (js : List Job). OneByOne R js ran) from_first
      (subst (λ (ds : List JobDone). OneByOne R (drop (start_of (length jobs) n 0) jobs) ds) (sym r.joined)
      (all_jobs R jobs n 0 r.lists some (omega (arith, r.count, passes)) (of_lists (λ (k : ℕ) (l : List JobDone). OneByOne R (jobs_of n jobs k) l) each)))

  all_done : OneByOne (λ (j : Job) (d : JobDone). (d.worker.0 < n) × IsRunIn maxima j.uses.items book.history d.worker d.taken) jobs ran
  all_done = of_all (λ (j : Job) (d : JobDone). (d.worker.0 < n) × IsRunIn maxima j.uses.items book.history d.worker d.taken)
      (λ i low. with_each (λ (j : Job) (d : JobDone). IsRunIn maxima j.uses.items book.history d.worker d.taken) (λ (j : Job) (d : JobDone). (d.worker.0 < n) × IsRunIn maxima j.uses.items book.history d.worker d.taken)
      (λ (d : JobDone). d.worker.0 ≡ i) (λ j d run is. (omega (arith, is, low), run)) (jobs_of n jobs i) (get_or r.lists i []) (in_book i low) (own_of i low))

  pub all_honest : (d : D) → OneByOne (λ (j : Job) (e : JobDone). IsHonestJob (files (get_or before e.worker.0 d)) j e) jobs ran
  all_honest d = of_all (λ (j : Job) (e : JobDone). IsHonestJob (files (get_or before e.worker.0 d)) j e)
      (λ i low. with_each (IsHonestJob (files (get_or before i d))) (λ (j : Job) (e : JobDone). IsHonestJob (files (get_or before e.worker.0 d)) j e)
      (λ (e : JobDone). e.worker.0 ≡ i) (λ j e honest is. subst (λ (k : ℕ). IsHonestJob (files (get_or before k d)) j e) (sym is) honest) (jobs_of n jobs i) (get_or r.lists i []) (did i (pass i low) d low).honest (own_of i low))

  pub all_faults : (i : ℕ) (d : D) → i < n → faults (get_or after i d) < 2 ^ 64 - 1 → faults_of (record { 0 = i }) ran + faults (get_or before i d) ≤ faults (get_or after i d)
  all_faults i d low few =
      let w : WorkerId = record { 0 = i } in
      let p = pass i low in
      let its = subst (λ (v : WorkerId). faults_of v (get_or r.lists i []) + faults (get_or before i d) ≤ faults (get_or after i d)) (of_worker i p low) ((did i p d low).faults few) in
      let all : faults_of w (joined_lists r.lists) ≡ faults_of w (get_or r.lists i []) =
      faults_at maxima book.history 0 i w r.lists (of_lists (IsWorkersOwn maxima book.history) workers_own) (omega (arith, low, r.count, passes)) (omega arith) in
      let is : faults_of w ran ≡ faults_of w (joined_lists r.lists) = ap (λ (ds : List JobDone). faults_of w ds) r.joined in
      omega (arith, its, all, is)

  nobody_else : (m : ℕ) (w : WorkerId) → n ≤ w.0 → OwnsOneOfEach maxima (prefix_state book.graph book.history m) w
  nobody_else m w high =
      let lawful : Lawful book.graph (take m book.history) = lawful-front book.graph (take m book.history) (drop m book.history) (subst (Lawful book.graph) (sym (take-append-drop m book.history)) sound.lawful) in
      let names = named book.graph (take m book.history) lawful in
      let size : book.graph.workers ≡ n = ap (λ (g : GraphView). g.workers) graph in
      λ service k l of_k of_l own_k own_l. let low = names.owners k w (owner_from _ w own_k) in absurd (omega (arith, low, size, high))

  pub kept : (m : ℕ) → KeepsMaxima maxima (prefix_state book.graph book.history m)
  kept m = record {
    one_each = λ w. at w (cases_lt w.0 n);
    few = λ service. few_of (prefix_state book.graph book.history m).owners (first_lock maxima service) (maximum_of maxima service);
  }
    where
      at : (w : WorkerId) → (w.0 < n) ⊎ (n ≤ w.0) → OwnsOneOfEach maxima (prefix_state book.graph book.history m) w
      at w (inr high) = nobody_else m w high
      at w (inl low) =
          let p = pass w.0 low in
          let s : Sight = (get_or new w.0 (pass w.0 low)).sight in
          let a = agree w.0 p low in
          let is : s.worker ≡ w = of_worker w.0 p low in
          let always : AlwaysOneOfEach maxima s.seen.graph s.seen.history s.worker = (did w.0 p (desk w.0 low) low).always in
          let lawful : Lawful s.seen.graph (s.seen.history ++ a.between) = subst (λ (h : List Entry). Lawful s.seen.graph h) a.history (subst (λ (g : GraphView). Lawful g book.history) a.graph sound.lawful) in
          let there : AlwaysOneOfEach maxima s.seen.graph (s.seen.history ++ a.between) s.worker = always_others maxima s.seen.graph s.seen.history a.between s.worker lawful a.others always in
          subst (λ (v : WorkerId). OwnsOneOfEach maxima (prefix_state book.graph book.history m) v) is
          (subst (λ (g : GraphView). OwnsOneOfEach maxima (prefix_state g book.history m) s.worker) (sym a.graph)
          (subst (λ (h : List Entry). OwnsOneOfEach maxima (prefix_state s.seen.graph h m) s.worker) (sym a.history) (there m)))

  two_each : (i : ℕ) (p : PassView) → i < length new → entries_of (get_or new i p) ≡ 2 * length (get_or r.lists i [])
  two_each i p low =
      let l : i < n = omega (arith, low, many) in
      let none : (get_or old i p).sight.seen.history ≡ [] = fresh i p (omega (arith, l, passes)) in
      let at_first : entry_count_of (get_or old i p).sight.worker (get_or old i p).sight.seen.history ≡ 0 = ap (λ (h : List Entry). entry_count_of (get_or old i p).sight.worker h) none in
      omega (arith, (did i p (desk i l) l).entries, at_first)

  pub whole : (All (λ (p : PassView). HoldsNothing p.sight) new → IsAtRest book.state) → ComeTo new book → IsRunOfJobs maxima n most jobs book ran
  whole rest together = record {
    graph = graph;
    lawful = sound.lawful;
    replays = sound.replays;
    kept = kept;
    done = all_done;
    apart = subst AreApart (sym r.joined) (all_apart maxima book.history 0 r.lists (of_lists (IsWorkersOwn maxima book.history) workers_own));
    entries =
        let sum : sum_by entries_of new ≡ 2 * length (joined_lists r.lists) = entries_sum new r.lists (omega (arith, many, r.count, passes)) two_each in
        let long : length ran ≡ length (joined_lists r.lists) = ap (λ (ds : List JobDone). length ds) r.joined in
        omega (arith, together.entries, sum, long, same_length _ jobs ran all_done);
    rest = rest (λ i p low. let l : i < n = omega (arith, low, many) in (did i p (desk i l) l).rests);
  }
