-- The plan of a document that nothing refuses is a plan.
use Rattle.std.specs.Prelude.{unwrap_or}
use Rattle.std.proofs.Common.{◌≡◌, ◌≢◌, ℕ, ◌+◌, ◌-◌, ◌<◌, ◌≤◌, Bool, true, false, ◌&&◌, if◌then◌else◌, codes, nat_lt, nat_le, is_some, List, [], ◌∷◌, map, take, length, get_or, Option, Some, None, refl, ap, sym, subst, ◌∙◌, arith, inl, inr, length-append}
use Rattle.std.specs.List.{All, AllPairs, list_any, list_all, flat_map, sum_by}
use Rattle.std.specs.Str.{bytes_eq}
use Rattle.std.proofs.lemmas.Bool.{true≢false, false≢true, false_from_ne_true, cases_Bool, and_parts, leb-true, ltb-false, not-false}
use Rattle.std.proofs.lemmas.Slice.Eq.{bytes_eq-Decides}
use Rattle.std.proofs.lemmas.List.{length-map, get_or-map, get_or-take, length-take-le}
use Rattle.std.proofs.lemmas.List.Elements.{All-map}
use Rattle.std.proofs.lemmas.List.Sums.{sum_by-cons, list_all-from_AllPass}
use Rattle.toml.specs.Data.{Data}
use Rattle.resource_lock.specs.declared.graphs.Retention.{Retention}
use Rattle.resource_lock.specs.declared.graphs.Retention.TheVariants.{Retain, Release, ReleaseAndReacquire}
use Rattle.resource_lock.specs.Words.{retention_word}
use Rattle.ready_work.specs.Rank.{Ranked}
use Rattle.plan_table.specs.declared.refusals.Part.{Part}
use Rattle.plan_table.specs.declared.refusals.Part.TheVariants.{Plan, Project, Task, Requirements}
use Rattle.plan_table.specs.declared.refusals.Which.{Which}
use Rattle.plan_table.specs.declared.refusals.Which.TheVariants as which
use Rattle.item_actions.specs.Forms.{is_file_name}
use Rattle.plan_table.specs.Forms.{Text, is_name}
use Rattle.plan_table.specs.Keys.{projects_of, tasks_of, requirements_of, name_of, after_of, actions_of, wait_of, items_of, fetch_of, heap_of, args_of, properties_of, variables_of}
use Rattle.plan_table.specs.Search.{places, table_refusal}
use Rattle.plan_table.specs.Formed.{IsFormedAction}
use Rattle.plan_table.proofs.lemmas.Lists.{map_of_map}
use Rattle.plan_table.proofs.lemmas.FormedLaws.{is_formed}
use Rattle.plan_reader.specs.declared.limits.TheConstants.{MAX_PROJECTS, MAX_TASKS, MAX_UNITS, MAX_REQUIREMENTS, MAX_ACTIONS_PER_TASK, MAX_AFTER, MAX_LISTED}
use Rattle.plan_reader.specs.declared.rows.Row.TheVariants.{NoSuchProject, ReleaseNotLast, ClassLoader, TooMany, BadRequirements}
use Rattle.plan_reader.specs.PlanView.{PlanActionView}
use Rattle.plan_reader.specs.Units.{fetch_units, item_unit, action_units, task_units, plan_units}
use Rattle.plan_reader.specs.IsPlan.{HasFewLists, HasFileNames, ReleasesLast, IsPlan}
use Rattle.plan_reader.specs.NameNumbers.{first_repeat, number_of}
use Rattle.plan_reader.specs.Names.{names_in, once, dependency_numbers}
use Rattle.plan_reader.specs.Rows.{releases, unit_count, task_unit_count, plan_unit_count, has_few_lists, excess_of_task, is_heap}
use Rattle.plan_reader.specs.Planned.{pair_of, requirements_from, all_requirements, work_of, retention_named, action_of, task_of, plan_of}
use Rattle.plan_reader.specs.Search.{row_refusal, twice_refusal, refusal_behind}
use Rattle.plan_reader.specs.Reading.{IsAccepted}
use Rattle.plan_reader.proofs.Quiet.{neither, row_quiet, unrepeated, once_named, none_passes}
use Rattle.plan_reader.proofs.Numbers.{number_within, some_name, numbers_within, length-once}

module _ (d : Data) (a : IsAccepted d) where
  tables : table_refusal d ≡ None
  tables = (neither (table_refusal d) _ a.before).0

  twice : twice_refusal d ≡ None
  twice = (neither (twice_refusal d) _ (neither (table_refusal d) _ a.before).1).0

  projects_there : row_refusal d NoSuchProject ≡ None
  projects_there = (neither (row_refusal d NoSuchProject) _ (neither (twice_refusal d) _ (neither (table_refusal d) _ a.before).1).1).0

  releases_last : row_refusal d ReleaseNotLast ≡ None
  releases_last = (neither (row_refusal d ReleaseNotLast) _ a.behind).0

  few : row_refusal d TooMany ≡ None
  few = (neither (row_refusal d TooMany) _ (neither (row_refusal d ClassLoader) _ (neither (row_refusal d ReleaseNotLast) _ a.behind).1).1).0

  heaps : row_refusal d BadRequirements ≡ None
  heaps = (neither (row_refusal d BadRequirements) _ (neither (row_refusal d TooMany) _ (neither (row_refusal d ClassLoader) _ (neither (row_refusal d ReleaseNotLast) _ a.behind).1).1).1).0

-- ---- limits

-- where no excess is found, the first of the limits isn't passed
within : (most n : ℕ) (w : Which) (rest : Option Which) → is_some (if nat_lt most n then Some w else rest) ≡ false → (n ≤ most) × (is_some rest ≡ false)
within most n w rest h =
    elim (cases_Bool (nat_lt most n)) [
      | inl more ↦ absurd (true≢false (rw more at h))
      | inr few ↦ (ltb-false most n few, rw few at h)
    ]

few_listed : (r : Data) → is_some (if has_few_lists r then None else Some which.Lists) ≡ false → has_few_lists r ≡ true
few_listed r h =
    elim (cases_Bool (has_few_lists r)) [
      | inl few ↦ few
      | inr more ↦ absurd (true≢false (rw more at h))
    ]

few_lists : (r : Data) → has_few_lists r ≡ true → HasFewLists (requirements_from r)
few_lists r h =
    let b = and_parts (nat_le (length (args_of r)) MAX_LISTED && nat_le (length (properties_of r)) MAX_LISTED) (nat_le (length (variables_of r)) MAX_LISTED) h in
    let c = and_parts (nat_le (length (args_of r)) MAX_LISTED) (nat_le (length (properties_of r)) MAX_LISTED) b.0 in
    record {
      args = leb-true _ MAX_LISTED c.0;
      properties = rw (length-map (properties_of r) pair_of) (leb-true _ MAX_LISTED c.1);
      variables = rw (length-map (variables_of r) pair_of) (leb-true _ MAX_LISTED b.1);
    }

tasks_few : (t : Data) → is_some (excess_of_task t) ≡ false → (length (actions_of t) ≤ MAX_ACTIONS_PER_TASK) × (length (after_of t) ≤ MAX_AFTER)
tasks_few t h =
    let p = within MAX_ACTIONS_PER_TASK (length (actions_of t)) which.Actions _ h in
    let q = within MAX_AFTER (length (after_of t)) which.After _ p.1 in
    (p.0, q.0)

few_numbers : (names ts : List Text) → length ts ≤ MAX_AFTER → length (once (map (number_of names) ts)) ≤ MAX_AFTER
few_numbers names ts few = omega (arith, few, length-once (map (number_of names) ts), length-map ts (number_of names))

-- ---- units

fetch_count : (fetch : Option Text) → length (fetch_units fetch) ≡ (if is_some fetch then 1 else 0)
fetch_count None = refl
fetch_count (Some file) = refl

same_sums : {X Y U : Type 0} (units : Y → List U) (count : X → ℕ) (make : X → Y) → ((x : X) → length (units (make x)) ≡ count x) → (xs : List X) → length (flat_map units (map make xs)) ≡ sum_by count xs
same_sums units count make each [] = refl
same_sums units count make each (x ∷ xs) = omega (arith, length-append (units (make x)) (flat_map units (map make xs)), each x, same_sums units count make each xs, sum_by-cons count x xs)

module _ (d : Data) where
  units_of_action : (x : Data) → length (action_units (action_of (names_in d) (all_requirements d) x)) ≡ unit_count x
  units_of_action x =
      let work = work_of (names_in d) (all_requirements d) in
      omega (arith, length-append (fetch_units (fetch_of x)) (map item_unit (map work (items_of x))), length-map (map work (items_of x)) item_unit, length-map (items_of x) work, fetch_count (fetch_of x))

  units_of_task : (t : Data) → length (task_units (task_of (names_in d) (all_requirements d) t)) ≡ task_unit_count t
  units_of_task t = same_sums action_units unit_count (action_of (names_in d) (all_requirements d)) units_of_action (actions_of t)

  pub units_of_plan : length (plan_units (plan_of d)) ≡ plan_unit_count d
  units_of_plan = same_sums task_units task_unit_count (task_of (names_in d) (all_requirements d)) units_of_task (tasks_of d)

-- ---- releases

is_release : Retention → Bool
is_release Release = true
is_release _ = false

keeps : (word : Text) → bytes_eq word (codes "release") ≡ false → retention_named word ≢ Release
unfolding is_release
keeps word other same = by (bytes_eq (retention_word Retain) word) (bytes_eq (retention_word ReleaseAndReacquire) word) (rw flipped at same)
  where
    flipped : bytes_eq (retention_word Release) word ≡ false
    flipped = false_from_ne_true _ (λ e. false≢true (sym other ∙ (bytes_eq-Decides word (codes "release")).1 (sym ((bytes_eq-Decides (retention_word Release) word).0 e))))

    by : (a b : Bool) → unwrap_or (if a then Some Retain else if b then Some ReleaseAndReacquire else None) ReleaseAndReacquire ≡ Release → ⊥
    by true b e = false≢true (ap is_release e)
    by false true e = false≢true (ap is_release e)
    by false false e = false≢true (ap is_release e)

last_releases : (make : Data → PlanActionView) → ((x : Data) → (make x).retention ≡ retention_named (wait_of x)) → (xs : List Data) → list_any releases (take (length xs - 1) xs) ≡ false → ReleasesLast (map make xs)
last_releases make waits [] none k e lt same = absurd (omega (arith, lt))
last_releases make waits (x ∷ xs) none k e lt same =
    let all = x ∷ xs in
    let long : k + 1 < length all = rw (length-map all make) at lt in
    let front : length (take (length all - 1) all) ≡ length all - 1 = length-take-le (length all - 1) all (omega arith) in
    let there : get_or (take (length all - 1) all) k x ≡ get_or all k x = get_or-take (length all - 1) all k x (omega (arith, long)) in
    let here : releases (get_or all k x) ≡ false = rw there at (none_passes releases (take (length all - 1) all) none k x (omega (arith, long, front))) in
    keeps (wait_of (get_or all k x)) here (sym (waits (get_or all k x)) ∙ ap (λ y. y.retention) (sym (get_or-map make all k x e (omega (arith, long)))) ∙ same)

-- ---- names

after_in : (d t : Data) → 0 < length (tasks_of d) → All (λ m. m < length (map (task_of (names_in d) (all_requirements d)) (tasks_of d))) (dependency_numbers (names_in d).tasks t)
after_in d t some =
    let make = task_of (names_in d) (all_requirements d) in
    let names = length-map (tasks_of d) name_of in
    subst (λ m. All (λ u. u < m) (dependency_numbers (names_in d).tasks t)) (names ∙ sym (length-map (tasks_of d) make)) (numbers_within (names_in d).tasks (after_of t) (rw names some))

files_named : (d x : Data) → IsFormedAction x → HasFileNames (action_of (names_in d) (all_requirements d) x)
files_named d x f = record {
  fetch = f.fetch;
  items = All-map (λ w. is_file_name w.file ≡ true) (work_of (names_in d) (all_requirements d)) (items_of x) f.files;
}

-- ---- the whole

pub heaps_fit : (d : Data) → refusal_behind d ≡ None → list_all (λ r. is_heap (heap_of r)) (requirements_of d) ≡ true
heaps_fit d behind =
    let quiet = row_quiet d BadRequirements (neither (row_refusal d BadRequirements) _ (neither (row_refusal d TooMany) _ (neither (row_refusal d ClassLoader) _ (neither (row_refusal d ReleaseNotLast) _ behind).1).1).1).0 Requirements in
    list_all-from_AllPass (λ r. is_heap (heap_of r)) (requirements_of d) (λ k e lt. not-false _ (quiet k e lt))

named_apart : {X : Type 0} (name : X → Text) (xs : List X) → AllPairs (λ m n. m ≢ n) (map name xs) → AllPairs (λ x y. name x ≢ name y) xs
named_apart name xs apart i j e lt long same =
    apart i j (name e) lt (rw (length-map xs name) long) (get_or-map name xs i e (name e) (omega arith) ∙ same ∙ sym (get_or-map name xs j e (name e) long))

pub is_plan : (d : Data) → IsAccepted d → IsPlan (plan_of d)
is_plan d a =
    let n = names_in d in
    let action = action_of n (all_requirements d) in
    let work = work_of n (all_requirements d) in
    let make = task_of n (all_requirements d) in
    let ts = tasks_of d in
    let limits = row_quiet d TooMany (few d a) in
    let p = within MAX_PROJECTS (length (projects_of d)) which.Projects _ (limits Plan 0 d (omega arith)) in
    let q = within MAX_TASKS (length ts) which.Tasks _ p.1 in
    let u = within MAX_UNITS (plan_unit_count d) which.Units _ q.1 in
    let r = within MAX_REQUIREMENTS (length (requirements_of d)) which.Requirements _ u.1 in
    let actions_few : All (λ t. (length (actions_of t) ≤ MAX_ACTIONS_PER_TASK) × (length (after_of t) ≤ MAX_AFTER)) ts = λ k e lt. tasks_few (get_or ts k e) (limits Task k e lt) in
    let formed = is_formed d (tables d a) in
    record {
      few_projects = rw (length-map (projects_of d) name_of) p.0;
      few_tasks = rw (length-map ts make) q.0;
      few_units = rw (units_of_plan d) u.0;
      few_requirements = rw (length-map (requirements_of d) requirements_from) r.0;
      few_actions = All-map (λ t. length t.actions ≤ MAX_ACTIONS_PER_TASK) make ts (λ k e lt. rw (length-map (actions_of (get_or ts k e)) action) (actions_few k e lt).0);
      few_after = All-map (λ t. length t.after ≤ MAX_AFTER) make ts (λ k e lt. few_numbers n.tasks (after_of (get_or ts k e)) (actions_few k e lt).1);
      few_lists = All-map HasFewLists requirements_from (requirements_of d) (λ k e lt. few_lists (get_or (requirements_of d) k e) (few_listed (get_or (requirements_of d) k e) (limits Requirements k e lt)));
      project_names = All-map (λ m. is_name m ≡ true) name_of (projects_of d) formed.projects;
      task_names = All-map (λ t. is_name t.name ≡ true) make ts formed.tasks;
      own_projects = once_named d (twice d a) Project;
      own_tasks = named_apart (λ t. t.name) (map make ts) (rw (map_of_map (λ t. t.name) make ts) (once_named d (twice d a) Task));
      project_within = All-map (λ t. t.project < length n.projects) make ts (λ k e lt. number_within n.projects _ (some_name n.projects _ (row_quiet d NoSuchProject (projects_there d a) Task k e lt)));
      after_within = All-map (λ t. All (λ m. m < length (map make ts)) t.after) make ts (λ k e lt. after_in d (get_or ts k e) (omega (arith, lt)));
      ranked = λ t lt. subst (λ g. Ranked g t) (sym (map_of_map (λ x. x.after) make ts)) (a.ranked t (rw (length-map ts (dependency_numbers n.tasks)) (rw (length-map ts make) at lt)));
      some_item = All-map (λ t. All (λ x. 0 < length x.items) t.actions) make ts (λ k e lt. All-map (λ x. 0 < length x.items) action (actions_of (get_or ts k e)) (λ m f short.
          rw (length-map (items_of (get_or (actions_of (get_or ts k e)) m f)) work) (formed.actions k e lt m f short).some_item));
      release_last = All-map (λ t. ReleasesLast t.actions) make ts (λ k e lt. last_releases action (λ x. refl) (actions_of (get_or ts k e)) (row_quiet d ReleaseNotLast (releases_last d a) Task k e lt));
      file_names = All-map (λ t. All HasFileNames t.actions) make ts (λ k e lt. All-map HasFileNames action (actions_of (get_or ts k e)) (λ m f short.
          files_named d (get_or (actions_of (get_or ts k e)) m f) (formed.actions k e lt m f short)));
    }

-- no name of a part stands twice
pub none_repeated : (d : Data) → IsAccepted d → (p : Part) → first_repeat (map name_of (places d p)) ≡ None
none_repeated d a p = unrepeated d (twice d a) p
