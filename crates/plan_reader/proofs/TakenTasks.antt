-- Tables that are taken beside their rows.
use Rattle.std.proofs.Common.{◌≡◌, ◌⊎◌, ℕ, List, [], ◌∷◌, drop, get_or, length, map, Vec, Global, refl, ap, sym, ◌∙◌, inl, inr, arith}
use Rattle.std.specs.List.{zip}
use Rattle.std.specs.Vec.Iter.{into_iter_items, into_iter_len}
use Rattle.std.specs.declared.vec.IntoIter.{IntoIter}
use Rattle.plan_document.specs.declared.values.Value.{Value}
use Rattle.toml.specs.Data.{Data}
use Rattle.plan_document.specs.View.{view}
use Rattle.daemon_requirements.specs.RequirementsView.{RequirementsView}
use Rattle.ready_work.specs.Rank.{lists_of}
use Rattle.plan_table.specs.Forms.{Text}
use Rattle.plan_table.specs.Keys.{tasks_of}
use Rattle.plan_reader.specs.Names.{NameLists, names_in, dependency_numbers, dependencies_of}
use Rattle.plan_reader.specs.PlanView.{PlanTaskView}
use Rattle.plan_reader.specs.Planned.{all_requirements, task_of, plan_of}
use Rattle.plan_reader.specs.Taken.{named, task_after}
use Rattle.plan_reader.proofs.Loops.{ended}

-- ---- up to the end of either

zip_nothing : {X Y : Type 0} (xs : List X) → zip {X = Y} xs [] ≡ []
zip_nothing [] = refl
zip_nothing (x ∷ xs) = refl

pub zip_ended : {X Y Z : Type 0} (s : IntoIter X Z) (t : IntoIter Y Z) → ((u : IntoIter X Z) × ((into_iter_len s ≡ 0) × (into_iter_len u ≡ 0))) ⊎ ((u : IntoIter Y Z) × ((into_iter_len t ≡ 0) × (into_iter_len u ≡ 0)))
    → zip (into_iter_items s) (into_iter_items t) ≡ []
zip_ended s t (inl (u, (none, _))) = rw (ended s none)
zip_ended s t (inr (u, (none, _))) = rw (ended t none) (zip_nothing (into_iter_items s))

pub zip_step : {X Y : Type 0} (xs xs' : List X) (ys ys' : List Y) (x : X) (y : Y) → xs ≡ x ∷ xs' → ys ≡ y ∷ ys' → zip xs ys ≡ (x, y) ∷ zip xs' ys'
zip_step xs xs' ys ys' x y a b = ap (λ l. zip l ys) a ∙ ap (zip (x ∷ xs')) b

-- ---- the tasks

-- where each row has the numbers of the tasks that its table names
pub tasks_of_rows : (names : NameLists) (profiles : List RequirementsView) (vs : List Value) (rows : List (Vec ℕ Global)) → lists_of rows ≡ map (dependency_numbers names.tasks) (map view vs)
    → map (λ p. task_after (named names.projects names.requirements) profiles (view p.0) p.1.items) (zip vs rows) ≡ map (task_of names profiles) (map view vs)
tasks_of_rows names profiles [] rows e = refl
tasks_of_rows names profiles (v ∷ vs) [] e = absurd (omega (arith, ap length e))
tasks_of_rows names profiles (v ∷ vs) (r ∷ rows) e =
    let here : r.items ≡ dependency_numbers names.tasks (view v) = ap (λ ns. get_or ns 0 r.items) e in
    let more : lists_of rows ≡ map (dependency_numbers names.tasks) (map view vs) = ap (drop 1) e in
    let rest = map (λ p. task_after (named names.projects names.requirements) profiles (view p.0) p.1.items) (zip vs rows) in
    ap (λ after. task_after (named names.projects names.requirements) profiles (view v) after ∷ rest) here
    ∙ ap (λ ts. task_of names profiles (view v) ∷ ts) (tasks_of_rows names profiles vs rows more)

-- the parts make the plan. The tasks are made with what is shown of the other parts
pub plan_taken : (d : Data) (projects names : List Text) (profiles : List RequirementsView) (shown_projects shown_names : List Text) (shown_profiles : List RequirementsView)
    (vs : List Value) (rows : List (Vec ℕ Global)) (tasks : List PlanTaskView)
    → shown_projects ≡ projects → shown_names ≡ names → shown_profiles ≡ profiles
    → projects ≡ (names_in d).projects → names ≡ (names_in d).requirements → profiles ≡ all_requirements d → map view vs ≡ tasks_of d → lists_of rows ≡ dependencies_of d
    → tasks ≡ map (λ p. task_after (named shown_projects shown_names) shown_profiles (view p.0) p.1.items) (zip vs rows)
    → record { projects = projects; tasks = tasks; requirements = profiles } ≡ plan_of d
plan_taken d projects names profiles shown_projects shown_names shown_profiles vs rows tasks a b c in_order by_name by_number tables dependencies made =
    let own = names_in d in
    let all : tasks ≡ (plan_of d).tasks =
    made
    ∙ rw (a, b, c, in_order, by_name, by_number) (tasks_of_rows own (all_requirements d) vs rows (dependencies ∙ ap (map (dependency_numbers own.tasks)) (sym tables)))
    ∙ ap (map (task_of own (all_requirements d))) tables
    in
    λ i. record { projects = in_order i; tasks = all i; requirements = by_number i }
