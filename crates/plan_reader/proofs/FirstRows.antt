-- The first place of a row, and the first limit that is passed there.
use Rattle.std.proofs.Common.{◌≡◌, ℕ, zero, suc, ◌<◌, Bool, true, false, not, if◌then◌else◌, nat_lt, is_some, unwrap_or, length, get_or, List, [], ◌∷◌, Option, Some, None, refl, ap, sym, subst, ◌∙◌}
use Rattle.std.specs.List.{slice_get}
use Rattle.std.specs.Option.{option_or, option_map_or}
use Rattle.std.proofs.lemmas.Bool.{true≢false, false≢true}
use Rattle.std.proofs.lemmas.Option.{none-some, same_Some}
use Rattle.toml.specs.Data.{Data}
use Rattle.plan_table.specs.declared.refusals.Part.{Part}
use Rattle.plan_table.specs.declared.refusals.Part.TheVariants.{Plan, Project, Task, Requirements}
use Rattle.plan_table.specs.declared.refusals.Place.{Place}
use Rattle.plan_table.specs.declared.refusals.Which.{Which}
use Rattle.plan_table.specs.declared.refusals.Which.TheVariants as which
use Rattle.plan_table.specs.declared.refusals.PlanRefusal.{PlanRefusal}
use Rattle.plan_table.specs.First.{which_number, holds_on, FirstAt}
use Rattle.plan_table.specs.Keys.{projects_of, tasks_of, requirements_of, actions_of, after_of}
use Rattle.plan_table.specs.Search.{first_of, places, first_place}
use Rattle.plan_table.proofs.lemmas.FirstAnswers.{option_map_none, option_map_some, first_of_none, first_of_some}
use Rattle.plan_table.proofs.lemmas.FirstPlaces.{no_place, place_first}
use Rattle.plan_reader.specs.declared.limits.TheConstants.{MAX_PROJECTS, MAX_TASKS, MAX_UNITS, MAX_REQUIREMENTS, MAX_ACTIONS_PER_TASK, MAX_AFTER}
use Rattle.plan_reader.specs.declared.rows.Row.{Row}
use Rattle.plan_reader.specs.declared.rows.Row.TheVariants.{TooMany}
use Rattle.plan_reader.specs.First.{row_holds, passes_limit}
use Rattle.plan_reader.specs.Names.{names_in}
use Rattle.plan_reader.specs.Rows.{plan_unit_count, has_few_lists, excess, holds}
use Rattle.plan_reader.specs.Search.{refusal_of, table_at, row_refusal}

abbrev pub RowHolds : Data → Row → Place → Type 0
RowHolds d r p = row_holds d r p ≡ true

pub row_nowhere : (d : Data) (r : Row) → row_refusal d r ≡ None → (p : Place) → RowHolds d r p → ⊥
row_nowhere d r none = no_place (holds (names_in d) r) d (option_map_none _ _ none)

pub row_first : (d : Data) (r : Row) (x : PlanRefusal) → row_refusal d r ≡ Some x → (p : Place) × (refusal_of r (table_at d p) p ≡ x) × FirstAt (RowHolds d r) p
row_first d r x e =
    let (p, found, made) = option_map_some (λ q. refusal_of r (table_at d q) q) (first_place (holds (names_in d) r) d) x e in
    (p, made, place_first (holds (names_in d) r) d p found)

-- ---- limits

abbrev limits : List Which
limits = which.Projects ∷ which.Tasks ∷ which.Units ∷ which.Requirements ∷ which.Actions ∷ which.After ∷ which.Lists ∷ []

limit_at : (w : Which) → slice_get limits (which_number w) ≡ Some w
limit_at which.Projects = refl
limit_at which.Tasks = refl
limit_at which.Units = refl
limit_at which.Requirements = refl
limit_at which.Actions = refl
limit_at which.After = refl
limit_at which.Lists = refl

number_of_limit : (k : ℕ) (w : Which) → slice_get limits k ≡ Some w → which_number w ≡ k
number_of_limit zero w at = ap which_number (sym (same_Some which.Projects w at))
number_of_limit (suc zero) w at = ap which_number (sym (same_Some which.Tasks w at))
number_of_limit (suc (suc zero)) w at = ap which_number (sym (same_Some which.Units w at))
number_of_limit (suc (suc (suc zero))) w at = ap which_number (sym (same_Some which.Requirements w at))
number_of_limit (suc (suc (suc (suc zero)))) w at = ap which_number (sym (same_Some which.Actions w at))
number_of_limit (suc (suc (suc (suc (suc zero))))) w at = ap which_number (sym (same_Some which.After w at))
number_of_limit (suc (suc (suc (suc (suc (suc zero)))))) w at = ap which_number (sym (same_Some which.Lists w at))
number_of_limit (suc (suc (suc (suc (suc (suc (suc k))))))) w at = absurd (none-some w at)

abbrev where_passed : Bool → Which → Option Which
where_passed b w = if b then Some w else None

passed : (b : Bool) (w v : Which) → where_passed b w ≡ Some v → (b ≡ true) × (w ≡ v)
passed true w v e = (refl, same_Some w v e)
passed false w v e = absurd (none-some v e)

kept : (b : Bool) (w : Which) → where_passed b w ≡ None → b ≡ false
kept true w e = absurd (none-some w (sym e))
kept false w e = refl

four : (a b c e : Bool) → (if a then Some which.Projects else if b then Some which.Tasks else if c then Some which.Units else where_passed e which.Requirements)
    ≡ option_or (where_passed a which.Projects) (option_or (where_passed b which.Tasks) (option_or (where_passed c which.Units) (option_or (where_passed e which.Requirements) None)))
four true b c e = refl
four false true c e = refl
four false false true e = refl
four false false false true = refl
four false false false false = refl

two : (a b : Bool) → (if a then Some which.Actions else where_passed b which.After) ≡ option_or (where_passed a which.Actions) (option_or (where_passed b which.After) None)
two true b = refl
two false true = refl
two false false = refl

lists : (few : Bool) → (if few then None else Some which.Lists) ≡ option_or (where_passed (not few) which.Lists) None
lists true = refl
lists false = refl

-- what there is too much of is the first whose limit is passed
first_limit : (p : Part) (t : Data) → excess p t ≡ first_of (λ w. where_passed (passes_limit w p t) w) limits
first_limit Plan t = four (nat_lt MAX_PROJECTS (length (projects_of t))) (nat_lt MAX_TASKS (length (tasks_of t))) (nat_lt MAX_UNITS (plan_unit_count t)) (nat_lt MAX_REQUIREMENTS (length (requirements_of t)))
first_limit Project t = refl
first_limit Task t = two (nat_lt MAX_ACTIONS_PER_TASK (length (actions_of t))) (nat_lt MAX_AFTER (length (after_of t)))
first_limit Requirements t = lists (has_few_lists t)

none_passed : (p : Part) (t : Data) → excess p t ≡ None → (w : Which) → passes_limit w p t ≡ false
none_passed p t none w = kept _ w (first_of_none (λ v. where_passed (passes_limit v p t) v) limits (sym (first_limit p t) ∙ none) (which_number w) w (limit_at w))

first_passed : (p : Part) (t : Data) (w : Which) → excess p t ≡ Some w → (passes_limit w p t ≡ true) × ((v : Which) → which_number v < which_number w → passes_limit v p t ≡ false)
first_passed p t w e =
    let (k, x, first) = first_of_some (λ v. where_passed (passes_limit v p t) v) limits w (sym (first_limit p t) ∙ e) in
    let (over, same) = passed (passes_limit x p t) x w first.found in
    let number : which_number w ≡ k = sym (ap which_number same) ∙ number_of_limit k x first.at in
    (subst (λ v. passes_limit v p t ≡ true) same over, λ v lt. kept _ v (first.before (which_number v) v (subst (λ n. which_number v < n) number lt) (limit_at v)))

is_excess : (p : Part) (t : Data) (w : Which) → passes_limit w p t ≡ true → is_some (excess p t) ≡ true
is_excess p t w over = by (excess p t) refl
  where
    by : (o : Option Which) → excess p t ≡ o → is_some o ≡ true
    by None e = absurd (true≢false (sym over ∙ none_passed p t e w))
    by (Some v) e = refl

-- ---- what stands at a place

pub on_table : (d : Data) (p : Place) (test weaker : Data → Bool) → ((t : Data) → test t ≡ true → weaker t ≡ true) → holds_on d p test ≡ true → holds_on d p weaker ≡ true
on_table d p test weaker more = by (slice_get (places d p.part) p.number)
  where
    by : (o : Option Data) → option_map_or test o false ≡ true → option_map_or weaker o false ≡ true
    by None h = h
    by (Some t) h = more t h

pub limit_passed : (d : Data) (p : Place) (w : Which) → holds_on d p (passes_limit w p.part) ≡ true → RowHolds d TooMany p
limit_passed d p w = on_table d p (passes_limit w p.part) (λ t. is_some (excess p.part t)) (λ t. is_excess p.part t w)

found_at : (xs : List Data) (n : ℕ) (d t : Data) → slice_get xs n ≡ Some t → get_or xs n d ≡ t
found_at [] n d t e = absurd (none-some t e)
found_at (x ∷ xs) zero d t e = same_Some x t e
found_at (x ∷ xs) (suc n) d t e = found_at xs n d t e

-- the limit that is told is passed, and none before it
pub record FirstLimit (d : Data) (p : Place) (w : Which) : Type 0 where
  pub here : holds_on d p (passes_limit w p.part) ≡ true
  pub before : (v : Which) → which_number v < which_number w → holds_on d p (passes_limit v p.part) ≡ true → ⊥

pub first_limit_at : (d : Data) (p : Place) → RowHolds d TooMany p → FirstLimit d p (unwrap_or (excess p.part (table_at d p)) which.Units)
first_limit_at d p h = by (slice_get (places d p.part) p.number) refl h
  where
    told : (t : Data) (o : Option Which) → slice_get (places d p.part) p.number ≡ Some t → excess p.part t ≡ o → is_some o ≡ true → FirstLimit d p (unwrap_or o which.Units)
    told t None at e some = absurd (false≢true some)
    told t (Some w) at e some = record {
      here = ap (λ s. option_map_or (passes_limit w p.part) s false) at ∙ (first_passed p.part t w e).0;
      before = λ v lt over. true≢false (sym over ∙ ap (λ s. option_map_or (passes_limit v p.part) s false) at ∙ (first_passed p.part t w e).1 v lt);
    }

    by : (s : Option Data) → slice_get (places d p.part) p.number ≡ s → option_map_or (λ t. is_some (excess p.part t)) s false ≡ true → FirstLimit d p (unwrap_or (excess p.part (table_at d p)) which.Units)
    by None at none = absurd (false≢true none)
    by (Some t) at some = subst (λ x. FirstLimit d p (unwrap_or (excess p.part x) which.Units)) (sym (found_at (places d p.part) p.number d t at)) (told t (excess p.part t) at refl some)
