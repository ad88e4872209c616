-- From what a step answers to the answer for the whole document.
use Rattle.std.proofs.Common.{◌≡◌, ℕ, ◌<◌, List, [], ◌∷◌, map, length, slice_index_or, Option, Some, None, Result, Ok, Err, IfOk, IfErr, IsErrAnd, refl, ap, sym, subst, ◌∙◌, arith}
use Rattle.std.specs.Option.{option_or}
use Rattle.std.proofs.lemmas.List.{length-map, get_or-map}
use Rattle.toml.specs.Data.{Data}
use Rattle.ready_work.specs.Rank.{Dependencies, after, InRange, IsFirstCycle}
use Rattle.plan_table.specs.declared.refusals.Part.TheVariants.{Project, Task, Requirements}
use Rattle.plan_table.specs.declared.refusals.PlanRefusal.{PlanRefusal}
use Rattle.plan_table.specs.declared.refusals.PlanFail.{PlanFail}
use Rattle.plan_table.specs.declared.refusals.PlanFail.TheVariants.{Refused, NoMemory}
use Rattle.plan_table.specs.Document as document
use Rattle.plan_table.specs.Keys.{name_of, tasks_of, after_of}
use Rattle.plan_table.specs.Search.{table_refusal}
use Rattle.plan_reader.specs.Names.{names_in, dependency_numbers, dependencies_of}
use Rattle.plan_reader.specs.PlanView.{PlanView}
use Rattle.plan_reader.specs.Planned.{plan_of}
use Rattle.plan_reader.specs.declared.rows.Row.{Row}
use Rattle.plan_reader.specs.declared.rows.Row.TheVariants.{ReleaseNotLast, ClassLoader, TooMany, BadRequirements}
use Rattle.plan_reader.specs.Search.{twice_in, twice_refusal, row_refusal, rows_refusal, rows_before, refusal_before, refusal_behind}
use Rattle.plan_reader.specs.Reading.{IsAccepted, Answer, answer_to, AnswersRanks, AnswersBy, ReadsBy, Refuses, Gives, RefusesBy, RefusesCycle}
use Rattle.plan_reader.proofs.Numbers.{numbers_within}

-- ---- one refusal after the other

pub sooner : (a b : Option PlanRefusal) (e : PlanFail) → RefusesBy a e → RefusesBy (option_or a b) e
sooner a b NoMemory h = tt
sooner a b (Refused r) h = ap (λ o. option_or o b) h

pub later : (a b : Option PlanRefusal) (e : PlanFail) → a ≡ None → RefusesBy b e → RefusesBy (option_or a b) e
later a b e none h = subst (λ o. RefusesBy (option_or o b) e) (sym none) h

pub refused : (d : Data) (e : PlanFail) → RefusesBy (refusal_before d) e → Refuses (AnswersBy (refusal_before d) d) e
refused d NoMemory h = tt
refused d (Refused r) h = subst (λ o. AnswersBy o d (Err r)) (sym h) refl

pub none_before : (d : Data) → table_refusal d ≡ None → twice_refusal d ≡ None → rows_refusal rows_before d ≡ None → refusal_before d ≡ None
none_before d a b c =
    ap (λ o. option_or o (option_or (twice_refusal d) (rows_refusal rows_before d))) a
    ∙ ap (λ o. option_or o (rows_refusal rows_before d)) b
    ∙ c

pub answers_by : (d : Data) (r : Result PlanView PlanFail) → refusal_before d ≡ None → Gives (AnswersRanks d) r → Gives (AnswersBy (refusal_before d) d) r
answers_by d r none h = subst (λ o. Gives (AnswersBy o d) r) (sym none) h

pub ranks_refused : (d : Data) (e : PlanFail) → refusal_before d ≡ None → Refuses (AnswersRanks d) e → Refuses (AnswersBy (refusal_before d) d) e
ranks_refused d e none h = subst (λ o. Refuses (AnswersBy o d) e) (sym none) h

pub twice_task : (d : Data) (e : PlanFail) → twice_in d Project ≡ None → RefusesBy (twice_in d Task) e → RefusesBy (twice_refusal d) e
twice_task d e p h = later (twice_in d Project) _ e p (sooner (twice_in d Task) _ e h)

pub twice_requirements : (d : Data) (e : PlanFail) → twice_in d Project ≡ None → twice_in d Task ≡ None → RefusesBy (twice_in d Requirements) e → RefusesBy (twice_refusal d) e
twice_requirements d e p t h = later (twice_in d Project) _ e p (later (twice_in d Task) _ e t (sooner (twice_in d Requirements) None e h))

pub none_twice : (d : Data) → twice_in d Project ≡ None → twice_in d Task ≡ None → twice_in d Requirements ≡ None → twice_refusal d ≡ None
none_twice d p t r =
    ap (λ o. option_or o (option_or (twice_in d Task) (option_or (twice_in d Requirements) None))) p
    ∙ ap (λ o. option_or o (option_or (twice_in d Requirements) None)) t
    ∙ ap (λ o. option_or o None) r

-- the error of a step is handed on
pub handed_on : (Is : Answer → Type 0) (r : Result PlanView PlanFail) (e : PlanFail) → IsErrAnd r (λ f. f ≡ e) → Refuses Is e → Gives Is r
handed_on Is (Ok p) e is h = absurd is
handed_on Is (Err f) e is h = subst (Refuses Is) (sym is) h

-- the same where no plan is made yet
pub passed_on : {X : Type 0} (Is : Answer → Type 0) (r : Result X PlanFail) (e : PlanFail) → IsErrAnd r (λ f. f ≡ e) → Refuses Is e → IfErr r (Refuses Is)
passed_on Is (Ok p) e is h = absurd is
passed_on Is (Err f) e is h = subst (Refuses Is) (sym is) h

-- the same of a refusal that was found
pub found_on : {X : Type 0} (found : Option PlanRefusal) (r : Result X PlanFail) (e : PlanFail) → IsErrAnd r (λ f. f ≡ e) → RefusesBy found e → IfErr r (RefusesBy found)
found_on found (Ok p) e is h = absurd is
found_on found (Err f) e is h = subst (RefusesBy found) (sym is) h

-- ---- the rows behind Cycle

pub none_behind : (d : Data) → row_refusal d ReleaseNotLast ≡ None → row_refusal d ClassLoader ≡ None → row_refusal d TooMany ≡ None → row_refusal d BadRequirements ≡ None → refusal_behind d ≡ None
none_behind d a b c last =
    ap (λ o. option_or o (rows_refusal (ClassLoader ∷ TooMany ∷ BadRequirements ∷ []) d)) a
    ∙ ap (λ o. option_or o (rows_refusal (TooMany ∷ BadRequirements ∷ []) d)) b
    ∙ ap (λ o. option_or o (rows_refusal (BadRequirements ∷ []) d)) c
    ∙ ap (λ o. option_or o None) last

-- a row refuses behind those that refuse nothing
pub third_refused : (d : Data) (a b : Row) (rows : List Row) (e : PlanFail) → row_refusal d a ≡ None → row_refusal d b ≡ None → RefusesBy (rows_refusal rows d) e → RefusesBy (rows_refusal (a ∷ b ∷ rows) d) e
third_refused d a b rows e x y h = later (row_refusal d a) _ e x (later (row_refusal d b) _ e y h)

-- ---- ranks

pub in_range : (d : Data) → InRange (dependencies_of d)
in_range d t k within short =
    let names = (names_in d).tasks in
    let tasks : length (dependencies_of d) ≡ length (tasks_of d) = length-map (tasks_of d) (dependency_numbers names) in
    let named : length names ≡ length (tasks_of d) = length-map (tasks_of d) name_of in
    omega (arith, tasks, named, numbers_in names (tasks_of d) t k (omega (arith, within, tasks)) (omega (arith, named, within, tasks)) short)
  where
    numbers_in : (names : _) (ts : List Data) (t k : ℕ) → t < length ts → 0 < length names → k < length (after (map (dependency_numbers names) ts) t) → slice_index_or (after (map (dependency_numbers names) ts) t) k 0 < length names
    numbers_in names [] t k within some short = absurd (omega (arith, within))
    numbers_in names (x ∷ ts) t k within some short =
        let there : after (map (dependency_numbers names) (x ∷ ts)) t ≡ dependency_numbers names (slice_index_or (x ∷ ts) t x) = get_or-map (dependency_numbers names) (x ∷ ts) t x [] within in
        subst (λ ns. k < length ns → slice_index_or ns k 0 < length names) (sym there) (numbers_within names (after_of (slice_index_or (x ∷ ts) t x)) some k 0) short

pub cycle_refused : (d : Data) (g : Dependencies) (e : PlanFail) → g ≡ dependencies_of d → RefusesCycle g e → Refuses (AnswersRanks d) e
cycle_refused d g NoMemory same h = tt
cycle_refused d g (Refused r) same (first, cycle, is) = (Some first, subst (λ x. IsFirstCycle x (Some first)) same cycle, ap Err is)

pub behind_refused : (d : Data) (e : PlanFail) → IsFirstCycle (dependencies_of d) None → RefusesBy (refusal_behind d) e → Refuses (AnswersRanks d) e
behind_refused d NoMemory ranked h = tt
behind_refused d (Refused r) ranked h = (None, ranked, ap (λ o. answer_to o (plan_of d)) (sym h))

pub refused_behind : {X : Type 0} (d : Data) (r : Result X PlanFail) → IsFirstCycle (dependencies_of d) None → IfErr r (RefusesBy (refusal_behind d)) → IfErr r (Refuses (AnswersRanks d))
refused_behind d (Ok x) ranked h = tt
refused_behind d (Err e) ranked h = behind_refused d e ranked h

pub accepted : {X : Type 0} (d : Data) (r : Result X PlanFail) → refusal_before d ≡ None → IsFirstCycle (dependencies_of d) None → IfOk r (λ _. refusal_behind d ≡ None) → IfOk r (λ _. IsAccepted d)
accepted d (Ok x) before ranked behind = record { before = before; ranked = ranked; behind = behind }
accepted d (Err e) before ranked behind = tt

pub answered : (d : Data) (r : Result PlanView PlanFail) → IsFirstCycle (dependencies_of d) None → refusal_behind d ≡ None → IfOk r (λ p. p ≡ plan_of d) → IfErr r (λ e. e ≡ NoMemory) → Gives (AnswersRanks d) r
answered d (Ok p) ranked none made memory = (None, ranked, ap Ok made ∙ ap (λ o. answer_to o (plan_of d)) (sym none))
answered d (Err e) ranked none made memory = subst (Refuses (AnswersRanks d)) (sym memory) tt

-- ---- the text

pub text_refused : (reading : Result Data PlanRefusal) (e : PlanFail) → document.RefusesDocument e reading → Refuses (ReadsBy reading) e
text_refused reading NoMemory h = tt
text_refused reading (Refused r) h = subst (λ x. ReadsBy x (Err r)) (sym h) refl

pub text_read : (reading : Result Data PlanRefusal) (d : Data) (r : Result PlanView PlanFail) → reading ≡ Ok d → Gives (AnswersBy (refusal_before d) d) r → Gives (ReadsBy reading) r
text_read reading d r is h = subst (λ x. Gives (ReadsBy x) r) (sym is) h
