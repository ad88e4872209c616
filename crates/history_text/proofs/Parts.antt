-- The units of one more action, or of one more task with its line.
use Rattle.std.proofs.Common.{◌≡◌, ℕ, ◌+◌, ◌<◌, ◌≤◌, List, [], ◌∷◌, ◌++◌, length, take, Some, sym, ap, subst, ◌∙◌, append_assoc, append-nil, length-append, arith, suc}
use Rattle.std.specs.List.{slice_get, flat_map}
use Rattle.std.proofs.lemmas.List.{length-take-le}
use Rattle.std.proofs.lemmas.List.Concat.{flat_map-append}
use Rattle.std.proofs.lemmas.List.Folds.{length-flat_map-take}
use Rattle.std.proofs.lemmas.Option.{slice_get_within, get_or_from_slice_get}
use Rattle.item_actions.specs.declared.outcomes.Outcome.{Outcome}
use Rattle.resource_lock.specs.declared.marks.Mark.{Mark}
use Rattle.file_access.specs.SinkView.{SinkView}
use Rattle.file_access.specs.PageView.{PageView, Adds}
use Rattle.file_access.proofs.lemmas.Telling.{adds_as, adds_then}
use Rattle.plan_reader.specs.PlanView.{PlanTaskView}
use Rattle.plan_reader.specs.Units.{task_units}
use Rattle.history_text.specs.Text.{numbered}
use Rattle.history_text.specs.Results.{task_text, tasks_text}
use Rattle.history_text.proofs.lemmas.Numbering.{numbered-append, take_next}

-- a part lies within the whole
pub within_whole : {X Y : Type 0} (f : X → List Y) (xs : List X) (i : ℕ) (x : X) → slice_get xs i ≡ Some x → length (flat_map f (take i xs)) + length (f x) ≤ length (flat_map f xs)
within_whole f xs i x is = subst (λ y. length (flat_map f (take i xs)) + length (f y) ≤ length (flat_map f xs)) (get_or_from_slice_get xs i x x is) (length-flat_map-take f xs i x (slice_get_within xs i x is))

pub flat_map-next : {X Y : Type 0} (f : X → List Y) (xs : List X) (i : ℕ) (x : X) → slice_get xs i ≡ Some x → flat_map f (take (i + 1) xs) ≡ flat_map f (take i xs) ++ f x
flat_map-next f xs i x is = ap (flat_map f) (take_next xs i x is) ∙ (flat_map-append f (take i xs) (x ∷ []) ∙ ap (λ l. flat_map f (take i xs) ++ l) (append-nil (f x)))

pub length-flat_map-next : {X Y : Type 0} (f : X → List Y) (xs : List X) (i : ℕ) (x : X) → slice_get xs i ≡ Some x → length (flat_map f (take (i + 1) xs)) ≡ length (flat_map f (take i xs)) + length (f x)
length-flat_map-next f xs i x is = ap length (flat_map-next f xs i x is) ∙ length-append (flat_map f (take i xs)) (f x)

-- the units of one more action were told
pub adds_part : {X Y : Type 0} {a b c : SinkView} {p q r : PageView} (line : ℕ → Y → List ℕ) (f : X → List Y) (n m : ℕ) (xs : List X) (i : ℕ) (x : X) → m ≡ n + length (flat_map f (take i xs)) → slice_get xs i ≡ Some x
    → Adds a p b q (numbered line n (flat_map f (take i xs))) → Adds b q c r (numbered line m (f x)) → Adds a p c r (numbered line n (flat_map f (take (i + 1) xs)))
adds_part line f n m xs i x number is before one =
    adds_as (ap (λ k. numbered line n (flat_map f (take i xs)) ++ numbered line k (f x)) number
    ∙ (sym (numbered-append line n (flat_map f (take i xs)) (f x)) ∙ ap (numbered line n) (sym (flat_map-next f xs i x is))))
    (adds_then before one)

tasks_text-push : (marks : ℕ → Mark) (outcomes : ℕ → Outcome) (t u : ℕ) (xs : List PlanTaskView) (x : PlanTaskView)
    → tasks_text marks outcomes t u (xs ++ x ∷ []) ≡ tasks_text marks outcomes t u xs ++ task_text marks outcomes (t + length xs) (u + length (flat_map task_units xs)) x
tasks_text-push marks outcomes t u [] x =
    let here : t ≡ t + 0 = omega arith in
    let first : u ≡ u + 0 = omega arith in
    append-nil (task_text marks outcomes t u x) ∙ (ap (λ n. task_text marks outcomes n u x) here ∙ ap (λ n. task_text marks outcomes (t + 0) n x) first)
tasks_text-push marks outcomes t u (y ∷ xs) x =
    let here : t + 1 + length xs ≡ t + suc (length xs) = omega arith in
    let first : u + length (task_units y) + length (flat_map task_units xs) ≡ u + length (task_units y ++ flat_map task_units xs) = omega (arith, length-append (task_units y) (flat_map task_units xs)) in
    let rest : List ℕ = tasks_text marks outcomes (t + 1) (u + length (task_units y)) xs in
    ap (λ l. task_text marks outcomes t u y ++ l)
    (tasks_text-push marks outcomes (t + 1) (u + length (task_units y)) xs x
    ∙ (ap (λ n. rest ++ task_text marks outcomes n (u + length (task_units y) + length (flat_map task_units xs)) x) here
    ∙ ap (λ n. rest ++ task_text marks outcomes (t + suc (length xs)) n x) first))
    ∙ sym (append_assoc (task_text marks outcomes t u y) rest (task_text marks outcomes (t + suc (length xs)) (u + length (task_units y ++ flat_map task_units xs)) x))

-- one more task was told, with its units
pub adds_task : {a b c : SinkView} {p q r : PageView} (marks : ℕ → Mark) (outcomes : ℕ → Outcome) (u : ℕ) (xs : List PlanTaskView) (i : ℕ) (x : PlanTaskView) → u ≡ length (flat_map task_units (take i xs)) → slice_get xs i ≡ Some x
    → Adds a p b q (tasks_text marks outcomes 0 0 (take i xs)) → Adds b q c r (task_text marks outcomes i u x) → Adds a p c r (tasks_text marks outcomes 0 0 (take (i + 1) xs))
adds_task marks outcomes u xs i x first is before one =
    let within : i < length xs = slice_get_within xs i x is in
    let here : i ≡ 0 + length (take i xs) = omega (arith, length-take-le i xs (omega arith)) in
    let units : u ≡ 0 + length (flat_map task_units (take i xs)) = omega (arith, first) in
    adds_as (ap (λ n. tasks_text marks outcomes 0 0 (take i xs) ++ task_text marks outcomes n u x) here
    ∙ (ap (λ n. tasks_text marks outcomes 0 0 (take i xs) ++ task_text marks outcomes (0 + length (take i xs)) n x) units
    ∙ (sym (tasks_text-push marks outcomes 0 0 (take i xs) x) ∙ ap (tasks_text marks outcomes 0 0) (sym (take_next xs i x is)))))
    (adds_then before one)
