-- The order of the idle daemons, after one event more.
use Rattle.std.proofs.Common.{◌≡◌, ◌≢◌, ◌⊎◌, ℕ, zero, suc, ◌<◌, ◌||◌, Bool, true, false, not, cond, List, [], ◌∷◌, ◌++◌, length, get_or, refl, sym, ap, ◌∙◌, inl, inr, arith, remove, All, AllPairs, filter}
use Rattle.std.specs.List.{list_any}
use Rattle.std.proofs.lemmas.Bool.{true≢false, eq-eqb, or_left, or_right}
use Rattle.std.proofs.lemmas.Bool.Decides.{eqb_tells}
use Rattle.std.proofs.lemmas.List.Folds.{list_any-append}
use Rattle.std.proofs.lemmas.List.Kept.{AllPairs-cons}
use Rattle.daemon_manager.specs.declared.events.Event.{Event}
use Rattle.daemon_manager.specs.declared.events.Event.TheVariants.{Started, Reserved, Released, Failed, Stopped}
use Rattle.daemon_manager.specs.Events.{daemon_of, is_about, idle}

-- the numbers without the one that an event is about
abbrev pub left_by : Event → List ℕ → List ℕ
left_by e xs = filter (λ x. not (is_about x e)) xs

-- the number that an event puts at the end of the order
abbrev pub released : Event → List ℕ
released (Released d) = d ∷ []
released (Started d r) = []
released (Reserved d u) = []
released (Failed d) = []
released (Stopped d) = []

joined : (e : Event) (d : ℕ) (xs ys : List ℕ) (a : Bool) → ys ≡ left_by e xs ++ released e → cond (a || (is_about d e || false)) ys (d ∷ ys) ≡ left_by e (cond a xs (d ∷ xs)) ++ released e
joined e d xs ys true same = same
joined e d xs ys false same = by (is_about d e)
  where
    by : (b : Bool) → cond (b || false) ys (d ∷ ys) ≡ cond (not b) (d ∷ left_by e xs) (left_by e xs) ++ released e
    by true = same
    by false = ap (λ zs. d ∷ zs) same

pub idle_more : (events : List Event) (e : Event) → idle (events ++ e ∷ []) ≡ left_by e (idle events) ++ released e
idle_more [] (Started d r) = refl
idle_more [] (Reserved d u) = refl
idle_more [] (Released d) = refl
idle_more [] (Failed d) = refl
idle_more [] (Stopped d) = refl
idle_more (Started d r ∷ events) e = idle_more events e
idle_more (Reserved d u ∷ events) e = idle_more events e
idle_more (Failed d ∷ events) e = idle_more events e
idle_more (Stopped d ∷ events) e = idle_more events e
idle_more (Released d ∷ events) e =
    ap (λ b. cond b (idle (events ++ e ∷ [])) (d ∷ idle (events ++ e ∷ []))) (list_any-append (is_about d) events (e ∷ []))
    ∙ joined e d (idle events) (idle (events ++ e ∷ [])) (list_any (is_about d) events) (idle_more events e)

-- an idle daemon is one that an event is about
mentioned : (events : List Event) → All (λ x. list_any (is_about x) events ≡ true) (idle events)
mentioned [] = λ k d within. absurd (omega (arith, within))
mentioned (Started n r ∷ events) = λ k d within. or_right _ _ (mentioned events k d within)
mentioned (Reserved n u ∷ events) = λ k d within. or_right _ _ (mentioned events k d within)
mentioned (Failed n ∷ events) = λ k d within. or_right _ _ (mentioned events k d within)
mentioned (Stopped n ∷ events) = λ k d within. or_right _ _ (mentioned events k d within)
mentioned (Released n ∷ events) = by (mentioned events) (list_any (is_about n) events)
  where
    at : All (λ x. list_any (is_about x) events ≡ true) (idle events) → (k d : ℕ) → k < length (n ∷ idle events) → list_any (is_about (get_or (n ∷ idle events) k d)) (Released n ∷ events) ≡ true
    at rest zero d within = or_left _ _ (eq-eqb n n refl)
    at rest (suc k) d within = or_right _ _ (rest k d (omega (arith, within)))

    by : All (λ x. list_any (is_about x) events ≡ true) (idle events) → (a : Bool) → All (λ x. list_any (is_about x) (Released n ∷ events) ≡ true) (cond a (idle events) (n ∷ idle events))
    by rest true = λ k d within. or_right _ _ (rest k d within)
    by rest false = λ k d within. at rest k d within

-- no daemon is idle twice
pub idle_distinct : (events : List Event) → AllPairs (λ a b. a ≢ b) (idle events)
idle_distinct [] = λ i j d less within same. omega (arith, within)
idle_distinct (Started n r ∷ events) = idle_distinct events
idle_distinct (Reserved n u ∷ events) = idle_distinct events
idle_distinct (Failed n ∷ events) = idle_distinct events
idle_distinct (Stopped n ∷ events) = idle_distinct events
idle_distinct (Released n ∷ events) = by (idle_distinct events) (list_any (is_about n) events) refl
  where
    by : AllPairs (λ a b. a ≢ b) (idle events) → (a : Bool) → list_any (is_about n) events ≡ a → AllPairs (λ a b. a ≢ b) (cond a (idle events) (n ∷ idle events))
    by rest true is = rest
    by rest false is = AllPairs-cons (λ a b. a ≢ b) n (idle events) (λ k d within same. true≢false (sym (mentioned events k d within) ∙ ap (λ x. list_any (is_about x) events) (sym same) ∙ is)) rest

-- an event about none of the numbers leaves them all
pub left_all : (e : Event) (xs : List ℕ) → All (λ x. x ≢ daemon_of e) xs → left_by e xs ≡ xs
left_all e [] others = refl
left_all e (x ∷ xs) others = by (left_all e xs (λ k d within. others (suc k) d (omega (arith, within)))) (eqb_tells (daemon_of e) x)
  where
    by : left_by e xs ≡ xs → ((is_about x e ≡ true) × (daemon_of e ≡ x)) ⊎ ((is_about x e ≡ false) × (daemon_of e ≢ x)) → left_by e (x ∷ xs) ≡ x ∷ xs
    by rest (inl same) = absurd (others 0 x (omega arith) (sym same.1))
    by rest (inr differ) = ap (λ b. cond (not b) (x ∷ left_by e xs) (left_by e xs)) differ.0 ∙ ap (λ ys. x ∷ ys) rest

-- an event about one of the numbers takes it out
pub left_one : (e : Event) (xs : List ℕ) (i : ℕ) → AllPairs (λ a b. a ≢ b) xs → i < length xs → get_or xs i (daemon_of e) ≡ daemon_of e → left_by e xs ≡ remove xs i
left_one e [] i pairs within here = absurd (omega (arith, within))
left_one e (x ∷ xs) zero pairs within here = ap (λ b. cond (not b) (x ∷ left_by e xs) (left_by e xs)) (eq-eqb (daemon_of e) x (sym here)) ∙ left_all e xs (λ k d k_in same. pairs 0 (suc k) d (omega arith) (omega (arith, k_in)) (here ∙ sym same))
left_one e (x ∷ xs) (suc i) pairs within here =
    by (left_one e xs i (λ j k d less k_in. pairs (suc j) (suc k) d (omega (arith, less)) (omega (arith, k_in))) (omega (arith, within)) here) (eqb_tells (daemon_of e) x)
  where
    by : left_by e xs ≡ remove xs i → ((is_about x e ≡ true) × (daemon_of e ≡ x)) ⊎ ((is_about x e ≡ false) × (daemon_of e ≢ x)) → left_by e (x ∷ xs) ≡ x ∷ remove xs i
    by rest (inl same) = absurd (pairs 0 (suc i) (daemon_of e) (omega arith) within (sym same.1 ∙ sym here))
    by rest (inr differ) = ap (λ b. cond (not b) (x ∷ left_by e xs) (left_by e xs)) differ.0 ∙ ap (λ ys. x ∷ ys) rest
