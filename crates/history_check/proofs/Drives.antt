-- What driving entry by entry comes to.
use Rattle.std.proofs.Common.{◌≡◌, ℕ, ◌+◌, ◌≤◌, List, [], ◌∷◌, ◌++◌, length, take, Option, Some, None, Result, Ok, Err, refl, sym, ap, subst, ◌∙◌, arith}
use Rattle.std.specs.Prelude.{slice_get, IsErrAnd}
use Rattle.std.specs.List.{AllByRecursion}
use Rattle.std.proofs.lemmas.List.{take_all, length-take-le}
use Rattle.std.proofs.lemmas.Option.{slice_get_within}
use Rattle.item_actions.specs.Files.{Folder}
use Rattle.lock_journal.specs.Names.{Entry, Closed}
use Rattle.plan_reader.specs.PlanView.{PlanView}
use Rattle.history_check.specs.Truth.{AreTrue, IsTrueOn, closing_at, closings_in}
use Rattle.history_check.specs.Driving.{AreDriven, IsStopCounted, ReadsFor}
use Rattle.history_check.specs.Steps.{HasDrivenEntry, IsDrivenAt, IsTrueWhereKnown}
use Rattle.history_check.specs.declared.stops.Stop.{Stop}
use Rattle.history_check.specs.declared.stops.Stop.TheVariants as stop
use Rattle.history_check.proofs.Closings.{closed_more, closes_there, none_more}

-- ---- reads, one after the other

pub read_more : {F : Type 0} (keeps : F → F → Type 0) (ds : List Closed) (d : Closed) (start mid now : F) → ReadsFor keeps start mid ds → keeps mid now → ReadsFor keeps start now (ds ++ d ∷ [])
read_more keeps [] d start mid now same kept = (now, subst (λ x. keeps x now) same kept, refl)
read_more keeps (x ∷ xs) d start mid now r kept = (r.0, r.1, read_more keeps xs d r.0 mid now r.2 kept)

-- ---- truth, entry by entry

all_more : (P : Closed → Type 0) (ds : List Closed) (d : Closed) → AllByRecursion P ds → P d → AllByRecursion P (ds ++ d ∷ [])
all_more P [] d all is = (is, tt)
all_more P (x ∷ xs) d all is = (all.0, all_more P xs d all.1 is)

-- entries with the same closings are as true
same_truth : (p : PlanView) (known : Option Folder) (es fs : List Entry) → closings_in fs ≡ closings_in es → AreTrue p known es → AreTrue p known fs
same_truth p None es fs same true' = tt
same_truth p (Some files) es fs same true' = subst (AllByRecursion (IsTrueOn p files)) (sym same) true'

true_more : (p : PlanView) (known : Option Folder) (es fs : List Entry) (d : Closed) → closings_in fs ≡ closings_in es ++ d ∷ [] → AreTrue p known es → IsTrueWhereKnown p known d → AreTrue p known fs
true_more p None es fs d same true' is = tt
true_more p (Some files) es fs d same true' is = subst (AllByRecursion (IsTrueOn p files)) (sym same) (all_more (IsTrueOn p files) (closings_in es) d true' is)

-- ---- the entries so far

-- the first n entries are true, and their files were read
pub record AreDrivenTo {F : Type 0} (keeps : F → F → Type 0) (p : PlanView) (known : Option Folder) (es : List Entry) (start now : F) (n : ℕ) : Type 0 where
  pub truth : AreTrue p known (take n es)
  pub read : ReadsFor keeps start now (closings_in (take n es))

pub none_driven : {F : Type 0} (keeps : F → F → Type 0) (p : PlanView) (known : Option Folder) (es : List Entry) (start : F) → AreDrivenTo keeps p known es start start 0
none_driven keeps p known es start = record { truth = nothing known; read = refl }
  where
    nothing : (k : Option Folder) → AreTrue p k []
    nothing None = tt
    nothing (Some files) = tt

module _ {F : Type 0} (keeps : F → F → Type 0) (p : PlanView) (known : Option Folder) (es : List Entry) (start mid : F) (n : ℕ) (so_far : AreDrivenTo keeps p known es start mid n) (e : Entry) (is : slice_get es n ≡ Some e) where
  -- an entry that closes nothing is passed
  pub passed : closing_at e ≡ [] → AreDrivenTo keeps p known es start mid (n + 1)
  passed none =
      let same = none_more es n e is none in
      record {
        truth = same_truth p known (take n es) (take (n + 1) es) same so_far.truth;
        read = subst (ReadsFor keeps start mid) (sym same) so_far.read;
      }

  module _ (d : Closed) (one : closing_at e ≡ d ∷ []) (now : F) (kept : keeps mid now) where
    -- one whose outcome is true too
    pub driven : IsTrueWhereKnown p known d → AreDrivenTo keeps p known es start now (n + 1)
    driven true' =
        let more = closed_more es n e d is one in
        record {
          truth = true_more p known (take n es) (take (n + 1) es) d more so_far.truth true';
          read = subst (ReadsFor keeps start now) (sym more) (read_more keeps (closings_in (take n es)) d start mid now so_far.read kept);
        }

    -- any other ends it
    stopped_by : (s : Stop) → IsDrivenAt p known (n + 1) d (Err s) → AreDriven p known es (ReadsFor keeps start now) (Err s)
    stopped_by (stop.Differs m o) at = record {
      before = take n es;
      closed = d;
      there = closes_there es n e d is one;
      number = at.0 ∙ ap (λ k. k + 1) (sym (length-take-le n es (let within = slice_get_within es n e is in omega (arith, within))));
      earlier = so_far.truth;
      untrue = at.1;
      value = at.2;
      read = read_more keeps (closings_in (take n es)) d start mid now so_far.read kept;
    }
    stopped_by (stop.ReadFault u) at = record {
      before = take n es;
      closed = d;
      there = closes_there es n e d is one;
      unit = at;
      earlier = so_far.truth;
      read = read_more keeps (closings_in (take n es)) d start mid now so_far.read kept;
    }
    stopped_by stop.NoMemory at = (closings_in (take n es) ++ d ∷ [], read_more keeps (closings_in (take n es)) d start mid now so_far.read kept)

    pub stopped : (s : Stop) (r : Result Unit Stop) → IsErrAnd r (λ f. f ≡ s) → IsDrivenAt p known (n + 1) d (Err s) → AreDriven p known es (ReadsFor keeps start now) r
    stopped s (Ok x) never at = absurd never
    stopped s (Err f) same at = subst (λ (t : Stop). AreDriven p known es (ReadsFor keeps start now) (Err t)) (sym same) (stopped_by s at)

-- an entry was driven, and no stop came
pub entry_driven : {F : Type 0} (keeps : F → F → Type 0) (p : PlanView) (known seen : Option Folder) (es : List Entry) (start mid now : F) (n number : ℕ) (e : Entry) → AreDrivenTo keeps p known es start mid n → slice_get es n ≡ Some e → seen ≡ known
    → HasDrivenEntry keeps p seen number e mid now (Ok tt) → AreDrivenTo keeps p known es start now (n + 1)
entry_driven keeps p known seen es start mid now n number e so_far is same (None, none, nothing) =
    subst (λ x. AreDrivenTo keeps p known es start x (n + 1)) (sym nothing) (passed keeps p known es start mid n so_far e is none)
entry_driven keeps p known seen es start mid now n number e so_far is same (Some d, one, driven') =
    driven keeps p known es start mid n so_far e is d one now driven'.0 (subst (λ (k : Option Folder). IsTrueWhereKnown p k d) same driven'.1)

-- an entry was driven, and a stop came
pub entry_stopped : {F : Type 0} (keeps : F → F → Type 0) (p : PlanView) (known seen : Option Folder) (es : List Entry) (start mid now : F) (n number : ℕ) (e : Entry) (s : Stop) (r : Result Unit Stop) → AreDrivenTo keeps p known es start mid n → slice_get es n ≡ Some e
    → seen ≡ known → number ≡ n + 1 → IsErrAnd r (λ f. f ≡ s) → HasDrivenEntry keeps p seen number e mid now (Err s) → AreDriven p known es (ReadsFor keeps start now) r
entry_stopped keeps p known seen es start mid now n number e s r so_far is same at err (None, none, never) = absurd never
entry_stopped keeps p known seen es start mid now n number e s r so_far is same at err (Some d, one, driven') =
    stopped keeps p known es start mid n so_far e is d one now driven'.0 s r err
    (subst (λ (k : Option Folder). IsDrivenAt p k (n + 1) d (Err s)) same (subst (λ (m : ℕ). IsDrivenAt p seen m d (Err s)) at driven'.1))

-- all entries are true
pub all_driven : {F : Type 0} (keeps : F → F → Type 0) (p : PlanView) (known : Option Folder) (es : List Entry) (start now : F) (n : ℕ) → length es ≤ n → AreDrivenTo keeps p known es start now n → AreTrue p known es × ReadsFor keeps start now (closings_in es)
all_driven keeps p known es start now n long so_far =
    subst (λ (xs : List Entry). AreTrue p known xs × ReadsFor keeps start now (closings_in xs)) (take_all n es long) (so_far.truth, so_far.read)

-- a stop is counted as it was in its entry
pub counted_alike : (before mid after : ℕ) (s : Stop) (r : Result Unit Stop) → mid ≡ before → IsErrAnd r (λ f. f ≡ s) → IsStopCounted mid after (Err s) → IsStopCounted before after r
counted_alike before mid after s (Ok x) same never counted = absurd never
counted_alike before mid after s (Err f) same is counted =
    subst (λ (t : Stop). IsStopCounted before after (Err t)) (sym is) (subst (λ (m : ℕ). IsStopCounted m after (Err s)) same counted)
