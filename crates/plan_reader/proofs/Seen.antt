-- What a refusal that holds of a document says, by its cause.
use Rattle.std.proofs.Common.{◌≡◌, ◌≢◌, ℕ, ◌-◌, ◌<◌, ◌≤◌, Bool, true, false, List, [], ◌∷◌, refl, ap, sym, subst, ◌∙◌, Some, arith}
use Rattle.std.specs.List.{slice_get}
use Rattle.std.proofs.lemmas.Bool.{true≢false}
use Rattle.std.proofs.lemmas.Option.{same_Some}
use Rattle.toml.specs.Data.{Data}
use Rattle.plan_table.specs.declared.refusals.Which.{Which}
use Rattle.plan_table.specs.declared.refusals.PlanRefusal.{PlanRefusal}
use Rattle.plan_table.specs.declared.refusals.PlanRefusal.TheVariants as refusal
use Rattle.plan_table.specs.First.{cause_number, place_of, excess_number, which_number, holds_on, TableHolds}
use Rattle.plan_reader.specs.declared.rows.Row.{Row}
use Rattle.plan_reader.specs.declared.rows.Row.TheVariants.{NoSuchProject, NoSuchTask, ReleaseNotLast, ClassLoader, TooMany, BadRequirements}
use Rattle.plan_reader.specs.First.{HasTwice, HasNoRank, passes_limit, DocumentHolds}
use Rattle.plan_reader.proofs.FirstRows.{RowHolds, limit_passed}

-- ---- the numbers of rows

abbrev pub row_number : Row → ℕ
row_number NoSuchProject = 7
row_number NoSuchTask = 8
row_number ReleaseNotLast = 10
row_number ClassLoader = 11
row_number TooMany = 12
row_number BadRequirements = 13

-- they stand behind Twice and beside Cycle
pub record IsRowNumber (n : ℕ) : Type 0 where
  pub low : 7 ≤ n
  pub high : n ≤ 13
  pub other : n ≢ 9

pub row_range : (r : Row) → IsRowNumber (row_number r)
row_range NoSuchProject = record { low = omega arith; high = omega arith; other = λ e. absurd (omega (arith, e)) }
row_range NoSuchTask = record { low = omega arith; high = omega arith; other = λ e. absurd (omega (arith, e)) }
row_range ReleaseNotLast = record { low = omega arith; high = omega arith; other = λ e. absurd (omega (arith, e)) }
row_range ClassLoader = record { low = omega arith; high = omega arith; other = λ e. absurd (omega (arith, e)) }
row_range TooMany = record { low = omega arith; high = omega arith; other = λ e. absurd (omega (arith, e)) }
row_range BadRequirements = record { low = omega arith; high = omega arith; other = λ e. absurd (omega (arith, e)) }

-- the rows by their numbers from 7 on, where that of Cycle has none of its own
abbrev rows_from_7 : List Row
rows_from_7 = NoSuchProject ∷ NoSuchTask ∷ NoSuchTask ∷ ReleaseNotLast ∷ ClassLoader ∷ TooMany ∷ BadRequirements ∷ []

row_at : (r : Row) → slice_get rows_from_7 (row_number r - 7) ≡ Some r
row_at NoSuchProject = refl
row_at NoSuchTask = refl
row_at ReleaseNotLast = refl
row_at ClassLoader = refl
row_at TooMany = refl
row_at BadRequirements = refl

same_row : (r u : Row) → row_number r ≡ row_number u → r ≡ u
same_row r u same = same_Some r u (sym (row_at r) ∙ ap (λ n. slice_get rows_from_7 (n - 7)) same ∙ row_at u)

abbrev is_too_many : Row → Bool
is_too_many TooMany = true
is_too_many _ = false

not_too_many : (r : Row) → is_too_many r ≡ false → row_number r ≢ 12
not_too_many r other same = true≢false (ap is_too_many (same_row TooMany r (sym same)) ∙ other)

-- ---- by cause

pub data Seen (d : Data) (s : PlanRefusal) : Type 0 where
  by_table : TableHolds d s → cause_number s < 6 → Seen d s
  by_name : HasTwice d (place_of s) → cause_number s ≡ 6 → Seen d s
  by_row : (r : Row) → RowHolds d r (place_of s) → cause_number s ≡ row_number r → is_too_many r ≡ false → Seen d s
  by_limit : (w : Which) → holds_on d (place_of s) (passes_limit w (place_of s).part) ≡ true → cause_number s ≡ 12 → excess_number s ≡ which_number w → Seen d s
  by_rank : HasNoRank d (place_of s) → cause_number s ≡ 9 → Seen d s

pub seen : (d : Data) (s : PlanRefusal) → DocumentHolds d s → Seen d s
seen d refusal.TooLong h = absurd h
seen d refusal.NotToml h = absurd h
seen d (refusal.UnknownKey p) h = by_table h (omega arith)
seen d (refusal.WrongType p) h = by_table h (omega arith)
seen d (refusal.Missing p) h = by_table h (omega arith)
seen d (refusal.BadName p) h = by_table h (omega arith)
seen d (refusal.Twice p) h = by_name h refl
seen d (refusal.NoSuchProject p) h = by_row NoSuchProject h refl refl
seen d (refusal.NoSuchTask p) h = by_row NoSuchTask h refl refl
seen d (refusal.Cycle p) h = by_rank h refl
seen d (refusal.ReleaseNotLast p) h = by_row ReleaseNotLast h refl refl
seen d (refusal.ClassLoader p) h = by_row ClassLoader h refl refl
seen d (refusal.TooMany w p) h = by_limit w h refl refl
seen d (refusal.BadRequirements p) h = by_row BadRequirements h refl refl

-- a refusal that tables give by themselves is one of the document
pub tabled : (d : Data) (s : PlanRefusal) → TableHolds d s → DocumentHolds d s × (cause_number s < 6)
tabled d refusal.TooLong h = absurd h
tabled d refusal.NotToml h = absurd h
tabled d (refusal.UnknownKey p) h = (h, omega arith)
tabled d (refusal.WrongType p) h = (h, omega arith)
tabled d (refusal.Missing p) h = (h, omega arith)
tabled d (refusal.BadName p) h = (h, omega arith)
tabled d (refusal.Twice p) h = absurd h
tabled d (refusal.NoSuchProject p) h = absurd h
tabled d (refusal.NoSuchTask p) h = absurd h
tabled d (refusal.Cycle p) h = absurd h
tabled d (refusal.ReleaseNotLast p) h = absurd h
tabled d (refusal.ClassLoader p) h = absurd h
tabled d (refusal.TooMany w p) h = absurd h
tabled d (refusal.BadRequirements p) h = absurd h

-- ---- what a refusal of one number says

module _ (d : Data) (s : PlanRefusal) where
  pub table_seen : cause_number s < 6 → Seen d s → TableHolds d s
  table_seen low (by_table h lt) = h
  table_seen low (by_name h is) = absurd (omega (arith, low, is))
  table_seen low (by_row r h is other) = absurd (omega (arith, low, is, (row_range r).low))
  table_seen low (by_limit w h is of) = absurd (omega (arith, low, is))
  table_seen low (by_rank h is) = absurd (omega (arith, low, is))

  pub name_seen : cause_number s ≡ 6 → Seen d s → HasTwice d (place_of s)
  name_seen six (by_table h lt) = absurd (omega (arith, six, lt))
  name_seen six (by_name h is) = h
  name_seen six (by_row r h is other) = absurd (omega (arith, six, is, (row_range r).low))
  name_seen six (by_limit w h is of) = absurd (omega (arith, six, is))
  name_seen six (by_rank h is) = absurd (omega (arith, six, is))

  pub row_seen : (r : Row) → cause_number s ≡ row_number r → Seen d s → RowHolds d r (place_of s)
  row_seen r same (by_table h lt) = absurd (omega (arith, same, lt, (row_range r).low))
  row_seen r same (by_name h is) = absurd (omega (arith, same, is, (row_range r).low))
  row_seen r same (by_row u h is other) = subst (λ v. RowHolds d v (place_of s)) (same_row u r (sym is ∙ same)) h
  row_seen r same (by_limit w h is of) = subst (λ v. RowHolds d v (place_of s)) (same_row TooMany r (sym is ∙ same)) (limit_passed d (place_of s) w h)
  row_seen r same (by_rank h is) = absurd ((row_range r).other (sym same ∙ is))

  pub rank_seen : cause_number s ≡ 9 → Seen d s → HasNoRank d (place_of s)
  rank_seen nine (by_table h lt) = absurd (omega (arith, nine, lt))
  rank_seen nine (by_name h is) = absurd (omega (arith, nine, is))
  rank_seen nine (by_row r h is other) = absurd ((row_range r).other (sym is ∙ nine))
  rank_seen nine (by_limit w h is of) = absurd (omega (arith, nine, is))
  rank_seen nine (by_rank h is) = h

  -- of what there is too much
  pub limit_seen : cause_number s ≡ 12 → Seen d s → (w : Which) × (excess_number s ≡ which_number w) × (holds_on d (place_of s) (passes_limit w (place_of s).part) ≡ true)
  limit_seen twelve (by_table h lt) = absurd (omega (arith, twelve, lt))
  limit_seen twelve (by_name h is) = absurd (omega (arith, twelve, is))
  limit_seen twelve (by_row r h is other) = absurd (not_too_many r other (sym is ∙ twelve))
  limit_seen twelve (by_limit w h is of) = (w, of, h)
  limit_seen twelve (by_rank h is) = absurd (omega (arith, twelve, is))

  pub few_causes : Seen d s → cause_number s < 14
  few_causes (by_table h lt) = omega (arith, lt)
  few_causes (by_name h is) = omega (arith, is)
  few_causes (by_row r h is other) = omega (arith, is, (row_range r).high)
  few_causes (by_limit w h is of) = omega (arith, is)
  few_causes (by_rank h is) = omega (arith, is)
