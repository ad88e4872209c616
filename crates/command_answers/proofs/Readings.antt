-- What reading a file says of the plan in it, and that a text has one answer.
use Rattle.std.proofs.Common.{◌≡◌, ℕ, Bool, true, false, List, length, Option, None, Some, refl, sym, ◌∙◌, ap, subst, cond}
use Rattle.std.specs.Prelude.{nat_lt, Result, Ok, Err, replicate}
use Rattle.std.specs.Option.{option_or}
use Rattle.std.proofs.lemmas.List.{length-replicate}
use Rattle.item_actions.specs.Files.{Folder, file_of}
use Rattle.item_actions.specs.Value.{max_file_bytes}
use Rattle.ready_work.specs.Rank.{Dependencies, IsFirstCycle}
use Rattle.file_access.specs.ReadView.{reading, read_view as read_as, Bytes, TooLong, ReadsFrom}
use Rattle.file_access.specs.declared.files.Read.{Read}
use Rattle.file_access.specs.declared.files.Read.TheVariants as reads
use Rattle.plan_table.specs.declared.refusals.PlanRefusal.{PlanRefusal}
use Rattle.plan_table.specs.declared.refusals.PlanRefusal.TheVariants as refusal
use Rattle.plan_table.specs.declared.refusals.PlanFail.{PlanFail}
use Rattle.plan_table.specs.declared.refusals.PlanFail.TheVariants as fail
use Rattle.plan_table.specs.Document.{document_reading}
use Rattle.plan_reader.specs.Names.{dependencies_of}
use Rattle.plan_reader.specs.PlanView.{PlanView}
use Rattle.plan_reader.specs.Planned.{plan_of}
use Rattle.plan_reader.specs.Search.{refusal_before, refusal_behind, cycle_refusal}
use Rattle.plan_reader.specs.Reading.{Reads, ReadsBy, AnswersBy, Answer, answer_to, Refuses}
use Rattle.command_answers.specs.Causes.{HasBytes, IsFileOf, IsNoFileOf}

-- ---- a file that is too long

long_by : (bytes : List ℕ) (b : Bool) → nat_lt max_file_bytes (length bytes) ≡ b → cond b TooLong (Bytes bytes) ≡ TooLong → Reads bytes (Err refusal.TooLong)
long_by bytes true e long = rw e refl
long_by bytes false e long = absurd (cc long)

in_too_long : (files : Folder) (name : List ℕ) → TooLong ≡ reading (file_of files name) max_file_bytes → IsNoFileOf (Some files) name refusal.TooLong
in_too_long files name e = at (file_of files name) refl e
  where
    at : (found : Option (List ℕ)) → file_of files name ≡ found → TooLong ≡ reading found max_file_bytes → IsNoFileOf (Some files) name refusal.TooLong
    at None f long = absurd (cc long)
    at (Some bytes) f long = (bytes, f, long_by bytes (nat_lt max_file_bytes (length bytes)) refl (sym long))

of_length : (bytes : List ℕ) → length bytes ≡ 4194305 → Reads bytes (Err refusal.TooLong)
of_length bytes e = rw e refl

untold : (n : ℕ) → n ≡ 4194305 → (name : List ℕ) → IsNoFileOf None name refusal.TooLong
untold n e name = (replicate n 0, tt, of_length (replicate n 0) (length-replicate n 0 ∙ e))

pub too_long_is_refused : (known : Option Folder) (name : List ℕ) (read : Read) → read ≡ reads.TooLong → ReadsFrom known name max_file_bytes (Ok read) → IsNoFileOf known name refusal.TooLong
too_long_is_refused None name read e h = untold 4194305 refl name
too_long_is_refused (Some files) name read e h = in_too_long files name (ap read_as (sym e) ∙ h)

-- ---- a file of so many bytes

bytes_by : (files : Folder) (name read bytes : List ℕ) (b : Bool) → file_of files name ≡ Some bytes → Bytes read ≡ cond b TooLong (Bytes bytes) → file_of files name ≡ Some read
bytes_by files name read bytes true f e = absurd (cc e)
bytes_by files name read bytes false f e = f ∙ ap Some (let same : Bytes read ≡ Bytes bytes = e in cc same)

has_bytes : (known : Option Folder) (name : List ℕ) (read : Read) (bytes : List ℕ) → read ≡ reads.Bytes bytes → ReadsFrom known name max_file_bytes (Ok read) → HasBytes known name bytes
has_bytes None name read bytes e h = tt
has_bytes (Some files) name read bytes e h = at (file_of files name) refl (ap read_as (sym e) ∙ h)
  where
    at : (found : Option (List ℕ)) → file_of files name ≡ found → Bytes bytes ≡ reading found max_file_bytes → file_of files name ≡ Some bytes
    at None f e = absurd (cc e)
    at (Some found) f e = bytes_by files name bytes found (nat_lt max_file_bytes (length found)) f e

pub file_of_plan : (known : Option Folder) (name : List ℕ) (read : Read) (bytes : List ℕ) → read ≡ reads.Bytes bytes → ReadsFrom known name max_file_bytes (Ok read)
    → (given : List ℕ) → given ≡ bytes → (plan : PlanView) → Reads given (Ok plan) → IsFileOf known name plan
file_of_plan known name read bytes e h given same plan said = (bytes, has_bytes known name read bytes e h, subst (λ (x : List ℕ). Reads x (Ok plan)) same said)

pub refused_at : (known : Option Folder) (name : List ℕ) (read : Read) (bytes : List ℕ) → read ≡ reads.Bytes bytes → ReadsFrom known name max_file_bytes (Ok read)
    → (given : List ℕ) → given ≡ bytes → (f : PlanFail) (r : PlanRefusal) → f ≡ fail.Refused r → Refuses (Reads given) f → IsNoFileOf known name r
refused_at known name read bytes e h given same f r is refused = (bytes, has_bytes known name read bytes e h, subst (λ (x : List ℕ). Refuses (Reads x) (fail.Refused r)) same (subst (Refuses (Reads given)) is refused))

-- ---- a text has one answer

-- what the law says that is called
abbrev pub FirstCycleOnce : Type 0
FirstCycleOnce = (d : Dependencies) (a b : Option ℕ) → IsFirstCycle d a → IsFirstCycle d b → a ≡ b

module _ (once : FirstCycleOnce) where
  answers_once : (found : Option PlanRefusal) (d : _) (a b : Answer) → AnswersBy found d a → AnswersBy found d b → a ≡ b
  answers_once (Some r) d a b x y = x ∙ sym y
  answers_once None d a b x y =
      let same = once (dependencies_of d) x.0 y.0 x.1 y.1 in
      x.2 ∙ (ap (λ (first : Option ℕ). answer_to (option_or (cycle_refusal first) (refusal_behind d)) (plan_of d)) same ∙ sym y.2)

  reads_by_once : (read : Result _ PlanRefusal) (a b : Answer) → ReadsBy read a → ReadsBy read b → a ≡ b
  reads_by_once (Err r) a b x y = x ∙ sym y
  reads_by_once (Ok d) a b x y = answers_once (refusal_before d) d a b x y

  reads_once : (bytes : List ℕ) (a b : Answer) → Reads bytes a → Reads bytes b → a ≡ b
  reads_once bytes a b x y = reads_by_once (document_reading bytes) a b x y

  -- a file is one plan, and isn't refused
  pub one_file : (bytes : List ℕ) (plan found : PlanView) → Reads bytes (Ok plan) → Reads bytes (Ok found) → found ≡ plan
  one_file bytes plan found x y = let e = reads_once bytes (Ok found) (Ok plan) y x in cc e

  pub no_refusal : (bytes : List ℕ) (plan : PlanView) (r : PlanRefusal) → Reads bytes (Ok plan) → Reads bytes (Err r) → ⊥
  no_refusal bytes plan r x y = let e = reads_once bytes (Ok plan) (Err r) x y in cc e
