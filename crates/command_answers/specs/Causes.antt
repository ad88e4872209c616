-- Why a call refuses.
use Rattle.std.specs.Prelude.{ℕ, ◌≡◌, List, Option, None, Some, Ok, Err}
use Rattle.item_actions.specs.Files.{Folder, file_of}
use Rattle.file_access.specs.SinkView.{Rises}
use Rattle.plan_table.specs.declared.refusals.PlanRefusal.{PlanRefusal}
use Rattle.plan_reader.specs.PlanView.{PlanView}
use Rattle.plan_reader.specs.Reading.{Reads}
use Rattle.command_answers.specs.declared.status.Status.{Status}
use Rattle.command_answers.specs.declared.status.Status.TheVariants.{BadPlan, NoPlan, PlanFault, NoMemory}

-- the file of this name has these bytes, where the files are known
abbrev pub HasBytes : Option Folder → List ℕ → List ℕ → Type 0
HasBytes None name bytes = Unit {0}
HasBytes (Some files) name bytes = file_of files name ≡ Some bytes

-- there is no file of this name, where the files are known
abbrev pub LacksFile : Option Folder → List ℕ → Type 0
LacksFile None name = Unit {0}
LacksFile (Some files) name = file_of files name ≡ None

-- the file of this name is this plan
abbrev pub IsFileOf : Option Folder → List ℕ → PlanView → Type 0
IsFileOf known name plan = (bytes : List ℕ) × HasBytes known name bytes × Reads bytes (Ok plan)

-- the file of this name is no plan, and this is its first refusal
abbrev pub IsNoFileOf : Option Folder → List ℕ → PlanRefusal → Type 0
IsNoFileOf known name refusal = (bytes : List ℕ) × HasBytes known name bytes × Reads bytes (Err refusal)

-- Why no plan is read under a name: it is refused, there is none, or the outside failed.
abbrev pub IsFileCause : Option Folder → ℕ → ℕ → List ℕ → Status → Type 0
IsFileCause known before after name (BadPlan refusal) = IsNoFileOf known name refusal
IsFileCause known before after name NoPlan = LacksFile known name
IsFileCause known before after name PlanFault = Rises before after
IsFileCause known before after name _ = ⊥

-- memory was wanting, or P holds
abbrev pub OrNoMemory : Type 0 → Status → Type 0
OrNoMemory P NoMemory = Unit {0}
OrNoMemory P status = P
