-- The exit status and the printed line of each way in which a call ends.
use Rattle.std.specs.Prelude.{ℕ, List, [], ◌++◌, codes, decimal}
use Rattle.plan_table.specs.declared.refusals.Part.{Part}
use Rattle.plan_table.specs.declared.refusals.Part.TheVariants.{Plan, Project, Task, Requirements}
use Rattle.plan_table.specs.declared.refusals.Place.{Place}
use Rattle.plan_table.specs.declared.refusals.Which.{Which}
use Rattle.plan_table.specs.declared.refusals.Which.TheVariants as which
use Rattle.plan_table.specs.declared.refusals.PlanRefusal.{PlanRefusal}
use Rattle.plan_table.specs.declared.refusals.PlanRefusal.TheVariants as refusal
use Rattle.plan_table.specs.First.{place_of}
use Rattle.command_answers.specs.declared.status.Status.{Status}
use Rattle.command_answers.specs.declared.status.Status.TheVariants.{Passed, TaskFailed, BadWords, BadPlan, NoPlan, PlanFault, SinkFault, BadFrame, SourceFault}
use Rattle.command_answers.specs.declared.status.Status.TheVariants.{NotLawful, NoMemory, Differs, FileFault}

abbrev pub number_of : Status → ℕ
number_of Passed = 0
number_of TaskFailed = 1
number_of BadWords = 2
number_of (BadPlan r) = 3
number_of NoPlan = 4
number_of PlanFault = 5
number_of SinkFault = 6
number_of (BadFrame place) = 7
number_of SourceFault = 8
number_of (NotLawful n) = 9
number_of NoMemory = 10
number_of (Differs n) = 11
number_of (FileFault u) = 12

-- ---- the refusal of a plan

-- with what there is too much of
abbrev pub excess_label : Which → List ℕ
excess_label which.Projects = codes "12 TooMany projects"
excess_label which.Tasks = codes "12 TooMany tasks"
excess_label which.Units = codes "12 TooMany units"
excess_label which.Requirements = codes "12 TooMany requirements"
excess_label which.Actions = codes "12 TooMany actions"
excess_label which.After = codes "12 TooMany after"
excess_label which.Lists = codes "12 TooMany lists"

-- number and name
abbrev pub label_of : PlanRefusal → List ℕ
label_of refusal.TooLong = codes "0 TooLong"
label_of refusal.NotToml = codes "1 NotToml"
label_of (refusal.UnknownKey p) = codes "2 UnknownKey"
label_of (refusal.WrongType p) = codes "3 WrongType"
label_of (refusal.Missing p) = codes "4 Missing"
label_of (refusal.BadName p) = codes "5 BadName"
label_of (refusal.Twice p) = codes "6 Twice"
label_of (refusal.NoSuchProject p) = codes "7 NoSuchProject"
label_of (refusal.NoSuchTask p) = codes "8 NoSuchTask"
label_of (refusal.Cycle p) = codes "9 Cycle"
label_of (refusal.ReleaseNotLast p) = codes "10 ReleaseNotLast"
label_of (refusal.ClassLoader p) = codes "11 ClassLoader"
label_of (refusal.TooMany w p) = excess_label w
label_of (refusal.BadRequirements p) = codes "13 BadRequirements"

abbrev pub part_word : Part → List ℕ
part_word Plan = codes "plan"
part_word Project = codes "project"
part_word Task = codes "task"
part_word Requirements = codes "requirements"

abbrev pub place_text : Place → List ℕ
place_text p = part_word p.part ++ codes " " ++ decimal p.number

abbrev pub bad_plan_line : PlanRefusal → List ℕ
bad_plan_line r = codes "bad plan " ++ label_of r ++ codes " at " ++ place_text (place_of r) ++ codes "\n"

-- ---- what is said of a history

abbrev pub lawful_line : ℕ → List ℕ
lawful_line n = codes "lawful " ++ decimal n ++ codes "\n"

abbrev pub not_lawful_line : ℕ → List ℕ
not_lawful_line n = codes "not lawful at " ++ decimal n ++ codes "\n"

-- ---- what is said of a recorded run that is driven again

abbrev pub same_line : ℕ → List ℕ
same_line n = codes "same " ++ decimal n ++ codes "\n"

abbrev pub differs_line : ℕ → List ℕ
differs_line n = codes "differs at " ++ decimal n ++ codes "\n"

abbrev pub not_read_line : ℕ → List ℕ
not_read_line u = codes "file not read " ++ decimal u ++ codes "\n"

-- ---- a refusal's line; where a run or a worker ended, nothing is printed besides the texts and the replies
abbrev pub line_of : Status → List ℕ
line_of BadWords = codes "bad words\n"
line_of (BadPlan r) = bad_plan_line r
line_of NoPlan = codes "no plan\n"
line_of PlanFault = codes "plan not read\n"
line_of SourceFault = codes "input not read\n"
line_of (NotLawful n) = not_lawful_line n
line_of (Differs n) = differs_line n
line_of (FileFault u) = not_read_line u
line_of _ = []
