-- What holds of a document whose tables give no refusal.
use Rattle.std.specs.Prelude.{◌≡◌, ◌<◌, true, All, length, MatchOption, Option}
use Rattle.toml.specs.Data.{Data}
use Rattle.item_actions.specs.Forms.{is_file_name}
use Rattle.plan_table.specs.Forms.{Text, is_name}
use Rattle.plan_table.specs.Keys.{projects_of, tasks_of, name_of, actions_of, fetch_of, items_of, file_of}

-- there is no fetch, or its file has the form of a file's name
abbrev pub IsFetch : Option Text → Type 0
IsFetch fetch = MatchOption fetch (Unit {0}) (λ file. is_file_name file ≡ true)

pub record IsFormedAction (a : Data) : Type 0 where
  pub some_item : 0 < length (items_of a)
  pub fetch : IsFetch (fetch_of a)
  pub files : All (λ i. is_file_name (file_of i) ≡ true) (items_of a)

pub record IsFormed (d : Data) : Type 0 where
  pub projects : All (λ p. is_name (name_of p) ≡ true) (projects_of d)
  pub tasks : All (λ t. is_name (name_of t) ≡ true) (tasks_of d)
  pub actions : All (λ t. All IsFormedAction (actions_of t)) (tasks_of d)
