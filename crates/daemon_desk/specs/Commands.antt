-- How a daemon is started.
use Rattle.std.specs.Prelude.{◌≡◌, ℕ, false, List, ◌∷◌, ◌++◌, Option, Some, None, fold, codes, if◌then◌else◌}
use Rattle.std.specs.Str.{bytes_eq}
use Rattle.std.specs.Process.{command_program, command_args, command_var, clears_env, SameProgramAndArgs, SameEnv}
use Rattle.std.specs.declared.process.command.Command.{Command}
use Rattle.daemon_requirements.specs.RequirementsView.{RequirementsView}
use Rattle.daemon_requirements.specs.declared.fields.Pair.{Pair}

-- the program of an executable, by the name of the program that starts it
abbrev pub program_of : List ℕ → List ℕ → List ℕ
program_of own executable = if bytes_eq executable (codes "self") then own else executable

-- what a variable is set to by pairs of a name and a value, the last of its name, where it was set to this before
abbrev pub set_by : List Pair → List ℕ → Option (Option (List ℕ)) → Option (Option (List ℕ))
set_by pairs name before = fold (λ said p. if bytes_eq p.name name then Some (Some p.value) else said) before pairs

-- a command got the word `worker` and these arguments
abbrev pub SetsArguments : {A : Type 0} → List (List ℕ) → Command A → Command A → Type 0
SetsArguments args old new = (command_args new ≡ command_args old ++ (codes "worker" ∷ args)) × (command_program new ≡ command_program old) × SameEnv old new

-- a command got these variables
abbrev pub SetsVariables : {A : Type 0} → List Pair → Command A → Command A → Type 0
SetsVariables pairs old new = SameProgramAndArgs old new × (clears_env new ≡ clears_env old)
    × ((name : List ℕ) → command_var new name ≡ set_by pairs name (command_var old name))

-- a command got the word `worker` with these arguments, and these variables
pub record SetsUp {A : Type 0} (args : List (List ℕ)) (pairs : List Pair) (old new : Command A) : Type 0 where
  pub program : command_program new ≡ command_program old
  pub args_are : command_args new ≡ command_args old ++ (codes "worker" ∷ args)
  pub inherits : clears_env new ≡ clears_env old
  pub variables : (name : List ℕ) → command_var new name ≡ set_by pairs name (command_var old name)

-- The command starts a daemon with what was asked for: its program, the word `worker` and its arguments, and its variables beside
-- those of the environment.
pub record IsStartOf {A : Type 0} (own : List ℕ) (asked : RequirementsView) (command : Command A) : Type 0 where
  pub program : command_program command ≡ program_of own asked.executable
  pub args : command_args command ≡ codes "worker" ∷ asked.args
  pub inherits : clears_env command ≡ false
  pub variables : (name : List ℕ) → command_var command name ≡ set_by asked.variables name None
