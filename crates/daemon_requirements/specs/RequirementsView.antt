-- Requirements, without where their lists lie in memory.
use Rattle.std.specs.Prelude.{◌≢◌, ◌≤◌, ℕ, Bool, List, AllPairs}
use Rattle.item_actions.specs.declared.keep_alive.KeepAlive.{KeepAlive}
use Rattle.daemon_requirements.specs.declared.fields.Pair.{Pair}
use Rattle.daemon_requirements.specs.declared.fields.RequirementFields.{RequirementFields}
use Rattle.daemon_requirements.specs.declared.requirement.TheConstants.{MAX_HEAP_MB}

pub record RequirementsView : Type 0 where
  pub executable : List ℕ
  pub heap_mb : ℕ
  pub args : List (List ℕ)
  pub properties : List Pair
  pub variables : List Pair
  pub debug : Bool
  pub assertions : Bool
  pub encoding : List ℕ
  pub keep : KeepAlive

abbrev pub requirements_view : RequirementFields → RequirementsView
requirements_view f = record {
  executable = f.executable;
  heap_mb = f.heap_mb;
  args = f.args.items;
  properties = f.properties.items;
  variables = f.variables.items;
  debug = f.debug;
  assertions = f.assertions;
  encoding = f.encoding;
  keep = f.keep;
}

-- a heap of some MB, and of no more than the most
abbrev pub IsHeap : ℕ → Type 0
IsHeap mb = (1 ≤ mb) × (mb ≤ MAX_HEAP_MB)

-- no two pairs have one name
abbrev pub HasDistinctNames : List Pair → Type 0
HasDistinctNames pairs = AllPairs (λ p q. p.name ≢ q.name) pairs

-- a daemon can be asked for with these
pub record IsRequirements (p : RequirementsView) : Type 0 where
  pub heap_mb : IsHeap p.heap_mb
  pub properties : HasDistinctNames p.properties
  pub variables : HasDistinctNames p.variables
