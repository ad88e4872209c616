-- A daemon serves for what is asked: a clause for each field.
use Rattle.std.specs.Prelude.{◌≡◌, ◌≤◌, All, Contains}
use Rattle.daemon_requirements.specs.RequirementsView.{RequirementsView}

pub record Covers (daemon asked : RequirementsView) : Type 0 where
  pub executable : daemon.executable ≡ asked.executable
  pub heap_mb : asked.heap_mb ≤ daemon.heap_mb
  -- each argument asked for is among the daemon's
  pub args : All (Contains daemon.args) asked.args
  -- each pair asked for, of a name and a value, is among the daemon's
  pub properties : All (Contains daemon.properties) asked.properties
  pub variables : All (Contains daemon.variables) asked.variables
  pub debug : daemon.debug ≡ asked.debug
  pub assertions : daemon.assertions ≡ asked.assertions
  pub encoding : daemon.encoding ≡ asked.encoding
  pub keep : daemon.keep ≡ asked.keep
