-- A daemon that was started with what is asked.
use Rattle.std.proofs.Common.{refl, arith}
use Rattle.std.proofs.lemmas.List.Elements.{All-contains_itself}
use Rattle.daemon_requirements.specs.RequirementsView.{RequirementsView}
use Rattle.daemon_requirements.specs.Covers.{Covers}

pub covers_itself : (r : RequirementsView) → Covers r r
covers_itself r = record {
  executable = refl;
  heap_mb = omega arith;
  args = All-contains_itself r.args;
  properties = All-contains_itself r.properties;
  variables = All-contains_itself r.variables;
  debug = refl;
  assertions = refl;
  encoding = refl;
  keep = refl;
}
