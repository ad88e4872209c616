use Rattle.std.proofs.Common.{refl}
use Rattle.daemon_requirements.specs.RequirementsView.{requirements_view}
use Rattle.daemon_requirements.specs.Covers.{Covers}
use Rattle.daemon_requirements.proofs.Coverings.{not_served}
use Rattle.daemon_requirements.proofs.requirement.Requirements.covers.Goals as goal

pub returns-then-not-serves-3 : goal.returns-then-not-serves-3
returns-then-not-serves-3 c = rw (← c.self.view_is, ← c.asked.view_is, ← c.get-daemon.ensures, ← c.get-asked.ensures) (not_served c.serves-3.ensures c.if-not-serves-3.true (λ covers. covers.args))

pub returns-then-not-serves-4 : goal.returns-then-not-serves-4
returns-then-not-serves-4 c = rw (← c.self.view_is, ← c.asked.view_is, ← c.get-daemon.ensures, ← c.get-asked.ensures) (not_served c.serves-4.ensures c.if-not-serves-4.true (λ covers. covers.properties))

pub returns-then-not-serves-5 : goal.returns-then-not-serves-5
returns-then-not-serves-5 c = rw (← c.self.view_is, ← c.asked.view_is, ← c.get-daemon.ensures, ← c.get-asked.ensures) (not_served c.serves-5.ensures c.if-not-serves-5.true (λ covers. covers.variables))

pub returns : goal.returns
returns c =
    let covers : Covers (requirements_view c.get-daemon.result.now) (requirements_view c.get-asked.result.now) = record {
      executable = c.serves.ensures.0 c.if-not-serves.false;
      heap_mb = c.serves-2.ensures.0 c.if-not-serves-2.false;
      args = c.serves-3.ensures.0 c.if-not-serves-3.false;
      properties = c.serves-4.ensures.0 c.if-not-serves-4.false;
      variables = c.serves-5.ensures.0 c.if-not-serves-5.false;
      debug = c.serves-6.ensures.0 c.if-not-serves-6.false;
      assertions = c.serves-7.ensures.0 c.if-not-serves-7.false;
      encoding = c.serves-8.ensures.0 c.if-not-serves-8.false;
      keep = c.serves-9.ensures.0 c.if-not-serves-9.false;
    } in
    rw (← c.self.view_is, ← c.asked.view_is, ← c.get-daemon.ensures, ← c.get-asked.ensures) (λ _. covers, λ _. refl)
