-- A field that doesn't serve.
use Rattle.std.proofs.Common.{◌≡◌, ◌↔◌, Bool, false, IsTrue, sym, ◌∙◌}
use Rattle.std.proofs.lemmas.Bool.{true≢false}
use Rattle.daemon_requirements.specs.RequirementsView.{RequirementsView}
use Rattle.daemon_requirements.specs.Covers.{Covers}

pub not_served : {P : Type 0} {serves : Bool} {daemon asked : RequirementsView} → (IsTrue serves ↔ P) → serves ≡ false → (Covers daemon asked → P) → IsTrue false ↔ Covers daemon asked
not_served rule fails part = (λ t. absurd (true≢false (sym t)), λ covers. absurd (true≢false (sym (rule.1 (part covers)) ∙ fails)))
