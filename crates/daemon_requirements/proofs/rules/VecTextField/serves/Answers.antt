use Rattle.std.proofs.lemmas.Slice.Eq.{bytes_eq-Decides}
use Rattle.daemon_requirements.proofs.Membership.{all_among_Decides}
use Rattle.daemon_requirements.proofs.rules.VecTextField.serves.Goals as goal

pub returns-in-Superset : goal.returns-in-Superset
returns-in-Superset c =
    rw (c.in-Superset.is, c.has_texts.ensures, c.deref.ensures.value, c.deref-in-Superset.ensures.value) (all_among_Decides bytes_eq-Decides _ _)
