use Rattle.std.proofs.Common.{refl, sym, ◌∙◌}
use Rattle.history_text.proofs.lemmas.TextLaws.{one_value}
use Rattle.history_text.proofs.reading_laws.each_value_has_one_text.Goals as goal

pub returns : goal.returns
returns c = record {
  text = λ h fits. record { fits = fits; is = refl };
  one_text = λ s t h a b. a.is ∙ sym b.is;
  one_value = one_value;
}
