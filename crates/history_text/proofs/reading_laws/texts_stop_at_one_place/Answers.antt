use Rattle.history_text.proofs.lemmas.TextLaws.{one_place, no_history}
use Rattle.history_text.proofs.reading_laws.texts_stop_at_one_place.Goals as goal

pub returns : goal.returns
returns c = record { one_place = one_place; no_history = no_history }
