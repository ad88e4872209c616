use Rattle.history_text.proofs.lemmas.ReadLaws.{given_back}
use Rattle.history_text.proofs.reading_laws.written_histories_are_read_back.Goals as goal

pub returns : goal.returns
returns c = given_back
