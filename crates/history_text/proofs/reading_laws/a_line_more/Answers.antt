use Rattle.history_text.proofs.lemmas.TextLaws.{first_wrong, second_wrong, line_wrong, behind_end}
use Rattle.history_text.proofs.reading_laws.a_line_more.Goals as goal

pub returns : goal.returns
returns c = record { first = first_wrong; second = second_wrong; wrong = line_wrong; behind = behind_end }
