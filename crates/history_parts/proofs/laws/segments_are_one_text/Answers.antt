use Rattle.history_parts.proofs.Segments.{lines_in_turn, text_in_turn}
use Rattle.history_parts.proofs.laws.segments_are_one_text.Goals as goal

pub returns : goal.returns
returns c = record {
  lines = lines_in_turn;
  text = λ workers max_leases parallel locks h ss turn cuts. text_in_turn h ss turn cuts workers max_leases parallel locks;
}
