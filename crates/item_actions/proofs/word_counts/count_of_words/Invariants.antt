use Rattle.std.proofs.Common.{◌≡◌, ◌*◌, count_by, cond, get_or}
use Rattle.std.specs.List.{range_with_len}
use Rattle.item_actions.specs.Bytes.{begins_word, follows_space}
use Rattle.item_actions.proofs.word_counts.count_of_words.Given as goal

abbrev pub invariant-loop-block : goal.invariant-loop-block
invariant-loop-block l = record {
  counted : l.total ≡ count_by (begins_word l.bytes) (range_with_len 0 (32 * l.block));
  last : get_or l.before 31 0 ≡ cond (follows_space l.bytes (32 * l.block)) 255 0;
}

abbrev pub invariant-loop-place : goal.invariant-loop-place
invariant-loop-place l = l.total ≡ count_by (begins_word l.bytes) (range_with_len 0 l.place)
