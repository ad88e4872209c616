use Rattle.std.proofs.Common.{◌≡◌, drop}
use Rattle.item_actions.specs.Forms.{is_file_name}
use Rattle.item_actions.proofs.FileNames.{goes_on}
use Rattle.item_actions.proofs.forms.is_file_name.Given as goal

abbrev pub invariant-loop-byte : goal.invariant-loop-byte
invariant-loop-byte l = is_file_name l.bytes ≡ goes_on l.part (drop l.byte-index l.bytes)
