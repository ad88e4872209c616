use Rattle.std.proofs.Common.{◌≡◌, take}
use Rattle.std.specs.List.{list_all}
use Rattle.plan_table.specs.Forms.{is_name_byte}
use Rattle.plan_table.proofs.forms.are_name_bytes.Given as goal

abbrev pub invariant-loop-byte : goal.invariant-loop-byte
invariant-loop-byte l = l.are ≡ list_all is_name_byte (take l.byte-index l.bytes)
