use Rattle.std.proofs.Common.{◌∙◌, sym, ap}
use Rattle.daemon_protocol.proofs.Parts.{framed, no_length, other_length, own_length}
use Rattle.daemon_protocol.proofs.bodies.request_with.Goals as goal

pub returns-then-bytes-lt2 : goal.returns-then-bytes-lt2
returns-then-bytes-lt2 c = no_length _ _ _ _ c.if-bytes-lt2.true

pub returns-then-from_be_bytes-name : goal.returns-then-from_be_bytes-name
returns-then-from_be_bytes-name c = other_length _ _ _ c.from_be_bytes.result _ c.if-bytes-lt2.false c.from_be_bytes.ensures c.if-from_be_bytes-name.true

pub returns-in-Some : goal.returns-in-Some
returns-in-Some c =
    ap (framed c.args.unit c.args.keep c.args.action) (sym c.in-Some.is)
    ∙ own_length _ _ _ c.from_be_bytes.result _ _ c.if-bytes-lt2.false c.from_be_bytes.ensures c.if-from_be_bytes-name.false c.in_ok-file.ensures

pub returns-in-None : goal.returns-in-None
returns-in-None c =
    ap (framed c.args.unit c.args.keep c.args.action) (sym c.in-None.is)
    ∙ own_length _ _ _ c.from_be_bytes.result _ _ c.if-bytes-lt2.false c.from_be_bytes.ensures c.if-from_be_bytes-name.false c.in_ok-file.ensures
