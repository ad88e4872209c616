use Rattle.std.proofs.Common.{◌≤◌, length, rules, subst, ap}
use Rattle.daemon_protocol.specs.Spelling.{IsValid}
use Rattle.daemon_protocol.proofs.Names.{short}
use Rattle.daemon_protocol.proofs.encoding.body_len.Goals as goal

pub overflow_add-result-in-Request-2 : goal.overflow_add-result-in-Request-2
overflow_add-result-in-Request-2 c =
    let few : length c.in-Request.request.file ≤ 255 = short c.in-Request.request.file (subst IsValid c.in-Request.is c.requires) in
    let same = ap length c.bytes.ensures in
    search rules
