use Rattle.std.proofs.Common.{◌∙◌, rules}
use Rattle.file_access.proofs.Gathering.{gathers_next}
use Rattle.file_access.proofs.file_bytes.FileBytes.read_more.Goals as goal

pub returns-clause-read : goal.returns-clause-read
returns-clause-read g c =
    let read = c.in_ok-read.ensures in
    gathers_next _ _ _ c.self.inside.room.items _ _ _ c.self.view_is (read.front ∙ c.in_ok-grow.ensures.front) (search rules) read.ok read.end
