use Rattle.std.proofs.Common.{sym, subst}
use Rattle.file_access.specs.PageView.{Adds}
use Rattle.leases_picture.specs.Ends.{line_of}
use Rattle.leases_picture.specs.declared.status.Status.{Status}
use Rattle.leases_picture.proofs.status.write_line.Goals as goal

pub returns-in-SourceFault : goal.returns-in-SourceFault
returns-in-SourceFault g c =
    subst (λ (s : Status). Adds (g.K.Sink.seen c.args.sink.now) c.args.page.now (g.K.Sink.seen c.text-in-SourceFault.new.sink) c.text-in-SourceFault.new.self (line_of s))
    (sym c.in-SourceFault.is) c.text-in-SourceFault.ensures
