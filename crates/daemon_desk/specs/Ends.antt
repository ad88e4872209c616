-- How serving ends where the next frame can't be taken.
use Rattle.file_access.specs.declared.files.DeskFail.{DeskFail}
use Rattle.file_access.specs.declared.files.DeskFail.TheVariants as fails
use Rattle.daemon_desk.specs.declared.served_stream.Served.{Served}
use Rattle.daemon_desk.specs.declared.served_stream.Served.TheVariants.{SourceFault, NoMemory}

abbrev pub served_of : DeskFail → Served
served_of fails.Failed = SourceFault
served_of fails.NoMemory = NoMemory
