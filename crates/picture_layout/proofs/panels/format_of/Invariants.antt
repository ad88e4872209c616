use Rattle.std.proofs.Common.{◌≡◌, drop}
use Rattle.picture_layout.specs.Panels.{format_from, format_of}
use Rattle.picture_layout.specs.declared.layout.TheConstants.{FORMATS}
use Rattle.picture_layout.proofs.panels.format_of.Given as goal

abbrev pub invariant-loop-format : goal.invariant-loop-format
invariant-loop-format l = format_from (drop l.format-index FORMATS.now) l.workers l.spans l.count ≡ format_of l.workers l.spans l.count
