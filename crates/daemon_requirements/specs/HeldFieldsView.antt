-- Fields, wherever they lie.
use Rattle.std.specs.Arc.{arc_value}
use Rattle.daemon_requirements.specs.declared.fields.RequirementFields.{RequirementFields}
use Rattle.daemon_requirements.specs.declared.held_fields.Held.{Held}
use Rattle.daemon_requirements.specs.declared.held_fields.Held.TheVariants.{Own, Shared}

abbrev pub fields_in : Held → RequirementFields
fields_in (Own fields) = fields
fields_in (Shared fields) = arc_value fields
