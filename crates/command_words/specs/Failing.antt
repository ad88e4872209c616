-- What stands where words give no command.
use Rattle.command_words.specs.declared.commands.WordsFail.{WordsFail}
use Rattle.command_words.specs.declared.commands.WordsFail.TheVariants.{NoCommand, NoMemory}

-- memory was wanting, or P holds
abbrev pub NoMemoryOr : Type 0 → WordsFail → Type 0
NoMemoryOr P NoMemory = Unit {0}
NoMemoryOr P NoCommand = P
