-- The chip that a vector runs on.
use Rattle.rules.specs.declared.Chip.{Chip}
use Rattle.rules.specs.Chip.{chip55, chip_of}
use Rattle.vectors.specs.declared.Way.{Way}
use Rattle.vectors.specs.declared.Way.TheVariants.{Run, AnyRun}

abbrev pub chip_by : Way → Chip
chip_by Run = chip55
chip_by (AnyRun setup) = chip_of setup
