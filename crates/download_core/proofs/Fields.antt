-- The fields of a reading, as contracts see them.
use Rattle.download_core.specs.ReadingState.{ReadingState, reading_state}
use Rattle.download_core.specs.declared.file_reading.FileReading.TheInside.{Inside}

abbrev pub seen : Inside → ReadingState
seen r = reading_state r.file r.holdings.items
