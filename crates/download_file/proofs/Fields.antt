-- The fields of a file, as contracts see them.
use Rattle.download_file.specs.State.{FileState, file_state}
use Rattle.download_file.specs.declared.file.PartialFile.TheInside.{Inside}

abbrev pub seen : Inside → FileState
seen f =
    file_state f.handout f.plan.first f.plan.end f.taken f.readers.items f.live.items
    f.aside.items f.groups.items
