-- What a call comes to that fails at a file.
use Rattle.std.specs.declared.io.ErrorKind.{ErrorKind}
use Rattle.std.specs.declared.io.ErrorKind.TheVariants.{NotFound}
use Rattle.share_files.specs.declared.acts.Act.{Act}
use Rattle.share_files.specs.declared.acts.Act.TheVariants.{Gone, Failed}
use Rattle.share_files.specs.declared.name.ShareFile.{ShareFile}

abbrev pub failure_of : ErrorKind → ShareFile → Act
failure_of NotFound file = Gone file
failure_of _ file = Failed file
