use Rattle.grid_words.proofs.Added.{requiring}
use Rattle.grid_words.proofs.catalogue_arguments.caps.Goals as goal

pub returns : goal.returns
returns c = c.of_whole_files.ensures _ (requiring c.option-arg.result c.in_ok-requires_arg.field-0 _ _ c.in_ok-requires_arg.ensures c.option-arg.ensures)
