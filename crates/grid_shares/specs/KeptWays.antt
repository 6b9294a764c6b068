-- The words of a put, with the ways of its grid.
use Rattle.std.specs.Prelude.{◌≡◌, Option, None, Some, IfSome}
use Rattle.std.specs.Option.{option_or}
use Rattle.file_encoding.specs.Params.{UploadParameters}
use Rattle.grid_rules.specs.Ways.{AreWays}
use Rattle.grid_shares.specs.declared.kept_ways.Found.{Found}
use Rattle.grid_shares.specs.declared.kept_ways.Found.TheVariants as found
use Rattle.grid_words.specs.declared.words.NumberWords.{NumberWords}
use Rattle.grid_words.specs.declared.words.PutWords.{PutWords}

-- the numbers that are written, and those of the ways in place of the others
abbrev pub numbers_after : NumberWords → Option UploadParameters → NumberWords
numbers_after words None = words
numbers_after words (Some ways) = record {
  needed = option_or words.needed (Some ways.needed);
  happy = option_or words.happy (Some ways.happy);
  total = option_or words.total (Some ways.total);
  max_segment = option_or words.max_segment (Some ways.max_segment);
}

-- Words are asked with the numbers of the grid's ways where they write none; all else is as they
-- write it. Which ways a grid has is what the system says.
pub record IsAskedBy (words asked : PutWords) : Type 0 where
  pub ways : Option UploadParameters
  pub are : IfSome ways AreWays
  pub others : asked ≡ record words { files = asked.files; numbers = asked.numbers }
  pub files : asked.files.items ≡ words.files.items
  pub numbers : asked.numbers ≡ numbers_after words.numbers ways

-- the ways that were found, for a private clause
abbrev pub ways_found : Found → Option UploadParameters
ways_found found.Nothing = None
ways_found (found.Ways ways) = Some ways
ways_found found.Other = None
