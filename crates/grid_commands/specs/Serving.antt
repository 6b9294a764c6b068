-- What is served by the words of a command line, for a private clause.
use Rattle.std.specs.Prelude.{◌≡◌, Bool, true, false, option_map}
use Rattle.share_folders.specs.declared.folder.Durability.{Durability}
use Rattle.share_folders.specs.declared.folder.Durability.TheVariants.{Synced, Unsynced}
use Rattle.grid_serve.specs.declared.folder.Serve.{Serve}
use Rattle.grid_words.specs.declared.words.ServeWords.{ServeWords}

-- how shares are closed, by whether that may be before they are on the disk
abbrev pub durability_by : Bool → Durability
durability_by true = Unsynced
durability_by false = Synced

pub record IsServeBy (words : ServeWords) (serve : Serve) : Type 0 where
  pub folder : serve.folder.now ≡ words.folder.now
  pub listen : serve.listen.now ≡ words.listen.now
  pub anyone : serve.anyone ≡ words.anyone
  pub room : serve.room ≡ words.room
  pub mark : option_map (λ line. line.now) serve.mark ≡ option_map (λ line. line.now) words.mark
  pub durability : serve.durability ≡ durability_by words.no_sync
  pub verbose : serve.verbose ≡ words.verbose
