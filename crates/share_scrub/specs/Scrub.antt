-- What a scrub of a folder finds.
use Rattle.std.specs.Prelude.{◌≡◌, List, Option, Some}
use Rattle.share_store.specs.Shelf.{ShareKey}
use Rattle.share_files.specs.declared.name.ShareFile.{ShareFile}
use Rattle.share_scrub.specs.declared.folder.Action.TheVariants.{Left, Done, Failed}
use Rattle.share_scrub.specs.declared.folder.State.{State}
use Rattle.share_scrub.specs.declared.folder.State.TheVariants.{Whole, Damaged, Unreadable, Odd}
use Rattle.share_scrub.specs.declared.folder.State.TheVariants.{LeftOpen, Aside, HalfAside}

-- the files that are still to be looked at, and the share of the last one that was whole
pub record ScrubState : Type 0 where
  pub left : List ShareFile
  pub whole : Option ShareKey

-- the share of the last file that was whole, once a file of this share is found
abbrev pub whole_after : ShareKey → State → Option ShareKey → Option ShareKey
whole_after key Whole whole = Some key
whole_after key (Damaged _) whole = whole
whole_after key (Unreadable _) whole = whole
whole_after key Odd whole = whole
whole_after key (LeftOpen _ _) whole = whole
whole_after key (Aside _ _) whole = whole
whole_after key (HalfAside _ _) whole = whole

-- a file that was set aside is removed only where the same share was found whole
abbrev pub IsKeptUnless : Option ShareKey → ShareKey → State → Type 0
IsKeptUnless whole key (Aside _ Done) = whole ≡ Some key
IsKeptUnless whole key (Aside _ Left) = Unit
IsKeptUnless whole key (Aside _ (Failed _)) = whole ≡ Some key
IsKeptUnless whole key Whole = Unit
IsKeptUnless whole key (Damaged _) = Unit
IsKeptUnless whole key (Unreadable _) = Unit
IsKeptUnless whole key Odd = Unit
IsKeptUnless whole key (LeftOpen _ _) = Unit
IsKeptUnless whole key (HalfAside _ _) = Unit
