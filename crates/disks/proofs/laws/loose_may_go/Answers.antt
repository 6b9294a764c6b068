use Rattle.std.proofs.Common.{◌≡◌, [], ◌∷◌, refl, sym}
use Rattle.std.specs.Prelude.{Some, true, false, codes}
use Rattle.std.proofs.lemmas.Slice.Eq.{bytes_eq-Decides}
use Rattle.std.proofs.lemmas.List.Elements.{All-cons, All-nil}
use Rattle.disks.specs.Names.{Relied, lasts}
use Rattle.disks.specs.Folder.{Folder, StandsFor}
use Rattle.disks.specs.Steps.{Renames}
use Rattle.disks.specs.Changed.{renamed}
use Rattle.disks.proofs.Changes.{renames}
use Rattle.disks.proofs.Held.{differ}
use Rattle.disks.proofs.Polite.{aside_polite}
use Rattle.disks.proofs.laws.loose_may_go.Goals as goal

abbrev none : Relied
none name bytes = false

-- each name stands for a file of these bytes
abbrev folder : Folder
folder = record {
  file = λ i. record { bytes = 7 ∷ []; is_synced = true; is_finished = true };
  found = λ name. Some 0;
  left = λ name. Some 0 ∷ [];
  own = λ name. false;
}

lasting : lasts (codes "s") ≡ true
unfolding lasts
lasting = refl

step : Renames (codes "s") (codes "t") folder (renamed (codes "s") (codes "t") 0 folder)
step = renames (codes "s") (codes "t") 0 folder (λ same. differ (sym ((bytes_eq-Decides (codes "s") (codes "t")).1 same))) refl

pub returns : goal.returns
returns c = record {
  relied = none;
  before = folder;
  after = record (renamed (codes "s") (codes "t") 0 folder) { own = λ name. false };
  name = codes "s";
  bytes = 7 ∷ [];
  lasting = lasting;
  loose = refl;
  durable = record {
    now = refl;
    later = All-cons (StandsFor folder (7 ∷ [])) (Some 0) [] refl (All-nil (StandsFor folder (7 ∷ [])));
  };
  others = aside_polite none (codes "s") (codes "t") folder (renamed (codes "s") (codes "t") 0 folder) 0 (λ name. false) step refl
      (record { not_from = refl; not_to = refl; foreign = λ name mine. absurd (differ (sym mine)) }) (λ kept relies. absurd (differ (sym relies.1))) (λ kept relies. absurd (differ (sym relies.1)));
  gone = step.gone;
}
