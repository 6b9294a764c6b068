-- What was seen of a file, by its kind, and after more was done.
use Rattle.std.proofs.Common.{◌≡◌, ℕ, List, Option, None, Some, Result, Ok, Err, IfOk, IfSome, sym, subst}
use Rattle.share_files.specs.declared.acts.Act.{Act}
use Rattle.share_files.specs.declared.name.FileKind.{FileKind}
use Rattle.share_files.specs.declared.name.FileKind.TheVariants.{Closed, Open, HalfAside, Aside}
use Rattle.share_files.specs.declared.name.ShareFile.{ShareFile}
use Rattle.share_files.specs.Acts.{Was}
use Rattle.share_scrub.specs.declared.folder.State.{State}
use Rattle.share_scrub.specs.Seen.{IsReadSo, IsSeen, IsSeenAs, IsSeenAside, IsSeenClosed, IsSeenHalf, IsSeenOpen, StoodThere}

-- a file that stood there stood there then
pub stood_still : (file other : ShareFile) (bytes : ℕ) (old new : List Act) → file ≡ other → ((act : Act) → Was act old → Was act new) → StoodThere file bytes old → StoodThere other bytes new
stood_still file other bytes old new same still stood =
    subst (λ (f : ShareFile). StoodThere f bytes new) same (stood.0, still _ stood.1)

-- ---- by the kind of a file

pub closed_seen : (file : ShareFile) (digest : List ℕ) (done : List Act) → file.kind ≡ Closed digest → (state : State)
    → IsSeenClosed (record { key = file.key; kind = Closed digest }) digest done state → IsSeen file state
closed_seen file digest done is state seen = (done, subst (λ (k : FileKind). IsSeenAs (record { key = file.key; kind = k }) k done state) (sym is) seen)

pub half_seen : (file : ShareFile) (digest own : List ℕ) (done : List Act) → file.kind ≡ HalfAside digest own → (state : State)
    → IsSeenHalf (record { key = file.key; kind = HalfAside digest own }) done state → IsSeen file state
half_seen file digest own done is state seen = (done, subst (λ (k : FileKind). IsSeenAs (record { key = file.key; kind = k }) k done state) (sym is) seen)

pub open_seen : (file : ShareFile) (own : Option (List ℕ)) (done : List Act) → file.kind ≡ Open own → (state : State) → IsSeenOpen file done state → IsSeen file state
open_seen file own done is state seen = (done, subst (λ (k : FileKind). IsSeenAs file k done state) (sym is) seen)

pub aside_seen : (file : ShareFile) (digest : List ℕ) (number : ℕ) (done : List Act) → file.kind ≡ Aside digest number → (state : State) → IsSeenAside file done state → IsSeen file state
aside_seen file digest number done is state seen = (done, subst (λ (k : FileKind). IsSeenAs file k done state) (sym is) seen)

pub seen_by : {E : Type 0} (file : ShareFile) (P : State → Type 0) (r : Result (Option State) E) → ((state : State) → P state → IsSeen file state) → IfOk r (λ found. IfSome found P)
    → IfOk r (λ found. IfSome found (IsSeen file))
seen_by file P (Ok None) each p = tt
seen_by file P (Ok (Some state)) each p = each state p
seen_by file P (Err e) each p = tt

-- ---- what is told of its bytes

pub read_by : {F E : Type 0} (remaining : F → Option (List ℕ)) (kind other : FileKind) (r : Result (Option State) E) → kind ≡ other → IfOk r (λ found. IfSome found (IsReadSo remaining other))
    → IfOk r (λ found. IfSome found (IsReadSo remaining kind))
read_by remaining kind other r is read = subst (λ (k : FileKind). IfOk r (λ found. IfSome found (IsReadSo remaining k))) (sym is) read

-- nothing is told of the bytes of other files than those of closed shares
abbrev pub IsOther : FileKind → Type 0
IsOther (Closed digest) = ⊥
IsOther (Open own) = Unit
IsOther (HalfAside digest own) = Unit
IsOther (Aside digest number) = Unit

pub other_read : {F E : Type 0} (remaining : F → Option (List ℕ)) (kind : FileKind) (r : Result (Option State) E) → IsOther kind → IfOk r (λ found. IfSome found (IsReadSo remaining kind))
other_read remaining kind (Err e) other = tt
other_read remaining kind (Ok None) other = tt
other_read remaining (Closed digest) (Ok (Some state)) other = absurd other
other_read remaining (Open own) (Ok (Some state)) other = tt
other_read remaining (HalfAside digest own) (Ok (Some state)) other = tt
other_read remaining (Aside digest number) (Ok (Some state)) other = tt
