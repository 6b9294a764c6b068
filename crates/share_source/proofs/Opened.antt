-- How reads lead to an extension block.
use Rattle.std.proofs.Common.{ℕ, ◌+◌, ◌≤◌, List, [], ◌∷◌, ◌++◌, refl, subst, arith}
use Rattle.std.proofs.lemmas.List.Elements.{Contains-append_left, Contains-push}
use Rattle.cap_text.specs.Cap.{VerifyCapValue}
use Rattle.share_verify.specs.CapBlock.{IsUebFor}
use Rattle.share_reading.specs.Opening.{Advances, Continues, next_offset}
use Rattle.share_reading.specs.OpeningReads.{Brought, IsLedToBy}
use Rattle.share_reading.specs.declared.block.Opened.{Opened}
use Rattle.share_reading.specs.declared.opening.Opening.{Opening}
use Rattle.share_reading.specs.declared.opening.Opening.TheVariants.{Start, Second, Header, Block}
use Rattle.share_reading.specs.declared.opening.Progress.TheVariants.{Next, Done}
use Rattle.share_reading.proofs.ReadLemmas.{lead_on}
use Rattle.share_source.specs.Block.{IsNoBlock, IsStopped}
use Rattle.share_source.specs.Reads.{Brings, Fails, Gives}

-- how many reads lead to an opening at least
abbrev pub rank : Opening → ℕ
rank Start = 0
rank (Second start) = 1
rank (Header h) = 2
rank (Block b) = 3

pub rank_few : (o : Opening) → rank o ≤ 3
rank_few Start = omega arith
rank_few (Second start) = omega arith
rank_few (Header h) = omega arith
rank_few (Block b) = omega arith

rank_rises : (old new : Opening) (bytes : List ℕ) → Continues old bytes new → rank old + 1 ≤ rank new
rank_rises Start (Second start) bytes c = omega arith
rank_rises Start (Header h) bytes c = omega arith
rank_rises (Second start) (Header h) bytes c = omega arith
rank_rises (Header h) (Block b) bytes c = omega arith
rank_rises Start Start bytes c = absurd c
rank_rises Start (Block b) bytes c = absurd c
rank_rises (Second start) Start bytes c = absurd c
rank_rises (Second start) (Second other) bytes c = absurd c
rank_rises (Second start) (Block b) bytes c = absurd c
rank_rises (Header h) Start bytes c = absurd c
rank_rises (Header h) (Second start) bytes c = absurd c
rank_rises (Header h) (Header i) bytes c = absurd c
rank_rises (Block b) Start bytes c = absurd c
rank_rises (Block b) (Second start) bytes c = absurd c
rank_rises (Block b) (Header h) bytes c = absurd c
rank_rises (Block b) (Block d) bytes c = absurd c

-- the bytes with which an opening ends are the extension block
pub ended_by : (cap : VerifyCapValue) (o : Opening) (bytes : List ℕ) (opened : Opened) → Advances cap o bytes (Done opened) → IsUebFor cap bytes opened.ueb
ended_by cap (Block b) bytes opened a = a.1.ueb
ended_by cap Start bytes opened a = absurd a
ended_by cap (Second start) bytes opened a = absurd a
ended_by cap (Header h) bytes opened a = absurd a

-- reads of the share led to the opening, so many at most
pub record IsUnderway {B : Type 0} (gives : Gives B) (position : ℕ) (old : B) (opening : Opening) (done : ℕ) (new : B) : Type 0 where
  pub reads : List Brought
  pub brings : Brings gives position old reads new
  pub led : IsLedToBy reads opening
  pub far : done ≤ rank opening

module _ {B : Type 0} (gives : Gives B) (fails : Fails B) (position : ℕ) where
  pub begins : (b : B) → IsUnderway gives position b Start 0 b
  begins b = record { reads = []; brings = refl; led = tt; far = omega arith }

  brings_more : (old mid new : B) (reads : List Brought) (read : Brought) → Brings gives position old reads mid → gives mid position read.0 read.1 new → Brings gives position old (reads ++ read ∷ []) new
  brings_more old mid new [] read b g = (new, subst (λ (x : B). gives x position read.0 read.1 new) b g, refl)
  brings_more old mid new (first ∷ reads) read b g = (b.0, b.1, brings_more b.0 mid new reads read b.2 g)

  pub goes_on : (cap : VerifyCapValue) (old mid new : B) (o next : Opening) (done : ℕ) (bytes : List ℕ) → IsUnderway gives position old o done mid → gives mid position (next_offset o) bytes new
      → Advances cap o bytes (Next next) → IsUnderway gives position old next (done + 1) new
  goes_on cap old mid new o next done bytes u g a =
      let read : Brought = (next_offset o, bytes) in
      record {
        reads = u.reads ++ read ∷ [];
        brings = brings_more old mid new u.reads read u.brings g;
        led = lead_on cap u.reads (u.reads ++ read ∷ []) o next bytes u.led a (λ r among. Contains-append_left u.reads (read ∷ []) r among) (Contains-push u.reads read);
        far = (let more : rank o + 1 ≤ rank next = rank_rises o next bytes a.1 in omega (arith, u.far, more));
      }

  pub stops : (cap : VerifyCapValue) (old mid new : B) (o : Opening) (done : ℕ) → IsUnderway gives position old o done mid → IsStopped gives fails cap position o mid new → IsNoBlock gives fails cap position old new
  stops cap old mid new o done u s = record { reads = u.reads; mid = mid; brings = u.brings; opening = o; led = u.led; stopped = s }
