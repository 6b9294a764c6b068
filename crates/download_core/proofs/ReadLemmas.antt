-- Which bytes of shares are read.
use Rattle.std.proofs.Common.{◌≡◌, ℕ, ◌+◌, ◌-◌, ◌<◌, ◌≤◌, ◌⊎◌, inl, inr, Bool, true, false, List, length, Option, Some, None, refl, sym, ap, subst, ◌∙◌, arith}
use Rattle.std.specs.Prelude.{slice_get, slice_index_or}
use Rattle.std.proofs.lemmas.Bool.{cases_lt}
use Rattle.std.proofs.lemmas.Option.{slice_get-get_or, slice_get_within}
use Rattle.lemmas.proofs.Options.{one_there}
use Rattle.share_layout.specs.Geometry.{Geometry}
use Rattle.download_parts.specs.Plan.{IsPlanned}
use Rattle.download_parts.specs.declared.part.Part.{Part}
use Rattle.download_parts.specs.declared.part.Part.TheVariants.{ShareHashes, BlockTree, CiphertextTree, Data}
use Rattle.download_supply.specs.Supply.{IsSupply, SupplyState, first_of}
use Rattle.request_record.specs.declared.requests.Asked.TheVariants.{Holdings, Reading}
use Rattle.request_record.specs.declared.requests.Request.{Request}
use Rattle.download_shares.specs.Left.{IsBlamed, IsGone, IsLeft, IsOffered}
use Rattle.download_shares.specs.Right.{IsOwned, IsRight}
use Rattle.download_shares.specs.HoldingState.{HoldingsState}
use Rattle.download_shares.specs.Table.{IsHolding}
use Rattle.download_shares.specs.declared.holding.Blame.{Blame}
use Rattle.download_shares.specs.declared.holding.Holding.{Holding}
use Rattle.download_shares.proofs.Goes.{gone_stays}
use Rattle.share_reading.specs.OpeningReads.{IsLedToBy}
use Rattle.share_reading.specs.declared.opening.Opening.{Opening}
use Rattle.download_shares.specs.Opening.{nobody}
use Rattle.download_shares.specs.Reads.{IsBeginning, IsInBeginning, IsReadAt, brought_of}
use Rattle.download_shares.specs.BeginningState.{BeginningsState, IsBegun, unbegun}
use Rattle.download_shares.specs.declared.begun.Begun.{Begun}
use Rattle.download_file.specs.Asked.{HasAsked, IsPlannedRead}
use Rattle.download_file.specs.Right.{IsFile}
use Rattle.download_file.specs.State.{FileState}
use Rattle.download_file.proofs.WantedLemmas.{asked_passed}
use Rattle.download_core.specs.Reading.{AreKept}
use Rattle.download_core.specs.ReadingState.{ReadingState}
use Rattle.download_core.specs.Reads.{AsksOrReads, IsReadOfOffered, IsPlannedOrBeside, ReadsBeside, ReadsNoMore}
use Rattle.download_core.specs.State.{Found}
use Rattle.download_core.specs.Steps.{AreOpened}
use Rattle.download_core.proofs.Records.{GoesFrom}

-- ---- the share that a request asks for

-- the request at a position asks for bytes of the share of a holding
pub record IsReadOfHolding (s : HoldingsState) (position share offset len server : ℕ) : Type 0 where
  pub holding : ℕ
  pub held : Holding
  pub is : IsHolding s.table holding held
  pub of_server : server ≡ held.server
  pub of_share : share ≡ held.share
  pub read : IsReadAt s.requests.entries held position offset len

-- it asks for bytes of the share of a holding
pub record IsOwnedAt (s : HoldingsState) (r : Request) : Type 0 where
  pub holding : ℕ
  pub held : Holding
  pub is : IsHolding s.table holding held
  pub of_server : r.server ≡ held.server
  pub offset : ℕ
  pub len : ℕ
  pub asked : r.asked ≡ Reading held.share offset len

-- each request asks what a server holds, or for bytes of a share
pub asked_of : (s : HoldingsState) → IsRight s → (position : ℕ) (r : Request) → slice_get s.requests.entries position ≡ Some r → (r.asked ≡ Holdings) ⊎ IsOwnedAt s r
asked_of s right position r there = elim (cases_lt position s.servers) [
  | inl lt ↦ inl (right.first position r there lt)
  | inr le ↦ inr (behind le)
]
  where
    behind : s.servers ≤ position → IsOwnedAt s r
    behind le =
        let w = slice_get_within s.requests.entries position r there in
        let c = right.counted in
        let own : slice_get s.owners (position - s.servers) ≡ Some (slice_index_or s.owners (position - s.servers) 0) = slice_get-get_or s.owners (position - s.servers) 0 (omega (arith, le, w, c)) in
        let o = right.owned (position - s.servers) (slice_index_or s.owners (position - s.servers) 0) own in
        let at : s.servers + (position - s.servers) ≡ position = omega (arith, le) in
        let same : o.request ≡ r = one_there (slice_get s.requests.entries position) o.request r (ap (slice_get s.requests.entries) (sym at) ∙ o.there) there in
        record {
          holding = slice_index_or s.owners (position - s.servers) 0;
          held = o.held;
          is = o.is;
          of_server = ap (λ (q : Request). q.server) (sym same) ∙ o.read.of_server;
          offset = o.read.offset;
          len = o.read.len;
          asked = ap (λ (q : Request). q.asked) (sym same) ∙ o.read.asked;
        }

read_of : (s : HoldingsState) → IsRight s → (position : ℕ) (r : Request) (share offset len : ℕ) → slice_get s.requests.entries position ≡ Some r → r.asked ≡ Reading share offset len → IsReadOfHolding s position share offset len r.server
read_of s right position r share offset len there asked = elim (asked_of s right position r there) [
  | inl held ↦ (let two : Holdings ≡ Reading share offset len = sym held ∙ asked in absurd cc)
  | inr o ↦ (
      let two : Reading share offset len ≡ Reading o.held.share o.offset o.len = sym asked ∙ o.asked in
      let shares : share ≡ o.held.share = cc in
      record {
        holding = o.holding;
        held = o.held;
        is = o.is;
        of_server = o.of_server;
        of_share = shares;
        read = record { request = r; there = there; of_server = o.of_server; asked = asked ∙ ap (λ (n : ℕ). Reading n offset len) shares };
      })
]

pub begun_at : (s : BeginningsState) (holding : ℕ) (h : Holding) → length s.begun ≡ length s.holdings.table.holdings → IsHolding s.holdings.table holding h → IsBegun s holding (slice_index_or s.begun holding unbegun)
begun_at s holding h counted is = slice_get-get_or s.begun holding unbegun (let w = slice_get_within s.holdings.table.holdings holding h is in omega (arith, w, counted))

-- ---- before an extension block is accepted

pub opened_reads : (total : ℕ) (s : BeginningsState) → AreOpened total nobody s → ReadsNoMore s.holdings.requests.entries None
opened_reads total s k position r share offset len there asked =
    let o = read_of s.holdings k.known.right position r share offset len there asked in
    let b = slice_index_or s.begun o.holding unbegun in
    let at = begun_at s o.holding o.held k.known.counted o.is in
    let lies = (k.opening.each o.holding o.held b o.is at).reads position offset len o.read in
    by o b.opening (λ opening e. (k.known.each o.holding o.held b o.is at).led opening e) lies
  where
    by : (o : IsReadOfHolding s.holdings position share offset len r.server) (opening : Option Opening)
        → ((x : Opening) → opening ≡ Some x → IsLedToBy (brought_of s.holdings.requests.entries o.held.server o.held.share) x)
        → IsBeginning opening offset len → IsInBeginning s.holdings.requests.entries r.server share offset len
    by o None led lies = absurd lies
    by o (Some x) led lies = record {
      opening = x;
      led = subst (λ (n : ℕ). IsLedToBy (brought_of s.holdings.requests.entries n share) x) (sym o.of_server)
          (subst (λ (n : ℕ). IsLedToBy (brought_of s.holdings.requests.entries o.held.server n) x) (sym o.of_share) (led x refl));
      lies = lies;
    }

-- ---- and then

first_within : (s : SupplyState) (part : Part) → IsSupply s → (s.start ≤ first_of s part) × (first_of s part < s.end)
first_within s ShareHashes is = (is.begins, is.range.some)
first_within s (BlockTree p) is = (is.begins, is.range.some)
first_within s (CiphertextTree p) is = (let b = is.begins in let r = is.range.some in (omega arith, omega (arith, b, r)))
first_within s (Data i) is = (is.begins, is.range.some)

-- what a reader asked for is a part of its plan
planned : (f : FileState) (reader offset len : ℕ) → IsFile f → HasAsked f reader offset len → IsPlannedRead f offset len
planned f reader offset len right has =
    let own = right.readers reader has.r has.there in
    let part = own.supply.parts has.part (asked_passed has.r.supply has.part has.asked) in
    let within = first_within has.r.supply has.part own.supply in
    let from = within.0 in
    let before = within.1 in
    let start = own.start in
    let end = own.end in
    record {
      from = first_of has.r.supply has.part;
      begins = omega (arith, from, start);
      before = omega (arith, before, end);
      planned = subst (λ (g : Geometry). IsPlanned g (first_of has.r.supply has.part) f.end offset len) own.geometry
          (subst (λ (n : ℕ). IsPlanned has.r.supply.geometry (first_of has.r.supply has.part) n offset len) own.end
          (record { part = has.part; is = part; begin_is = has.offset_is; len_is = has.long }));
    }

pub reading_beside : (s : BeginningsState) (position : ℕ) (r : ReadingState) → AreKept s r → ReadsBeside s.holdings.requests.entries s.holdings.blamed (Some (record { position = position; file = r.file }))
reading_beside s head r k position q share offset len there asked left =
    let o = read_of s.holdings k.known.right position q share offset len there asked in
    let b = slice_index_or s.begun o.holding unbegun in
    let at = begun_at s o.holding o.held k.known.counted o.is in
    by o b at o.held.left refl
  where
    not_left : (o : IsReadOfHolding s.holdings position share offset len q.server) → IsGone s.holdings.requests.entries o.held.server o.held.share ⊎ IsBlamed s.holdings.blamed o.held.server o.held.share → ⊥
    not_left o (inl gone) = left.0 (subst (λ (n : ℕ). IsGone s.holdings.requests.entries n share) (sym o.of_server) (subst (λ (n : ℕ). IsGone s.holdings.requests.entries o.held.server n) (sym o.of_share) gone))
    not_left o (inr blamed) = left.1 (subst (λ (n : ℕ). IsBlamed s.holdings.blamed n share) (sym o.of_server) (subst (λ (n : ℕ). IsBlamed s.holdings.blamed o.held.server n) (sym o.of_share) blamed))

    by : (o : IsReadOfHolding s.holdings position share offset len q.server) (b : Begun) → IsBegun s o.holding b → (is_left : Bool) → o.held.left ≡ is_left → IsPlannedOrBeside r.file offset len
    by o b at false e = absurd (not_left o (k.known.right.others o.holding o.held o.is e))
    by o b at true e = elim (k.reads o.holding position offset len o.held b o.is at e o.read) [
      | inl beside ↦ inl beside
      | inr own ↦ inr (planned r.file own.0 offset len k.right own.2)
    ]

-- ---- the record goes on

pub beside_stays : (es ns : List Request) (blamed : List Blame) (f : Option Found) → GoesFrom es ns → ReadsBeside es blamed f → ReadsBeside ns blamed f
beside_stays es ns blamed None goes reads = tt
beside_stays es ns blamed (Some f) goes reads =
    λ position r share offset len there asked left.
    let was = goes.alike position r there in
    reads position was.request share offset len was.there (was.same ∙ asked)
    (subst (λ (server : ℕ). IsLeft es blamed server share) (sym was.of_server) (λ gone. left.0 (gone_stays es ns r.server share goes.stays gone), left.1))

-- ---- what is asked

-- A request behind the first asks for a share that its server offered. The first ask which shares
-- there are.
pub asks_or_reads : (s : HoldingsState) → IsRight s → AsksOrReads s.requests.entries
asks_or_reads s k position r there = elim (cases_lt position s.servers) [
  | inl lt ↦ inl (k.first position r there lt)
  | inr ge ↦ (
      let i = position - s.servers in
      let within = slice_get_within s.requests.entries position r there in
      let count = k.counted in
      let lt : i < length s.owners = omega (arith, within, count, ge) in
      let at : s.servers + i ≡ position = omega (arith, ge) in
      inr (by (slice_index_or s.owners i 0) (subst (λ (p : ℕ). IsOwned s p (slice_index_or s.owners i 0)) at (k.owned i (slice_index_or s.owners i 0) (slice_get-get_or s.owners i 0 lt)))))
]
  where
    by : (holding : ℕ) → IsOwned s position holding → IsReadOfOffered s.requests.entries r
    by holding o =
        let same : o.request ≡ r = one_there (slice_get s.requests.entries position) o.request r o.there there in
        record {
          share = o.held.share;
          offset = o.read.offset;
          len = o.read.len;
          asked = ap (λ (x : Request). x.asked) (sym same) ∙ o.read.asked;
          offered = subst (λ (server : ℕ). IsOffered s.requests.entries server o.held.share) (sym o.read.of_server ∙ ap (λ (x : Request). x.server) same) (k.offered holding o.held o.is);
        }
