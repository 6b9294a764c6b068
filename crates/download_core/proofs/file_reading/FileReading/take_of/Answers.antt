use Rattle.download_shares.proofs.Caused.{adds_none}
use Rattle.download_core.specs.ReadingCauses.{IsPartFault}
use Rattle.std.proofs.Common.{◌≡◌, ◌∙◌, ℕ, ◌<◌, List, length, get_or, refl, Option, Some, None, false, true≢false, sym, subst, ap, arith}
use Rattle.std.specs.Prelude.{slice_get}
use Rattle.std.proofs.lemmas.Option.{get_or_from_slice_get, slice_get_within}
use Rattle.lemmas.proofs.Options.{one_there}
use Rattle.download_shares.specs.HoldingState.{HoldingsState}
use Rattle.download_shares.specs.Table.{IsHolding}
use Rattle.download_shares.specs.declared.holding.Holding.{Holding}
use Rattle.download_shares.specs.BeginningState.{BeginningsState, IsBegun}
use Rattle.download_shares.specs.declared.begun.Begun.{Begun}
use Rattle.download_core.specs.Reading.{AreAwaited}
use Rattle.download_core.specs.ReadingState.{ReadingState}
use Rattle.download_core.specs.ReadingSteps.{IsTold}
use Rattle.download_core.proofs.Awaited.{awaits_last}
use Rattle.download_core.proofs.Ended.{continues_none}
use Rattle.download_core.proofs.Started.{held_at}
use Rattle.download_core.proofs.file_reading.FileReading.take_of.Goals as goal

-- what stands at the holding
reader_same : (bs : BeginningsState) (list : List Begun) (holding : ℕ) (o : Option ℕ) (b d : Begun) → list ≡ bs.begun → IsBegun bs holding b → (get_or list holding d).reader ≡ o → b.reader ≡ o
reader_same bs list holding o b d e there is =
    sym (ap (λ (x : Begun). x.reader) (ap (λ (l : List Begun). get_or l holding d) e ∙ get_or_from_slice_get bs.begun holding b d there)) ∙ is

reader_is : (bs : BeginningsState) (list : List Begun) (holding reader : ℕ) (b d : Begun) → list ≡ bs.begun → IsBegun bs holding b → (get_or list holding d).reader ≡ Some reader → b.reader ≡ Some reader
reader_is bs list holding reader b d e there is = reader_same bs list holding (Some reader) b d e there is

left_is : (bs : BeginningsState) (hs : HoldingsState) (list : List Holding) (holding : ℕ) (h d : Holding) → hs ≡ bs.holdings → list ≡ hs.table.holdings → IsHolding bs.holdings.table holding h → (get_or list holding d).left ≡ h.left
left_is bs hs list holding h d e f is =
    ap (λ (l : List Holding). (get_or l holding d).left) (f ∙ ap (λ (x : HoldingsState). x.table.holdings) e) ∙ ap (λ (x : Holding). x.left) (get_or_from_slice_get bs.holdings.table.holdings holding h d is)

inside : (bs : BeginningsState) (r : ReadingState) (hs : HoldingsState) (list : List Holding) (holding : ℕ) → IsTold None bs r holding → hs ≡ bs.holdings → list ≡ hs.table.holdings → holding < length list
inside bs r hs list holding told e f =
    let w = slice_get_within bs.begun holding told.begun told.there in
    let c = told.linked.kept.known.counted in
    let l = ap length (f ∙ ap (λ (x : HoldingsState). x.table.holdings) e) in
    omega (arith, w, c, l)

pub returns-in_default-clause-continues : goal.returns-in_default-clause-continues
returns-in_default-clause-continues c = continues_none c.args.beginnings.now c.args.self.now

pub returns-in_default-clause-reading : goal.returns-in_default-clause-reading
returns-in_default-clause-reading c =
    let told = c.requires.told in
    let e = reader_same c.args.beginnings.now c.begun.result.now c.args.holding None told.begun _ c.begun.ensures told.there c.in_default.is in
    record { linked = told.linked; awaits = subst (λ o. AreAwaited o c.args.beginnings.now c.args.self.now) e told.awaits; busy = told.busy }

pub bounds-holdings-holding : goal.bounds-holdings-holding
bounds-holdings-holding c = inside c.args.beginnings.now c.args.self.now c.holdings.result.now c.holdings-2.result.now c.args.holding c.requires.told c.holdings.ensures c.holdings-2.ensures.value

pub offset_bounds-holdings-holding : goal.offset_bounds-holdings-holding
offset_bounds-holdings-holding c =
    let lt = inside c.args.beginnings.now c.args.self.now c.holdings.result.now c.holdings-2.result.now c.args.holding c.requires.told c.holdings.ensures c.holdings-2.ensures.value in
    let t = c.holdings-2.type_inv.1 in
    omega (arith, lt, t)

pub take-requires-clause-reading : goal.take-requires-clause-reading
take-requires-clause-reading c =
    let told = c.requires.told in
    let e = reader_is c.args.beginnings.now c.begun.result.now c.args.holding c.in-Some.reader told.begun _ c.begun.ensures told.there c.in-Some.is in
    record { linked = told.linked; awaits = subst (λ o. AreAwaited o c.args.beginnings.now c.args.self.now) e told.awaits; busy = told.busy }

pub take-requires-clause-live : goal.take-requires-clause-live
take-requires-clause-live c =
    let told = c.requires.told in
    let bs = c.args.beginnings.now in
    let e = reader_is bs c.begun.result.now c.args.holding c.in-Some.reader told.begun _ c.begun.ensures told.there c.in-Some.is in
    let h = held_at bs c.args.holding told.begun told.linked.kept.known told.there in
    let left = sym (left_is bs c.holdings.result.now c.holdings-2.result.now c.args.holding h.0 _ c.holdings.ensures c.holdings-2.ensures.value h.1) ∙ c.if-holdings-holding.true in
    told.linked.kept.alive c.args.holding c.in-Some.reader h.0 told.begun h.1 told.there e left

pub returns-else-holdings-holding-clause-reading : goal.returns-else-holdings-holding-clause-reading
returns-else-holdings-holding-clause-reading c =
    let told = c.requires.told in
    let bs = c.args.beginnings.now in
    let r = c.args.self.now in
    let e = reader_is bs c.begun.result.now c.args.holding c.in-Some.reader told.begun _ c.begun.ensures told.there c.in-Some.is in
    let h = held_at bs c.args.holding told.begun told.linked.kept.known told.there in
    let gone : h.0.left ≡ false = sym (left_is bs c.holdings.result.now c.holdings-2.result.now c.args.holding h.0 _ c.holdings.ensures c.holdings-2.ensures.value h.1) ∙ c.if-holdings-holding.false in
    record {
      linked = told.linked;
      awaits = awaits_last bs r c.in-Some.reader (subst (λ o. AreAwaited o bs r) e told.awaits)
          (λ position g k first. (
          let one : k.holding ≡ c.args.holding = one_there (slice_get r.holdings c.in-Some.reader) k.holding c.args.holding k.of (told.linked.kept.back c.args.holding c.in-Some.reader told.begun told.there e) in
          let same : g ≡ h.0 = one_there (slice_get bs.holdings.table.holdings c.args.holding) g h.0 (subst (λ x. IsHolding bs.holdings.table x g) one k.is) h.1 in
          absurd (true≢false (sym k.left ∙ ap (λ (x : Holding). x.left) same ∙ gone))));
      busy = told.busy;
    }

pub returns-else-holdings-holding-clause-continues : goal.returns-else-holdings-holding-clause-continues
returns-else-holdings-holding-clause-continues c = continues_none c.args.beginnings.now c.args.self.now

pub returns-in_default-clause-causes : goal.returns-in_default-clause-causes
returns-in_default-clause-causes c =
    let bs = c.args.beginnings.now in
    adds_none (IsPartFault bs.holdings.requests.entries c.args.self.now.file) bs.holdings.blamed bs.holdings.blamed refl

pub returns-else-holdings-holding-clause-causes : goal.returns-else-holdings-holding-clause-causes
returns-else-holdings-holding-clause-causes c =
    let bs = c.args.beginnings.now in
    adds_none (IsPartFault bs.holdings.requests.entries c.args.self.now.file) bs.holdings.blamed bs.holdings.blamed refl
