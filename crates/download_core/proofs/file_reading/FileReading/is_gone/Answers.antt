use Rattle.std.proofs.Common.{◌≡◌, ◌∙◌, ℕ, ◌<◌, List, length, not, get_or, Bool, true, false, true≢false, refl, sym, subst, ap, arith}
use Rattle.std.specs.Prelude.{slice_get}
use Rattle.std.proofs.lemmas.Bool.{false≢true}
use Rattle.std.proofs.lemmas.Option.{get_or_from_slice_get, slice_get_within}
use Rattle.lemmas.proofs.Positions.{got}
use Rattle.lemmas.proofs.Options.{one_there}
use Rattle.download_shares.specs.HoldingState.{HoldingsState}
use Rattle.download_shares.specs.declared.holding.Holding.{Holding}
use Rattle.download_shares.specs.BeginningState.{BeginningsState}
use Rattle.download_file.specs.State.{IsHeard}
use Rattle.download_core.specs.Reading.{AreKept, IsGone}
use Rattle.download_core.specs.ReadingState.{ReadingState}
use Rattle.download_core.proofs.Ended.{OwnHolding, own_holding}
use Rattle.download_core.proofs.Fields.{seen}
use Rattle.download_core.proofs.file_reading.FileReading.is_gone.Goals as goal

abbrev nobody : Holding
nobody = record { server = 0; share = 0; left = false; suspended = false }

-- the holding that the code looks at
own : (bs : BeginningsState) (now r : ReadingState) (reader : ℕ) → r ≡ now → AreKept bs now → IsHeard now.file reader → OwnHolding bs r reader
own bs now r reader e kept live = subst (λ (x : ReadingState). OwnHolding bs x reader) (sym e) (own_holding bs now reader kept live)

pub index-requires : goal.index-requires
index-requires c =
    let r : ReadingState = seen c.self.inside in
    let o = own c.args.beginnings.now c.args.self.now r c.args.reader c.self.view_is c.requires.kept c.requires.live in
    let w = slice_get_within r.holdings c.args.reader o.holding o.of in
    let k = c.self.inside.holdings.ok.0 in
    omega (arith, w, k)

-- where it stands
module _ (bs : BeginningsState) (r : ReadingState) (hs : HoldingsState) (list : List Holding) (reader holding : ℕ) (o : OwnHolding bs r reader) (e : hs ≡ bs.holdings) (f : list ≡ hs.table.holdings)
    (index : holding ≡ get_or r.holdings reader holding) where
  pub holding_is : o.holding ≡ holding
  holding_is = one_there (slice_get r.holdings reader) o.holding holding o.of (got r.holdings reader holding (slice_get_within r.holdings reader o.holding o.of) index)

  pub list_is : list ≡ bs.holdings.table.holdings
  list_is = f ∙ ap (λ (x : HoldingsState). x.table.holdings) e

  pub inside : holding < length list
  inside =
      let w = slice_get_within bs.holdings.table.holdings o.holding o.held o.is in
      let l = ap length list_is in
      let h = holding_is in
      omega (arith, w, l, h)

  pub left_is : (get_or list holding nobody).left ≡ o.held.left
  left_is = ap (λ (l : List Holding). (get_or l holding nobody).left) list_is ∙ ap (λ n. (get_or bs.holdings.table.holdings n nobody).left) (sym holding_is)
      ∙ ap (λ (x : Holding). x.left) (get_or_from_slice_get bs.holdings.table.holdings o.holding o.held nobody o.is)

pub bounds-holdings-index : goal.bounds-holdings-index
bounds-holdings-index c =
    let r : ReadingState = seen c.self.inside in
    let o = own c.args.beginnings.now c.args.self.now r c.args.reader c.self.view_is c.requires.kept c.requires.live in
    inside c.args.beginnings.now r c.holdings.result.now c.holdings-2.result.now c.args.reader c.index.result.now o c.holdings.ensures c.holdings-2.ensures.value c.index.ensures

pub offset_bounds-holdings-index : goal.offset_bounds-holdings-index
offset_bounds-holdings-index c =
    let r : ReadingState = seen c.self.inside in
    let o = own c.args.beginnings.now c.args.self.now r c.args.reader c.self.view_is c.requires.kept c.requires.live in
    let lt = inside c.args.beginnings.now r c.holdings.result.now c.holdings-2.result.now c.args.reader c.index.result.now o c.holdings.ensures c.holdings-2.ensures.value c.index.ensures in
    let t = c.holdings-2.type_inv.1 in
    omega (arith, lt, t)

pub returns-clause-gone : goal.returns-clause-gone
returns-clause-gone c e =
    let r : ReadingState = seen c.self.inside in
    let o = own c.args.beginnings.now c.args.self.now r c.args.reader c.self.view_is c.requires.kept c.requires.live in
    let left = left_is c.args.beginnings.now r c.holdings.result.now c.holdings-2.result.now c.args.reader c.index.result.now o c.holdings.ensures c.holdings-2.ensures.value c.index.ensures in
    subst (λ (x : ReadingState). IsGone c.args.beginnings.now x c.args.reader) c.self.view_is
    (record { holding = o.holding; of = o.of; held = o.held; is = o.is; gone = sym left ∙ not_true (get_or c.holdings-2.result.now c.index.result.now nobody).left e })
  where
    not_true : (b : Bool) → not b ≡ true → b ≡ false
    not_true true f = absurd (false≢true f)
    not_true false f = refl

pub returns-clause-left : goal.returns-clause-left
returns-clause-left c e gone =
    let r : ReadingState = seen c.self.inside in
    let o = own c.args.beginnings.now c.args.self.now r c.args.reader c.self.view_is c.requires.kept c.requires.live in
    let left = left_is c.args.beginnings.now r c.holdings.result.now c.holdings-2.result.now c.args.reader c.index.result.now o c.holdings.ensures c.holdings-2.ensures.value c.index.ensures in
    let g : IsGone c.args.beginnings.now r c.args.reader = subst (λ (x : ReadingState). IsGone c.args.beginnings.now x c.args.reader) (sym c.self.view_is) gone in
    let one : g.holding ≡ o.holding = one_there (slice_get r.holdings c.args.reader) g.holding o.holding g.of o.of in
    let held : g.held ≡ o.held = one_there (slice_get c.args.beginnings.now.holdings.table.holdings g.holding) g.held o.held g.is (ap (slice_get c.args.beginnings.now.holdings.table.holdings) one ∙ o.is) in
    clash (get_or c.holdings-2.result.now c.index.result.now nobody).left e (left ∙ ap (λ (x : Holding). x.left) (sym held) ∙ g.gone)
  where
    clash : (b : Bool) → not b ≡ false → b ≡ false → ⊥
    clash true f k = true≢false k
    clash false f k = true≢false f
