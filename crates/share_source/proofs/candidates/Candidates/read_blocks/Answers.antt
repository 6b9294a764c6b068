use Rattle.std.proofs.Common.{◌≡◌, ℕ, ◌+◌, ◌*◌, ◌<◌, ◌≤◌, List, [], ◌∷◌, ◌++◌, Bool, false, true, Some, length, map, take, get_or, set, inl, inr, ap, sym, subst, ◌∙◌, arith}
use Rattle.std.specs.Prelude.{slice_get}
use Rattle.std.proofs.Math.Nat.{add-mul, mul-le-mul_right}
use Rattle.std.proofs.lemmas.Bool.{cases_eq}
use Rattle.std.proofs.lemmas.List.{get_or_append_left, get_or_push, length-take-le, take_more}
use borrow.Rule.Slice.PartMut.{mid_len}
use Rattle.tagged_hash.specs.TaggedHash.{tagged_hash}
use Rattle.tagged_hash.specs.declared.tag.Tag.TheVariants.{Block}
use Rattle.share_layout.specs.Pieces.{pieces}
use Rattle.proved_parts.proofs.Files.{length-pieces}
use Rattle.share_source.specs.Candidates.{AreBlocksTold, AreSharesRead, Candidates, ShareRead, leaves_held, picked_numbers}
use Rattle.share_source.specs.Decoded.{blocks_read}
use Rattle.share_source.specs.Reading.{StayStruck, unstruck_count}
use Rattle.share_source.proofs.Asking.{asked_more, reads_more}
use Rattle.share_source.proofs.Blocks.{blocks_more}
use Rattle.share_source.proofs.Holding.{blocks_told}
use Rattle.share_source.proofs.Striking.{left_fewer, stay_struck}
use Rattle.share_source.proofs.candidates.Candidates.read_blocks.Goals as goal

pub returns-then-not-ask-clause-refused : goal.returns-then-not-ask-clause-refused
returns-then-not-ask-clause-refused g c = λ no.
    let i : ℕ = c.loop-i.i in
    let p : ℕ = get_or c.args.positions.now i 0 in
    let k = c.loop-i.invariant in
    let came = c.ask.ensures.refused c.if-not-ask.true in
    let low : i < length c.args.positions.now = omega (arith, c.loop-i-test.true, c.loop-i.auto.i-end) in
    let left : slice_get c.args.self.now.struck p ≡ Some false = c.requires.left i 0 low in
    let reads : List ShareRead = blocks_read (take i c.args.positions.now) (pieces i c.args.place.size c.loop-i.blocks) in (
      (
        reads ++ ShareRead.block p came.0 ∷ [],
        asked_more g.B.ShareBytes.gives g.B.ShareBytes.fails c.args.place reads (ShareRead.block p came.0) c.args.self.now c.loop-i.self c.ask.new.self k.read came.1,
      ),
      subst (λ (s : List Bool). unstruck_count s < unstruck_count c.args.self.now.struck) (sym (ap (λ (x : Candidates _). x.struck) came.2 ∙ ap (λ (x : Candidates _). set x.struck p true) k.others)) (left_fewer c.args.self.now.struck p left),
    )

pub returns-then-not-ask-clause-struck : goal.returns-then-not-ask-clause-struck
returns-then-not-ask-clause-struck g c =
    let p : ℕ = get_or c.args.positions.now c.loop-i.i 0 in
    let came = c.ask.ensures.refused c.if-not-ask.true in
    let low : c.loop-i.i < length c.args.positions.now = omega (arith, c.loop-i-test.true, c.loop-i.auto.i-end) in
    subst (StayStruck c.args.self.now.struck) (sym (ap (λ (x : Candidates _). x.struck) came.2 ∙ ap (λ (x : Candidates _). set x.struck p true) c.loop-i.invariant.others))
    (stay_struck c.args.self.now.struck p (c.requires.left c.loop-i.i 0 low))

pub loop-i-preserved : goal.loop-i-preserved
loop-i-preserved g c =
    let i : ℕ = c.loop-i.i in
    let size : ℕ = c.args.place.size in
    let positions : List ℕ = c.args.positions.now in
    let p : ℕ = get_or positions i 0 in
    let k = c.loop-i.invariant in
    let good = c.ask.ensures.good c.if-not-ask.false in
    let block : List ℕ = c.ask.new.block in
    let before : List (List ℕ) = pieces i size c.loop-i.blocks in
    let low : i < length positions = omega (arith, c.loop-i-test.true, c.loop-i.auto.i-end) in
    let times : (i + 1) * size ≤ length positions * size = mul-le-mul_right {m = i + 1} {n = length positions} size (omega (arith, low)) in
    let room : i * size + size ≤ length c.loop-i.blocks = omega (arith, times, add-mul i 1 size, c.requires.room, c.loop-i.auto.blocks) in
    let long : length block ≡ size = c.ask.auto.block ∙ mid_len (i * size) (i * size + size) c.loop-i.blocks room ∙ omega arith in
    let more = blocks_more i size (i * size + size) c.loop-i.blocks block (omega (arith, room)) (omega arith) long in
    let count : length before ≡ i = length-pieces i size c.loop-i.blocks in
    let reads : List ShareRead = blocks_read (take i positions) before in
    record {
      read = subst (λ rs. AreSharesRead g.B.ShareBytes.gives g.B.ShareBytes.fails c.args.place c.args.self.now rs c.ask.new.self)
          (sym ((λ q. blocks_read (take_more positions i 0 low q) (more q)) ∙ reads_more (take i positions) before p block (length-take-le i positions (omega (arith, low)) ∙ sym count)))
          (asked_more g.B.ShareBytes.gives g.B.ShareBytes.fails c.args.place reads (ShareRead.block p (Some block)) c.args.self.now c.loop-i.self c.ask.new.self k.read good.0);
      hashes = λ j below. ap (λ (l : List (List ℕ)). tagged_hash Block (get_or l j [])) more ∙ elim (cases_eq j i) [
        | inl e ↦ ap (tagged_hash Block) (get_or_push before block [] j (count ∙ sym e)) ∙ good.1
            ∙ ap (λ (x : Candidates _). get_or (leaves_held x.held p) c.args.place.segment []) k.others ∙ ap (λ n. get_or (leaves_held c.args.self.now.held (get_or positions n 0)) c.args.place.segment []) (sym e)
        | inr apart ↦ (let under : j < i = omega (arith, below, apart) in
            ap (tagged_hash Block) (get_or_append_left before (block ∷ []) [] j (omega (arith, under, count))) ∙ k.hashes j under)
      ];
      others = good.2 ∙ ap (λ (x : Candidates _). record x { bytes = c.ask.new.self.bytes }) k.others;
    }

pub returns-clause-told : goal.returns-clause-told
returns-clause-told g c = λ _.
    let old : Candidates _ = c.args.self.now in
    let positions : List ℕ = c.args.positions.now in
    let size : ℕ = c.args.place.size in
    let segment : ℕ = c.args.place.segment in
    let blocks : List ℕ = c.loop-i.blocks in
    let k = c.loop-i.invariant in
    let whole : c.loop-i.i ≡ length positions = omega (arith, c.loop-i-test.false, c.loop-i.auto.i-end) in
    subst (λ (x : Candidates _). AreBlocksTold x.ueb segment (picked_numbers x.numbers positions) (map (leaves_held x.held) positions) (pieces (length positions) size blocks)) (sym k.others)
    (blocks_told old segment positions (pieces (length positions) size blocks) c.requires.held
    (λ j low. subst (λ n. tagged_hash Block (get_or (pieces n size blocks) j []) ≡ get_or (leaves_held old.held (get_or positions j 0)) segment []) whole (k.hashes j (omega (arith, low, whole)))))
