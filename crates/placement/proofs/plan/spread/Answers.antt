use Rattle.std.proofs.Common.{◌≡◌, ◌<◌, ◌+◌, [], ◌∷◌, ◌++◌, length, map, take, get_or, sym, subst, ap, ◌∙◌, arith}
use Rattle.std.proofs.Math.ListN.{set}
use Rattle.std.proofs.lemmas.List.{append_assoc, take_more, length-map, get_or-map}
use Rattle.placement.specs.Matching.{Pair}
use Rattle.placement.specs.Plan.{IsSpread, load_of}
use Rattle.placement.proofs.Loads.{at_position, least_loaded, loads_push, spread_more}
use Rattle.placement.proofs.plan.spread.Goals as goal

pub loop-share-preserved : goal.loop-share-preserved
loop-share-preserved c =
    let servers = c.args.servers.now in
    let base = c.args.m2.now ++ c.args.m3.now in
    let old = c.loop-share.leftovers.items in
    let position = c.least_position-position.result in
    let share = get_or c.args.spare.now c.loop-share.share-index 0 in
    let server = get_or servers position 0 in
    let pair : Pair = (server, share) in
    let found = c.least_position-position.ensures in
    let is = c.deref-in-loop-share.ensures.value ∙ c.loop-share.invariant.loads in
    let as_many = ap length is ∙ length-map servers (load_of (base ++ old)) in
    let within : position < length servers = omega (arith, as_many, found.within) in
    let here = least_loaded servers (base ++ old) c.deref-in-loop-share.result.now is position found.within found.least found.first in
    let more = take_more c.args.spare.now c.loop-share.share-index 0 c.loop-share-test.true in
    let spread = spread_more servers base (take c.loop-share.share-index c.args.spare.now) old server share c.loop-share.invariant.spread here in
    let load : c.index_mut.result.now ≡ load_of (base ++ old) server = c.index_mut.ensures.value ∙ ap (λ ls. get_or ls position c.index_mut.result.now) c.loop-share.invariant.loads ∙ get_or-map (load_of (base ++ old)) servers position 0 c.index_mut.result.now within in
    record {
      loads =
          ap (λ v. set c.loop-share.loads.items position (v + 1)) load
          ∙ ap (λ ls. set ls position (load_of (base ++ old) server + 1)) c.loop-share.invariant.loads
          ∙ sym (loads_push (base ++ old) server share servers position c.requires.distinct (at_position servers position within))
          ∙ ap (λ l. map (load_of l) servers) (append_assoc base old (pair ∷ []) ∙ ap (λ l. base ++ l) (sym c.in_ok-push.ensures.items));
      spread = subst (λ l. IsSpread servers base l c.push.new.self.items) (sym more) (subst (IsSpread servers base (take c.loop-share.share-index c.args.spare.now ++ share ∷ [])) (sym c.in_ok-push.ensures.items) spread);
    }
