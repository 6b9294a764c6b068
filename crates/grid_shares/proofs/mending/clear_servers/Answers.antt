use Rattle.std.proofs.Common.{ℕ, Bool, ◌&&◌, List, [], ◌∷◌, ◌++◌, take, refl, subst, sym, ◌∙◌}
use Rattle.std.specs.Prelude.{slice_index_or}
use Rattle.std.proofs.lemmas.List.{take_more}
use Rattle.grid_shares.specs.Ways.{AreCleared, IsWanted, is_still}
use Rattle.grid_shares.proofs.WayLemmas.{cleared_more, cleared_none}
use Rattle.grid_shares.proofs.mending.clear_servers.Goals as goal

pub loop-server-init : goal.loop-server-init
loop-server-init g c = record {
  cleared = cleared_none _ _ _ _ _ c.nothing_cleared-clearance.ensures.none c.nothing_cleared-clearance.ensures.still;
  held = refl;
}

pub loop-server-preserved : goal.loop-server-preserved
loop-server-preserved g c =
    let aim = c.args.goal.now in
    let mend = c.args.placing.now.mend in
    let reading = c.args.reading.now in
    let server : ℕ = slice_index_or c.args.placing.now.servers.now c.loop-server.server-index 0 in
    let before : List ℕ = take c.loop-server.server-index c.args.placing.now.servers.now in
    let own = subst (λ (numbers : List ℕ). IsWanted aim mend numbers c.wanted_of-wanted.result) (c.as_slice.ensures.value ∙ c.in_ok-own.ensures) c.wanted_of-wanted.ensures in
    record {
      cleared =
          subst (λ (servers : List ℕ). AreCleared aim mend reading servers c.note_way.new.clearance.stuck.items c.note_way.new.clearance.is_still) (sym (take_more c.args.placing.now.servers.now c.loop-server.server-index 0 c.loop-server-test.true))
          (subst (λ (still : Bool). AreCleared aim mend reading (before ++ server ∷ []) c.note_way.new.clearance.stuck.items still) (sym c.in_ok-note_way.ensures.still)
          (subst (λ (stuck : List ℕ). AreCleared aim mend reading (before ++ server ∷ []) stuck (c.loop-server.clearance.is_still && is_still c.in_ok-way.way)) (sym c.in_ok-note_way.ensures.stuck)
          (cleared_more aim mend reading c.wanted_of-wanted.result server c.in_ok-way.way before c.loop-server.clearance.stuck.items c.loop-server.clearance.is_still c.loop-server.invariant.cleared own c.in_ok-way.ensures.way)));
      held = c.in_ok-way.ensures.held ∙ c.loop-server.invariant.held;
    }
