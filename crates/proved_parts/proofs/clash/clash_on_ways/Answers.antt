use Rattle.std.proofs.Common.{◌≡◌, ◌+◌, ◌/◌, ◌%◌, ◌^◌, ◌<◌, ℕ, suc, List, [], get_or, eqb, sym, ◌∙◌, arith}
use Rattle.std.proofs.lemmas.Nat.{shr-shr}
use Rattle.std.proofs.lemmas.Slice.Eq.{slice_eq-Decides}
use Rattle.std.proofs.lemmas.Bool.{false≢true}
use Rattle.std.proofs.lemmas.Bool.Decides.{Decides-eqb}
use Rattle.tagged_hash.specs.TaggedHash.{double_sha256}
use Rattle.merkle.specs.Path.{path_root}
use Rattle.merkle.specs.Tree.{height}
use Rattle.merkle.proofs.HeightLemmas.{height_room}
use Rattle.merkle.proofs.PathLemmas.{path_root-whole}
use Rattle.proved_parts.specs.Steps.{step_input}
use Rattle.proved_parts.proofs.Ways.{path_step}
use Rattle.proved_parts.proofs.clash.clash_on_ways.Goals as goal

pub clash_of_steps-requires-clause-meet : goal.clash_of_steps-requires-clause-meet
clash_of_steps-requires-clause-meet c =
    let decides = slice_eq-Decides {E = eqb} Decides-eqb c.step-up.result c.step-other.result c.eq.result c.eq.ensures in
    sym c.step-up.ensures ∙ decides.0 c.if-eq.true ∙ c.step-other.ensures

-- one step, where the node below is on the way
climbed : (position at i : ℕ) (node up hash : List ℕ) (siblings : List (List ℕ)) → at ≡ position / 2 ^ i
    → node ≡ path_root i (position % 2 ^ i) hash siblings → up ≡ double_sha256 (step_input at node (get_or siblings i []))
    → up ≡ path_root (i + 1) (position % 2 ^ (i + 1)) hash siblings
climbed position at i node up hash siblings at_is node_is up_is =
    let next : i + 1 ≡ suc i = omega arith in
    rw next (up_is ∙ (λ j. double_sha256 (step_input (at_is j) (node_is j) (get_or siblings i []))) ∙ sym (path_step i position hash siblings))

pub loop-i-preserved : goal.loop-i-preserved
loop-i-preserved c =
    let i = c.loop-i.i in
    let inv = c.loop-i.invariant in
    let decides = slice_eq-Decides {E = eqb} Decides-eqb c.step-up.result c.step-other.result c.eq.result c.eq.ensures in
    record {
      position = rw inv.position (shr-shr c.args.position i 1);
      mine = climbed c.args.position c.loop-i.at i c.loop-i.left c.step-up.result c.args.first c.args.these.now inv.position inv.mine c.step-up.ensures;
      yours = climbed c.args.position c.loop-i.at i c.loop-i.right c.step-other.result c.args.second c.args.those.now inv.position inv.yours c.step-other.ensures;
      apart = λ e. false≢true (sym c.if-eq.false ∙ decides.1 e);
    }

pub returns-clause-none : goal.returns-clause-none
returns-clause-none c none count root mine yours =
    let m : ℕ = height count in
    let room = height_room count in
    let inv = c.loop-i.invariant in
    let done : c.loop-i.i ≡ height count = omega (arith, mine.1, yours.1, c.loop-i-test.false) in
    let inside : c.args.position < 2 ^ height count = omega (arith, mine.0, room) in
    let left = (rw done at inv.mine) ∙ path_root-whole m c.args.position c.args.first c.args.these.now inside in
    let right = (rw done at inv.yours) ∙ path_root-whole m c.args.position c.args.second c.args.those.now inside in
    inv.apart (left ∙ mine.2 ∙ sym yours.2 ∙ sym right)
