use Rattle.std.proofs.Common.{◌≡◌, ℕ, List, ap, subst, sym, ◌∙◌}
use Rattle.merkle.specs.Tree.{tree_root}
use Rattle.download_parts.specs.Trees.{IsBlockRoot}
use Rattle.share_source.proofs.Roots.{leaves_at, leaves_failed, leaves_other}
use Rattle.share_source.proofs.ReadLemmas.{read_both}
use Rattle.share_source.proofs.leaves.read_leaves.Goals as goal

pub returns-in_default-2-clause-none : goal.returns-in_default-2-clause-none
returns-in_default-2-clause-none g c =
    let at = leaves_at c.args.ueb.now c.geometry_of-geometry.result c.of.result c.inner_size.result c.segment_count.result c.geometry_of-geometry.ensures c.of.ensures.offsets c.inner_size.ensures c.segment_count.ensures.value in
    leaves_failed g.B.ShareBytes.gives g.B.ShareBytes.fails c.args.ueb.now c.args.position c.args.number _ c.segment_count.result c.args.bytes.now c.read_root.new.bytes c.read_hashes.new.bytes c.in-Some.tree
    (rw c.in-Some.is at c.in_ok-tree.ensures.root) at.0 at.1 (rw c.in_default-2.is at c.in_ok-leaves.ensures.none)

pub returns-then-branch-clause-leaves : goal.returns-then-branch-clause-leaves
returns-then-branch-clause-leaves g c =
    let at = leaves_at c.args.ueb.now c.geometry_of-geometry.result c.of.result c.inner_size.result c.segment_count.result c.geometry_of-geometry.ensures c.of.ensures.offsets c.inner_size.ensures c.segment_count.ensures.value in
    let known = rw c.in-Some.is at c.in_ok-tree.ensures.root in
    let many = rw c.in-Some-2.is at c.in_ok-leaves.ensures.count in
    let same = sym (c.in_ok-has_root.ensures.yes c.if-branch.true) ∙ ap tree_root c.deref.ensures.value in
    record { count = many ∙ at.1; root = subst (λ (r : List ℕ). IsBlockRoot c.args.ueb.now.share_root_hash c.args.ueb.now.total_shares c.args.number r) same known.root }

pub returns-clause-none : goal.returns-clause-none
returns-clause-none g c =
    let at = leaves_at c.args.ueb.now c.geometry_of-geometry.result c.of.result c.inner_size.result c.segment_count.result c.geometry_of-geometry.ensures c.of.ensures.offsets c.inner_size.ensures c.segment_count.ensures.value in
    let known = rw c.in-Some.is at c.in_ok-tree.ensures.root in
    let read = rw c.in-Some-2.is at c.in_ok-leaves.ensures.read in
    let other = λ (same : tree_root c.in-Some-2.leaves.items ≡ c.in-Some.tree.root). c.in_ok-has_root.ensures.no c.if-branch.false (ap tree_root c.deref.ensures.value ∙ same) in
    leaves_other g.B.ShareBytes.gives g.B.ShareBytes.fails c.args.ueb.now c.args.position c.args.number _ c.args.bytes.now c.read_root.new.bytes c.read_hashes.new.bytes c.in-Some.tree read.0 c.in-Some-2.leaves.items
    known at.0 read.2 read.3 other

pub returns-in_default-2-clause-reads : goal.returns-in_default-2-clause-reads
returns-in_default-2-clause-reads g c =
    read_both g.B.ShareBytes.gives g.B.ShareBytes.fails c.args.bytes.now c.read_root.new.bytes c.read_hashes.new.bytes c.in_ok-tree.ensures.reads c.in_ok-leaves.ensures.reads

pub returns-then-branch-clause-reads : goal.returns-then-branch-clause-reads
returns-then-branch-clause-reads g c =
    read_both g.B.ShareBytes.gives g.B.ShareBytes.fails c.args.bytes.now c.read_root.new.bytes c.read_hashes.new.bytes c.in_ok-tree.ensures.reads c.in_ok-leaves.ensures.reads

pub returns-clause-reads : goal.returns-clause-reads
returns-clause-reads g c =
    read_both g.B.ShareBytes.gives g.B.ShareBytes.fails c.args.bytes.now c.read_root.new.bytes c.read_hashes.new.bytes c.in_ok-tree.ensures.reads c.in_ok-leaves.ensures.reads

pub returns-in_err-leaves-clause-reads : goal.returns-in_err-leaves-clause-reads
returns-in_err-leaves-clause-reads g c =
    read_both g.B.ShareBytes.gives g.B.ShareBytes.fails c.args.bytes.now c.read_root.new.bytes c.read_hashes.new.bytes c.in_ok-tree.ensures.reads c.in_err-leaves.ensures.reads

pub returns-in_err-has_root-clause-reads : goal.returns-in_err-has_root-clause-reads
returns-in_err-has_root-clause-reads g c =
    read_both g.B.ShareBytes.gives g.B.ShareBytes.fails c.args.bytes.now c.read_root.new.bytes c.read_hashes.new.bytes c.in_ok-tree.ensures.reads c.in_ok-leaves.ensures.reads
