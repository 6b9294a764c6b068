-- The first part that waits of a reader is taken.
use Rattle.std.proofs.Common.{◌≡◌, ℕ, ◌*◌, ◌<◌, ◌≤◌, inl, inr, List, [], ◌∷◌, ◌++◌, length, drop, Some, is_some, true, refl, sym, ap, subst, ◌∙◌}
use Rattle.std.proofs.lemmas.Bool.{false≢true}
use Rattle.lemmas.proofs.Options.{one_there}
use Rattle.merkle.specs.Partial.{PartialState, Takes, known_at}
use Rattle.download_parts.specs.Plan.{length_of, nodes_of}
use Rattle.download_parts.specs.declared.part.NodePiece.{NodePiece}
use Rattle.download_parts.specs.declared.part.Part.{Part}
use Rattle.download_parts.specs.declared.part.Nodes.{Nodes}
use Rattle.download_parts.specs.declared.part.Part.TheVariants.{ShareHashes, BlockTree, CiphertextTree, Data}
use Rattle.download_parts.specs.Offers.{nodes_offered}
use Rattle.download_parts.specs.Trees.{KnowsAllOf, known_leaf}
use Rattle.download_parts.proofs.TreeLemmas.{knows_taken}
use Rattle.download_supply.specs.Cursors.{cursor_at, passed, piece_passed}
use Rattle.download_supply.specs.Supply.{IsSupply, SupplyState, first_of}
use Rattle.download_supply.specs.Taking.{IsDue, TakesPiece, holds_more, with_taken}
use Rattle.download_supply.proofs.TakingLemmas.{kept_known, offered_known}
use Rattle.download_segments.specs.State.{HandoutState, IsHandout, TreesGrow, with_trees}
use Rattle.download_segments.proofs.TreeLemmas.{grow_none}
use Rattle.download_file.specs.State.{ReaderState}
use Rattle.download_file.specs.Changes.{TreeStays}
use Rattle.download_file.specs.Right.{TellsRoot}
use Rattle.download_file.specs.Steps.{IsTaker, TakesPart}
use Rattle.download_file.proofs.GrowLemmas.{tells_still, tree_same}
use Rattle.download_file.specs.declared.reader.Waiting.{Waiting}

-- the same tree
pub same_known : (old new : PartialState) → new ≡ old → (number : ℕ) → is_some (known_at old number) ≡ true → is_some (known_at new number) ≡ true
same_known old new same number known = subst (λ (t : PartialState). is_some (known_at t number) ≡ true) (sym same) known

module _ (h : HandoutState) (r : ReaderState) (taken : List ℕ) (a b : ℕ) (w : Waiting) (is : IsTaker h a b r w) where
  -- bytes of the length that was asked are the nodes' hashes
  pub read_long : (p : NodePiece) (bytes : List ℕ) (nodes : Nodes) → w.wanted.part ≡ CiphertextTree p → length bytes ≡ w.wanted.read.length
      → nodes ≡ nodes_of h.geometry a b p → length bytes ≡ 32 * nodes.count
  read_long p bytes nodes part long these =
      long ∙ is.read.length
      ∙ (λ i. length_of (is.geometry i) (first_of r.supply (part i)) (is.end i) (part i))
      ∙ ap (λ (n : ℕ). 32 * (nodes_of h.geometry n b p).count) is.start
      ∙ ap (λ (n : Nodes). 32 * n.count) (sym these)

  due_hashes : w.wanted.part ≡ ShareHashes → IsDue r.supply ShareHashes
  due_hashes part = subst (λ (p : Part). IsDue r.supply p) part is.due

  pub took_hashes : (h' : HandoutState) (r' : ReaderState) (tree : PartialState) → w.wanted.part ≡ ShareHashes → h' ≡ with_trees h h'.trees → IsHandout h' → TreesGrow h.trees h'.trees
      → h'.trees.ciphertext ≡ h.trees.ciphertext → known_leaf h'.trees.shares r.share ≡ Some tree.root
      → r' ≡ record r { supply = record (with_taken r.supply ShareHashes) { tree = Some tree }; waiting = drop 1 r.waiting } → IsSupply r'.supply
      → TakesPart h r taken a b ShareHashes w.position h' r' taken
  took_hashes h' r' tree part others right grow same root reader supply = record {
    handout = others;
    right = right;
    grow = grow;
    stays = same_known h.trees.ciphertext h'.trees.ciphertext same;
    passes = refl;
    server = ap (λ (q : ReaderState). q.server) reader;
    share = ap (λ (q : ReaderState). q.share) reader;
    waiting = ap (λ (q : ReaderState). q.waiting) reader;
    supply = supply;
    supply_is = subst (λ (q : ReaderState). q.supply ≡ record r.supply { taken = passed r.supply.taken ShareHashes; tree = q.supply.tree; held = r.supply.held }) (sym reader) refl;
    tree = λ p was. absurd (false≢true (sym (due_hashes part).next ∙ sym is.supply.tree ∙ ap (is_some {T = PartialState}) was));
    root = subst (λ (q : ReaderState). TellsRoot h'.trees.shares r.share q.supply.tree) (sym reader) root;
  }

  pub took_nodes : (r' : ReaderState) (p : NodePiece) (bytes : List ℕ) → r'.server ≡ r.server → r'.share ≡ r.share → r'.waiting ≡ drop 1 r.waiting
      → TakesPiece r.supply p bytes r'.supply → IsSupply r'.supply → TakesPart h r taken a b (BlockTree p) w.position h r' taken
  took_nodes r' p bytes server share waiting takes supply = record {
    handout = refl;
    right = is.right;
    grow = grow_none h.trees;
    stays = λ number known. known;
    passes = refl;
    server = server;
    share = share;
    waiting = waiting;
    supply = supply;
    supply_is = subst (λ (s : SupplyState). s ≡ record r.supply { taken = passed r.supply.taken (BlockTree p); tree = s.tree; held = r.supply.held }) (sym takes.is) refl;
    tree = subst (λ (s : SupplyState). TreeStays r.supply.tree s.tree) (sym takes.is) (λ q was.
        let same : takes.before ≡ q = one_there r.supply.tree takes.before q takes.was was in
        (takes.after, refl, subst (λ (t : PartialState). KnowsAllOf t takes.after) same (knows_taken takes.before takes.after _ takes.takes)));
    root = subst (λ (s : SupplyState). TellsRoot h.trees.shares r.share s.tree) (sym takes.is)
        (subst (TellsRoot h.trees.shares r.share) takes.was is.root ∙ ap Some (sym takes.takes.root));
  }

  pub took_ciphertext : (h' : HandoutState) (r' : ReaderState) (p : NodePiece) (nodes : Nodes) (bytes : List ℕ) → h' ≡ with_trees h h'.trees → IsHandout h'
      → TreesGrow h.trees h'.trees → nodes ≡ nodes_of h.geometry a b p → length bytes ≡ 32 * nodes.count
      → Takes h.trees.ciphertext (nodes_offered nodes bytes) h'.trees.ciphertext
      → r' ≡ record r { supply = with_taken r.supply (CiphertextTree p); waiting = drop 1 r.waiting } → IsSupply r'.supply → cursor_at taken p.level ≤ p.index
      → TakesPart h r taken a b (CiphertextTree p) w.position h' r' (piece_passed taken p)
  took_ciphertext h' r' p nodes bytes others right grow these long takes reader supply high = record {
    handout = others;
    right = right;
    grow = grow;
    stays = λ number known. kept_known h.trees.ciphertext h'.trees.ciphertext (nodes_offered nodes bytes) number takes known;
    passes = inr (
      high,
      refl,
      offered_known (nodes_of h.geometry a b p) bytes h.trees.ciphertext h'.trees.ciphertext (subst (λ (n : Nodes). length bytes ≡ 32 * n.count) these long)
          (subst (λ (n : Nodes). Takes h.trees.ciphertext (nodes_offered n bytes) h'.trees.ciphertext) these takes),
    );
    server = ap (λ (q : ReaderState). q.server) reader;
    share = ap (λ (q : ReaderState). q.share) reader;
    waiting = ap (λ (q : ReaderState). q.waiting) reader;
    supply = supply;
    supply_is = subst (λ (q : ReaderState). q.supply ≡ record r.supply { taken = passed r.supply.taken (CiphertextTree p); tree = q.supply.tree; held = r.supply.held }) (sym reader) refl;
    tree = subst (λ (q : ReaderState). TreeStays r.supply.tree q.supply.tree) (sym reader) (tree_same r.supply.tree r.supply.tree refl);
    root = subst (λ (q : ReaderState). TellsRoot h'.trees.shares r.share q.supply.tree) (sym reader) (tells_still h.trees.shares h'.trees.shares r.share r.supply.tree grow.shares is.root);
  }

  -- another reader gave it
  pub passed_ciphertext : (r' : ReaderState) (p : NodePiece)
      → r' ≡ record r { supply = with_taken r.supply (CiphertextTree p); waiting = drop 1 r.waiting } → IsSupply r'.supply → p.index < cursor_at taken p.level
      → TakesPart h r taken a b (CiphertextTree p) w.position h r' taken
  passed_ciphertext r' p reader supply low = record {
    handout = refl;
    right = is.right;
    grow = grow_none h.trees;
    stays = λ number known. known;
    passes = inl (low, refl);
    server = ap (λ (q : ReaderState). q.server) reader;
    share = ap (λ (q : ReaderState). q.share) reader;
    waiting = ap (λ (q : ReaderState). q.waiting) reader;
    supply = supply;
    supply_is = subst (λ (q : ReaderState). q.supply ≡ record r.supply { taken = passed r.supply.taken (CiphertextTree p); tree = q.supply.tree; held = r.supply.held }) (sym reader) refl;
    tree = subst (λ (q : ReaderState). TreeStays r.supply.tree q.supply.tree) (sym reader) (tree_same r.supply.tree r.supply.tree refl);
    root = subst (λ (q : ReaderState). TellsRoot h.trees.shares r.share q.supply.tree) (sym reader) is.root;
  }

  pub took_data : (r' : ReaderState) (index : ℕ) → index ≡ r.supply.taken.data_piece
      → r' ≡ record r { supply = holds_more r.supply w.position; waiting = drop 1 r.waiting } → IsSupply r'.supply
      → TakesPart h r taken a b (Data index) w.position h r' taken
  took_data r' index next reader supply = record {
    handout = refl;
    right = is.right;
    grow = grow_none h.trees;
    stays = λ number known. known;
    passes = refl;
    server = ap (λ (q : ReaderState). q.server) reader;
    share = ap (λ (q : ReaderState). q.share) reader;
    waiting = ap (λ (q : ReaderState). q.waiting) reader;
    supply = supply;
    supply_is = subst (λ (q : ReaderState). q.supply ≡ record r.supply { taken = passed r.supply.taken (Data index); tree = q.supply.tree; held = r.supply.held ++ w.position ∷ [] }) (sym reader)
        (subst (λ (n : ℕ). holds_more r.supply w.position ≡ record r.supply { taken = passed r.supply.taken (Data n); tree = r.supply.tree; held = r.supply.held ++ w.position ∷ [] }) (sym next) refl);
    tree = subst (λ (q : ReaderState). TreeStays r.supply.tree q.supply.tree) (sym reader) (tree_same r.supply.tree r.supply.tree refl);
    root = subst (λ (q : ReaderState). TellsRoot h.trees.shares r.share q.supply.tree) (sym reader) is.root;
  }
