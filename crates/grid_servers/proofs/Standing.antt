-- What stands at each number of a list of nodes.
use Rattle.std.proofs.Common.{◌≡◌, ℕ, zero, suc, ◌<◌, List, [], ◌∷◌, ◌++◌, Option, None, IfSome, IsSome, Bool, true, false, eqb, get_or, length, set, refl, sym, ap, subst, ◌∙◌, true≢false}
use Rattle.std.proofs.lemmas.Bool.{eqb-true, eqb-false}
use Rattle.std.proofs.lemmas.List.{get_or-set_same, get_or-set_other}
use Rattle.share_folders.specs.Folder.{FolderState}
use Rattle.share_folders.specs.declared.listing.Purpose.{Purpose}
use Rattle.grid_marks.specs.Marks.{IsGrids}
use Rattle.grid_marks.specs.declared.mark.Mark.{Mark}
use Rattle.local_grid.specs.Nodes.{NodeState}
use Rattle.local_grid.specs.declared.ends.SocketPair.{SocketPair}
use Rattle.local_grid.specs.declared.socket_link.GridLink.{GridLink}
use Rattle.connections.specs.declared.ends.Nonblocking.{Nonblocking}
use Rattle.connections.specs.declared.socket.Socket.{Socket}
use Rattle.served_grid.specs.Remotes.{RemoteState}
use Rattle.grid_servers.specs.Grids.{FolderGridState}
use Rattle.grid_servers.specs.Opened.{AllElsewhere, AllStand, AreApart, AreOpened, StandsAt, StandsElsewhere}

-- one more number at which nothing stands
pub padded : {X : Type 0} (xs : List (Option X)) (n : ℕ) → get_or (xs ++ None ∷ []) n None ≡ get_or xs n None
padded [] zero = refl
padded [] (suc n) = refl
padded (x ∷ xs) zero = refl
padded (x ∷ xs) (suc n) = padded xs n

-- the same stands at each number
abbrev pub IsPadded : {X : Type 0} → List (Option X) → List (Option X) → Type 0
IsPadded old new = (n : ℕ) → get_or new n None ≡ get_or old n None

pub padded_itself : {X : Type 0} (xs : List (Option X)) → IsPadded xs xs
padded_itself xs = λ n. refl

pub padded_more : {X : Type 0} (old new after : List (Option X)) → IsPadded old new → after ≡ new ++ None ∷ [] → IsPadded old after
padded_more old new after same e = λ n. ap (λ l. get_or l n None) e ∙ padded new n ∙ same n

-- what holds at each number, with another value at one of them
set_each : {X : Type 0} (P : ℕ → Option X → Type 0) (xs : List (Option X)) (m : ℕ) (x : Option X) → m < length xs → P m x → ((n : ℕ) → P n (get_or xs n None)) → (n : ℕ) → P n (get_or (set xs m x) n None)
set_each P xs m x within here others n = at (eqb n m) refl where
  at : (b : Bool) → eqb n m ≡ b → P n (get_or (set xs m x) n None)
  at true e = subst (λ k. P k (get_or (set xs m x) k None)) (sym (eqb-true n m e)) (subst (P m) (sym (get_or-set_same xs m x None within)) here)
  at false e = subst (P n) (sym (get_or-set_other xs m n x None (eqb-false n m e))) (others n)

-- ---- servers of this process

pub none_stand : {L : Type 0} (grid : List ℕ) (known : Option Mark) (purpose : Purpose) (nodes : List (Option (NodeState FolderState L))) → nodes ≡ [] → AllStand grid known purpose nodes
none_stand grid known purpose nodes e = subst (AllStand grid known purpose) (sym e) (λ n. tt)

pub still_stand : {L : Type 0} (grid : List ℕ) (known : Option Mark) (purpose : Purpose) (old new : List (Option (NodeState FolderState L))) → ((n : ℕ) → get_or new n None ≡ get_or old n None) → AllStand grid known purpose old → AllStand grid known purpose new
still_stand grid known purpose old new same stand = λ n. subst (StandsAt grid known purpose n) (sym (same n)) (stand n)

pub set_stand : {L : Type 0} (grid : List ℕ) (known : Option Mark) (purpose : Purpose) (nodes : List (Option (NodeState FolderState L))) (m : ℕ) (node : Option (NodeState FolderState L)) → m < length nodes → StandsAt grid known purpose m node → AllStand grid known purpose nodes → AllStand grid known purpose (set nodes m node)
set_stand grid known purpose nodes m node within here stand = set_each (StandsAt grid known purpose) nodes m node within here stand

-- ---- servers elsewhere

pub none_elsewhere : {W : Type 0} (known : Option Mark) (remotes : List (Option (RemoteState W))) → remotes ≡ [] → AllElsewhere known remotes
none_elsewhere known remotes e = subst (AllElsewhere known) (sym e) (λ n. tt)

pub set_elsewhere : {W : Type 0} (known : Option Mark) (old padded : List (Option (RemoteState W))) (m : ℕ) (remote : Option (RemoteState W)) → IsPadded old padded → m < length padded → StandsElsewhere known m remote → AllElsewhere known old → AllElsewhere known (set padded m remote)
set_elsewhere known old padded m remote same within here stand =
    set_each (StandsElsewhere known) padded m remote within here (λ n. subst (StandsElsewhere known n) (sym (same n)) (stand n))

pub none_apart : {N M : Type 0} (here : List (Option N)) (elsewhere : List (Option M)) → elsewhere ≡ [] → AreApart here elsewhere
none_apart here elsewhere e = subst (AreApart here) (sym e) (λ n some. absurd (true≢false (sym some)))

pub set_apart : {N M : Type 0} (here : List (Option N)) (old padded : List (Option M)) (m : ℕ) (one : Option M) → IsPadded old padded → m < length padded → get_or here m None ≡ None → AreApart here old → AreApart here (set padded m one)
set_apart {N} {M} here old padded m one same within free apart =
    set_each (λ (n : ℕ) (o : Option M). IsSome o → get_or here n None ≡ None) padded m one within (λ _. free) (λ n some. apart n (subst (λ (o : Option M). IsSome o) (same n) some))

-- ---- both

pub opened : {S : Type 0} (grid : List ℕ) (known : Option Mark) (purpose : Purpose) (nodes : List (Option (NodeState FolderState (GridLink (SocketPair S))))) (remotes : List (Option (RemoteState (Nonblocking Socket)))) (g : FolderGridState S)
    → g ≡ record { here = record { nodes = nodes; clock = 0 }; remotes = remotes } → IfSome known IsGrids → AllStand grid known purpose nodes → AllElsewhere known remotes → AreApart nodes remotes → AreOpened grid purpose g
opened grid known purpose nodes remotes g e marked own elsewhere apart = subst (AreOpened grid purpose) (sym e) (record { known = known; marked = marked; own = own; elsewhere = elsewhere; apart = apart; second = refl })
