-- What became of servers, one after the other.
use Rattle.std.proofs.Common.{◌≡◌, ◌&&◌, ℕ, List, [], ◌∷◌, ◌++◌, Bool, true, false, cond, map, filter, refl, sym, subst, ap, ◌∙◌}
use Rattle.std.proofs.lemmas.List.Folds.{list_all-append}
use Rattle.std.specs.List.{AllByRecursion, list_all}
use Rattle.share_files.specs.declared.acts.Act.{Act}
use Rattle.share_files.specs.declared.fate.Wanted.{Wanted}
use Rattle.share_scrub.specs.declared.mending.Cleared.{Cleared}
use Rattle.share_scrub.specs.declared.mending.LeftShare.{LeftShare}
use Rattle.share_scrub.specs.Clearing.{IsCleared}
use Rattle.grid_shares.specs.declared.mending.Way.{Way}
use Rattle.grid_shares.specs.Ways.{AreCleared, IsWanted, IsWay, ServerWay, is_still, is_stuck, is_touched, read_at, stuck_by, way_by}
use Rattle.carried_operations.specs.declared.range.SharePlace.{SharePlace}
use Rattle.upload_core.specs.State.{Goal}

and-true : (b : Bool) → (b && true) ≡ b
and-true true = refl
and-true false = refl

-- what clearing the way at a server came to
pub way_is : (wanted : Wanted) (cleared : Cleared) (acts : List Act) (way : Way) → IsCleared wanted cleared acts → way ≡ way_by cleared.left.items (is_touched cleared) → IsWay wanted way
way_is wanted cleared acts way c is = subst (IsWay wanted) (sym is) (by cleared.left.items (is_touched cleared) refl refl) where
  by : (left : List LeftShare) (touched : Bool) → cleared.left.items ≡ left → is_touched cleared ≡ touched → IsWay wanted (way_by left touched)
  by [] false e t = record { acts = acts; cleared = cleared; is_cleared = c; is = sym (ap (λ (xs : List LeftShare). way_by xs (is_touched cleared)) e ∙ ap (way_by []) t) }
  by [] true e t = record { acts = acts; cleared = cleared; is_cleared = c; is = sym (ap (λ (xs : List LeftShare). way_by xs (is_touched cleared)) e ∙ ap (way_by []) t) }
  by (share ∷ more) touched e t = record { acts = acts; cleared = cleared; is_cleared = c; is = sym (ap (λ (xs : List LeftShare). way_by xs (is_touched cleared)) e) }

module _ (goal : Goal) (mend : Bool) (reading : List SharePlace) where
  pub cleared_none : (stuck : List ℕ) (still : Bool) → stuck ≡ [] → still ≡ true → AreCleared goal mend reading [] stuck still
  cleared_none stuck still none all = record { entries = []; servers_are = refl; wanted = tt; each = tt; stuck_are = none; still_is = all }

  module _ (wanted : Wanted) (server : ℕ) (way : Way) where
    abbrev one : ServerWay
    one = record { server = server; way = way; wanted = wanted }

    servers_more : (entries : List ServerWay) → map (λ (e : ServerWay). e.server) (entries ++ one ∷ []) ≡ map (λ (e : ServerWay). e.server) entries ++ server ∷ []
    servers_more [] = refl
    servers_more (e ∷ es) = ap (λ (xs : List ℕ). e.server ∷ xs) (servers_more es)

    each_more : (P : ServerWay → Type 0) (entries : List ServerWay) → AllByRecursion P entries → P one → AllByRecursion P (entries ++ one ∷ [])
    each_more P [] a w = (w, tt)
    each_more P (e ∷ es) a w = (a.0, each_more P es a.1 w)

    stuck_more : (entries : List ServerWay) → map (λ (e : ServerWay). e.server) (filter (λ (e : ServerWay). is_stuck e.way) (entries ++ one ∷ []))
        ≡ map (λ (e : ServerWay). e.server) (filter (λ (e : ServerWay). is_stuck e.way) entries) ++ stuck_by server way
    stuck_more [] = by (is_stuck way) where
      by : (b : Bool) → map (λ (e : ServerWay). e.server) (cond b (one ∷ []) []) ≡ cond b (server ∷ []) []
      by true = refl
      by false = refl
    stuck_more (e ∷ es) = by (is_stuck e.way) (stuck_more es) where
      by : (b : Bool) → map (λ (x : ServerWay). x.server) (filter (λ (x : ServerWay). is_stuck x.way) (es ++ one ∷ [])) ≡ map (λ (x : ServerWay). x.server) (filter (λ (x : ServerWay). is_stuck x.way) es) ++ stuck_by server way
          → map (λ (x : ServerWay). x.server) (cond b (e ∷ filter (λ (x : ServerWay). is_stuck x.way) (es ++ one ∷ [])) (filter (λ (x : ServerWay). is_stuck x.way) (es ++ one ∷ [])))
          ≡ map (λ (x : ServerWay). x.server) (cond b (e ∷ filter (λ (x : ServerWay). is_stuck x.way) es) (filter (λ (x : ServerWay). is_stuck x.way) es)) ++ stuck_by server way
      by true h = ap (λ (xs : List ℕ). e.server ∷ xs) h
      by false h = h

    still_more : (entries : List ServerWay) → list_all (λ (e : ServerWay). is_still e.way) (entries ++ one ∷ []) ≡ (list_all (λ (e : ServerWay). is_still e.way) entries && is_still way)
    still_more entries = list_all-append (λ (e : ServerWay). is_still e.way) entries (one ∷ []) ∙ ap (λ (b : Bool). list_all (λ (e : ServerWay). is_still e.way) entries && b) (and-true (is_still way))

    pub cleared_more : (servers stuck : List ℕ) (still : Bool) → AreCleared goal mend reading servers stuck still → IsWanted goal mend (read_at reading server) wanted → IsWay wanted way
        → AreCleared goal mend reading (servers ++ server ∷ []) (stuck ++ stuck_by server way) (still && is_still way)
    cleared_more servers stuck still a held w = record {
      entries = a.entries ++ record { server = server; way = way; wanted = wanted } ∷ [];
      servers_are = servers_more a.entries ∙ ap (λ (xs : List ℕ). xs ++ server ∷ []) a.servers_are;
      wanted = each_more (λ (e : ServerWay). IsWanted goal mend (read_at reading e.server) e.wanted) a.entries a.wanted held;
      each = each_more (λ (e : ServerWay). IsWay e.wanted e.way) a.entries a.each w;
      stuck_are = ap (λ (xs : List ℕ). xs ++ stuck_by server way) a.stuck_are ∙ sym (stuck_more a.entries);
      still_is = ap (λ (b : Bool). b && is_still way) a.still_is ∙ sym (still_more a.entries);
    }
