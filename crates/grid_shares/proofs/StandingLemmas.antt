-- Servers that stay open: what they did since they were opened.
use Rattle.std.proofs.Common.{◌≡◌, ℕ, List, [], ◌∷◌, ◌++◌, Option, Some, None, IfSome, map, refl, sym, ap, subst, inl, inr}
use Rattle.wire.specs.declared.message.Message.{Message}
use Rattle.request_record.specs.Operations.{OperationCalls}
use Rattle.local_grid.specs.Turns.{Course}
use Rattle.local_grid.specs.Outside.{OutsideCalls}
use Rattle.local_grid.specs.OutsideTurns.{LoopState, Turns}
use Rattle.local_grid.specs.OutsideTurns as turns
use Rattle.grid_servers.specs.Grids.{FolderGridState, GridCalls}
use Rattle.grid_servers.specs.Opened.{AreWritable}
use Rattle.grid_shares.specs.Standing.{GoesOn, Standing, WereOpened}

module _ {G : Type 0} (calls : OutsideCalls G) where
  course_both : (a b c : G) (xs ys : List G) → Course (GoesOn calls) a xs b → Course (GoesOn calls) b ys c → Course (GoesOn calls) a (xs ++ ys) c
  course_both a b c [] ys same more = subst (λ (g : G). Course (GoesOn calls) g ys c) same more
  course_both a b c (x ∷ xs) ys course more = (course.0, course_both x b c xs ys course.1 more)

  module _ {O : Type 0} (operation : OperationCalls O) where
    one_turn : (old new : LoopState O G) → Turns operation calls old new → GoesOn calls old.outside new.outside
    one_turn old new t = by t.message t.taken t.goes_on where
      by : (m : Option (ℕ × Message)) (taken : O) → turns.GoesOn operation calls taken old.outside m new → GoesOn calls old.outside new.outside
      by (Some m) taken g = inl (m.0, m.1, g.0, g.1)
      by None taken g = inr (g.0, g.1)

    of_turns : (first : LoopState O G) (states : List (LoopState O G)) (last : LoopState O G) → Course (Turns operation calls) first states last
        → Course (GoesOn calls) first.outside (map (λ (s : LoopState O G). s.outside) states) last.outside
    of_turns first [] last same = ap (λ (s : LoopState O G). s.outside) same
    of_turns first (next ∷ states) last course = (one_turn first next course.0, of_turns next states last course.1)

module _ {S : Type 0} (calls : GridCalls S) where
  -- just opened
  pub opened_now : (grid : List ℕ) (g : FolderGridState S) → AreWritable grid g → WereOpened calls grid g
  opened_now grid g is = record { first = g; opened = is; states = []; course = refl }

  -- the same grid
  pub opened_as : (grid : List ℕ) (a b : FolderGridState S) → a ≡ b → WereOpened calls grid b → WereOpened calls grid a
  opened_as grid a b same were = subst (λ (g : FolderGridState S). WereOpened calls grid g) (sym same) were

  -- the servers that are kept
  pub kept_open : (o : Option (Standing (FolderGridState S))) (grid : List ℕ) (s : Standing (FolderGridState S)) → IfSome o (λ x. x ≡ s) → WereOpened calls grid s.grid → IfSome o (λ x. WereOpened calls grid x.grid)
  kept_open None grid s is were = tt
  kept_open (Some x) grid s is were = subst (λ (y : Standing (FolderGridState S)). WereOpened calls grid y.grid) (sym is) were

  -- after the turns of an operation too
  pub opened_still : {O : Type 0} (operation : OperationCalls O) (grid : List ℕ) (first : LoopState O (FolderGridState S)) (states : List (LoopState O (FolderGridState S))) (last : LoopState O (FolderGridState S))
      → Course (Turns operation calls) first states last → WereOpened calls grid first.outside → WereOpened calls grid last.outside
  opened_still {O = O} operation grid first states last turned were = record {
    first = were.first;
    opened = were.opened;
    states = were.states ++ map (λ (s : LoopState O (FolderGridState S)). s.outside) states;
    course = course_both calls were.first first.outside last.outside were.states _ were.course (of_turns calls operation first states last turned);
  }
