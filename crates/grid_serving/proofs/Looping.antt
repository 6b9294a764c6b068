-- One part of a turn after another.
use Rattle.std.proofs.Common.{◌≡◌, ℕ, suc, ◌≤◌, Bool, true, false, List, [], ◌∷◌, ◌++◌, map, Option, refl, sym, ap, ◌∙◌, subst, inl, inr, append_assoc, append-nil, arith}
use Rattle.std.specs.Prelude.{◌<◌, Some, None, slice_get, slice_set}
use Rattle.std.proofs.lemmas.List.{map-append}
use Rattle.share_store.specs.Calls.{Calls}
use Rattle.server_core.specs.ServerState.{LetsGoOfEnded, ServerState, Ticks}
use Rattle.connections.specs.Wires.{WireCalls}
use Rattle.grid_serving.specs.Places.{ClientState, is_late, new_client, places_of}
use Rattle.grid_serving.specs.Turns.{LeaveInTurn, WakeInTurn, WakesAt}
use Rattle.grid_serving.specs.Loops.{Ages, Comes, Fails, FailsReady, LoopState, Passes, ServesReady, TakeInTurn, TakesNext, TakesWaiting, Tells, TellsGone, Turns, Wakes}
use Rattle.grid_serving.specs.declared.clients.Gone.{Gone}
use Rattle.grid_serving.specs.declared.serving.News.{News}
use Rattle.grid_serving.specs.declared.serving.News.TheVariants as news

-- ---- what is told

pub none_told : (old : List News) → TellsGone old old
none_told old = record { gone = []; told = sym (append-nil old) }

pub one_told : (gone : Gone) (old mid new : List News) → TellsGone old mid → Tells (news.Gone gone) mid new → TellsGone old new
one_told gone old mid new first (inr same) = record { gone = first.gone; told = same ∙ first.told }
one_told gone old mid new first (inl is) = record {
  gone = first.gone ++ gone ∷ [];
  told = is ∙ ap (λ (ns : List News). ns ++ news.Gone gone ∷ []) first.told ∙ append_assoc old (map news.Gone first.gone) (news.Gone gone ∷ [])
      ∙ ap (λ (ns : List News). old ++ ns) (sym (map-append news.Gone first.gone (gone ∷ [])));
}

-- ---- clients that are woken

module _ {W : Type 0} where
  pub none_woken : (clients : List (Option (ClientState W))) → (nodes : List ℕ) × WakeInTurn nodes clients clients
  none_woken clients = ([], refl)

  pub one_woken : (node : ℕ) (old new : List (Option (ClientState W))) → WakesAt node old new → (nodes : List ℕ) × WakeInTurn nodes old new
  one_woken node old new wakes = (node ∷ [], (new, wakes, refl))

  woken_both : (nodes others : List ℕ) (old mid new : List (Option (ClientState W))) → WakeInTurn nodes old mid → WakeInTurn others mid new → WakeInTurn (nodes ++ others) old new
  woken_both [] others old mid new first then = subst (λ (cs : List (Option (ClientState W))). WakeInTurn others cs new) first then
  woken_both (x ∷ nodes) others old mid new first then = (first.0, first.1, woken_both nodes others first.0 mid new first.2 then)

  pub more_woken : (old mid new : List (Option (ClientState W))) → (nodes : List ℕ) × WakeInTurn nodes old mid → (nodes : List ℕ) × WakeInTurn nodes mid new → (nodes : List ℕ) × WakeInTurn nodes old new
  more_woken old mid new first then = (first.0 ++ then.0, woken_both first.0 then.0 old mid new first.1 then.1)

-- ---- the parts of a turn

module _ {W S : Type 0} where
  pub news_on : (old mid new : LoopState W S) → mid ≡ record old { news = mid.news } → new ≡ record mid { news = new.news } → new ≡ record old { news = new.news }
  news_on old mid new first then = then ∙ ap (λ (s : LoopState W S). record s { news = new.news }) first

  -- One that is gone is told of.
  pub gone_on : (gone : Gone) (here old mid new : LoopState W S) → here ≡ mid → TellsGone old.news mid.news × (mid ≡ record old { news = mid.news }) → Tells (news.Gone gone) here.news new.news → new ≡ record here { news = new.news }
      → TellsGone old.news new.news × (new ≡ record old { news = new.news })
  gone_on gone here old mid new same first tells then = (
    one_told gone old.news mid.news new.news first.0 (subst (λ (s : LoopState W S). Tells (news.Gone gone) s.news new.news) same tells),
    news_on old mid new first.1 (subst (λ (s : LoopState W S). new ≡ record s { news = new.news }) same then),
  )

  pub same_told : (here old mid : LoopState W S) → here ≡ mid → TellsGone old.news mid.news × (mid ≡ record old { news = mid.news }) → TellsGone old.news here.news × (here ≡ record old { news = here.news })
  same_told here old mid same first = subst (λ (s : LoopState W S). TellsGone old.news s.news × (s ≡ record old { news = s.news })) (sym same) first

  pub come_on : (node now : ℕ) (inner old : LoopState W S) (wire : W) (client : ClientState W) (clients : List (Option (ClientState W))) → inner ≡ old → node < 256 → slice_get old.clients node ≡ Some None → client ≡ new_client wire inner.own now
      → clients ≡ slice_set inner.clients node (Some client) → Comes node now old (record inner { clients = clients })
  come_on node now inner old wire client clients same within free is put = subst (λ (s : LoopState W S). Comes node now s (record inner { clients = clients })) same (record {
    within = within;
    free = subst (λ (s : LoopState W S). slice_get s.clients node ≡ Some None) (sym same) free;
    wire = wire;
    others = ap (λ (cs : List (Option (ClientState W))). record inner { clients = cs }) (put ∙ ap (λ (c : ClientState W). slice_set inner.clients node (Some c)) is);
  })

module _ {W S : Type 0} (calls : Calls S) where
  -- ---- clients that are taken

  pub none_taken : (now : ℕ) (s : LoopState W S) → s.comes ≡ false → TakesWaiting calls now s s
  none_taken now s none = record { count = 0; most = omega arith; none = λ still. refl; taken = s; takes = refl; others = refl }

  pub one_more_taken : (now count next : ℕ) (old mid new : LoopState W S) (more : Bool) → next ≡ suc count → more ≡ true → TakeInTurn calls count now old mid → TakesNext calls now mid more new → TakeInTurn calls next now old new
  one_more_taken now count next old mid new more is there takes one =
      subst (λ (n : ℕ). TakeInTurn calls n now old new) (sym is) (mid, takes, subst (λ (b : Bool). TakesNext calls now mid b new) there one)

  pub none_waits : (now : ℕ) (mid new : LoopState W S) (more : Bool) → more ≡ false → TakesNext calls now mid more new → new ≡ record mid { comes = new.comes }
  none_waits now mid new more none one = subst (λ (b : Bool). TakesNext calls now mid b new) none one

  pub some_taken : (now count : ℕ) (inner old mid new : LoopState W S) → inner ≡ old → inner.comes ≡ true → count ≤ 64 → TakeInTurn calls count now old mid → new ≡ record mid { comes = new.comes } → TakesWaiting calls now old new
  some_taken now count inner old mid new same comes most takes others = record {
    count = count;
    most = most;
    none = λ none. absurd (never (sym (ap (λ (s : LoopState W S). s.comes) same ∙ none) ∙ comes));
    taken = mid;
    takes = takes;
    others = others;
  }
    where
      never : false ≡ true → ⊥
      never e = absurd cc

-- ---- the clients that are ready

module _ {W S : Type 0} (wires : WireCalls W) (calls : Calls S) (now : ℕ) where
  -- whether there may be more is noted behind
  pub served_owed : (old new : LoopState W S) (owed : Bool) → ServesReady wires calls now old new → ServesReady wires calls now old (record new { is_owed = owed })
  served_owed old new owed serves = record {
    turns = serves.turns;
    news = serves.news;
    others = ap (λ (s : LoopState W S). record s { is_owed = owed }) serves.others;
  }

-- ---- time

module _ {W S : Type 0} (calls : Calls S) (now : ℕ) where
  pub aged : (inner old mid new : LoopState W S) (ticked rid : ServerState S) → inner ≡ old → Ticks inner.server now ticked → LetsGoOfEnded calls ticked rid
      → LeaveInTurn calls (places_of (is_late now) inner.clients) inner.clients rid mid.clients mid.server → mid ≡ record inner { server = mid.server; clients = mid.clients; clock = now }
      → TellsGone mid.news new.news → new ≡ record mid { news = new.news } → Ages calls now old new
  aged inner old mid new ticked rid same ticks lets_go leave others tells then =
      let kept : mid.news ≡ inner.news = ap (λ (s : LoopState W S). s.news) others in
      let last : new.clients ≡ mid.clients = ap (λ (s : LoopState W S). s.clients) then in
      let left : new.server ≡ mid.server = ap (λ (s : LoopState W S). s.server) then in
      subst (λ (s : LoopState W S). Ages calls now s new) same (record {
        ticked = ticked;
        ticks = ticks;
        rid = rid;
        lets_go = lets_go;
        leave = subst (λ (cs : List (Option (ClientState W))). LeaveInTurn calls (places_of (is_late now) inner.clients) inner.clients rid cs new.server) (sym last)
            (subst (λ (s : ServerState S). LeaveInTurn calls (places_of (is_late now) inner.clients) inner.clients rid mid.clients s) (sym left) leave);
        news = subst (λ (ns : List News). TellsGone ns new.news) kept tells;
        others = then ∙ ap (λ (s : LoopState W S). record s { news = new.news }) others
            ∙ ap (λ (s : ServerState S). record inner { server = s; clients = mid.clients; clock = now; news = new.news }) (sym left)
            ∙ ap (λ (cs : List (Option (ClientState W))). record inner { server = new.server; clients = cs; clock = now; news = new.news }) (sym last);
      })

  pub other_second : (inner old new : LoopState W S) → inner ≡ old → (now ≡ inner.clock → ⊥) → Ages calls now old new → Passes calls now old new
  other_second inner old new same other ages = inr (λ is. other (is ∙ sym (ap (λ (s : LoopState W S). s.clock) same)), ages)

-- ---- turns

module _ {W S : Type 0} (wires : WireCalls W) (calls : Calls S) (now : ℕ) where
  pub turn_done : (old told taken served inner new : LoopState W S) (owed : Bool) → Wakes old told → TakesWaiting calls now told taken → ServesReady wires calls now taken served → inner ≡ served → Passes calls now (record inner { is_owed = owed }) new
      → Turns wires calls old new
  turn_done old told taken served inner new owed wakes takes serves same passes = record {
    now = now;
    told = told;
    wakes = wakes;
    taken = taken;
    takes = takes;
    served = record inner { is_owed = owed };
    serves = subst (λ (s : LoopState W S). ServesReady wires calls now taken (record s { is_owed = owed })) (sym same) (served_owed wires calls now taken served owed serves);
    passes = passes;
  }

  pub turn_fails : (old told taken new : LoopState W S) → Wakes old told → TakesWaiting calls now told taken → FailsReady wires calls now taken new → Fails wires calls old new
  turn_fails old told taken new wakes takes fails = inr (record { now = now; told = told; wakes = wakes; taken = taken; takes = takes; fails = fails })
