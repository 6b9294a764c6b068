use Rattle.std.proofs.Common.{[], ◌∷◌, refl, subst}
use Rattle.server_core.specs.ServerState.{ServerState, LetsGoOfEnded}
use Rattle.server_core.proofs.server.Server.let_go_of_next.Goals as goal

pub returns-in-Some : goal.returns-in-Some
returns-in-Some g c =
    let m = c.self.inside in
    let left : ServerState g.row.S.Denot = record { store = c.let_go.new.self; buckets = c.next_given_up.new.self; clock = m.clock; capacity = m.capacity; readonly = m.readonly } in
    subst (λ (s : ServerState g.row.S.Denot). LetsGoOfEnded g.S.Store.calls s left) c.self.view_is
    (record {
      ids = c.in-Some.id ∷ [];
      store = (c.let_go.new.self, c.in-Some.ensures.idle, c.let_go.ensures, refl);
      buckets = c.next_given_up.ensures.same;
      clock = refl;
      terms = record { capacity = refl; readonly = refl };
    })
