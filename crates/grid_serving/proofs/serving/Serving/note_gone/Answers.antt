use Rattle.std.proofs.Common.{◌∙◌, ap, refl}
use Rattle.std.specs.Prelude.{List, Option}
use Rattle.grid_serving.specs.Places.{ClientState}
use Rattle.connections.specs.declared.ends.Nonblocking.{Nonblocking}
use Rattle.connections.specs.declared.socket.Socket.{Socket}
use Rattle.grid_serving.specs.Loops.{LoopState}
use Rattle.grid_serving.proofs.Looping.{gone_on, none_told, same_told}
use Rattle.grid_serving.proofs.serving.Serving.note_gone.Goals as goal

pub loop-init : goal.loop-init
loop-init g c = (none_told c.args.self.now.news, refl)

pub loop-preserved : goal.loop-preserved
loop-preserved g c =
    let inner : LoopState (Nonblocking Socket) g.row.S.Denot = record {
      listener = c.self.inside.listener;
      server = c.self.inside.server;
      own = c.self.inside.desk.own;
      clients = c.self.inside.clients;
      clock = c.self.inside.clock;
      comes = c.self.inside.comes;
      is_owed = c.self.inside.is_owed;
      news = c.self.inside.news.items;
    } in
    let here : LoopState (Nonblocking Socket) g.row.S.Denot = record inner { clients = c.next_gone.new.self } in
    let same = ap (λ (cs : List (Option (ClientState (Nonblocking Socket)))). record inner { clients = cs }) c.next_gone.ensures ∙ c.self.view_is in
    gone_on c.in-Some.gone here c.args.self.now c.loop.self c.note.new.self same c.loop.invariant c.note.ensures.news c.note.ensures.others

pub returns-in_default-clause-news : goal.returns-in_default-clause-news
returns-in_default-clause-news g c =
    let inner : LoopState (Nonblocking Socket) g.row.S.Denot = record {
      listener = c.self.inside.listener;
      server = c.self.inside.server;
      own = c.self.inside.desk.own;
      clients = c.self.inside.clients;
      clock = c.self.inside.clock;
      comes = c.self.inside.comes;
      is_owed = c.self.inside.is_owed;
      news = c.self.inside.news.items;
    } in
    let here : LoopState (Nonblocking Socket) g.row.S.Denot = record inner { clients = c.next_gone.new.self } in
    let same = ap (λ (cs : List (Option (ClientState (Nonblocking Socket)))). record inner { clients = cs }) c.next_gone.ensures ∙ c.self.view_is in
    (same_told here c.args.self.now c.loop.self same c.loop.invariant).0

pub returns-in_default-clause-others : goal.returns-in_default-clause-others
returns-in_default-clause-others g c =
    let inner : LoopState (Nonblocking Socket) g.row.S.Denot = record {
      listener = c.self.inside.listener;
      server = c.self.inside.server;
      own = c.self.inside.desk.own;
      clients = c.self.inside.clients;
      clock = c.self.inside.clock;
      comes = c.self.inside.comes;
      is_owed = c.self.inside.is_owed;
      news = c.self.inside.news.items;
    } in
    let here : LoopState (Nonblocking Socket) g.row.S.Denot = record inner { clients = c.next_gone.new.self } in
    let same = ap (λ (cs : List (Option (ClientState (Nonblocking Socket)))). record inner { clients = cs }) c.next_gone.ensures ∙ c.self.view_is in
    (same_told here c.args.self.now c.loop.self same c.loop.invariant).1
