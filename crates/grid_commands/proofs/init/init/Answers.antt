use Rattle.std.proofs.Common.{All, Bor, List, ℕ, map, subst}
use Rattle.std.proofs.lemmas.Result.{IfOk-weaker}
use Rattle.grid_marks.specs.declared.addresses.AddressFile.{AddressFile}
use Rattle.grid_commands.specs.Elsewhere.{AreNamed, IsNewServer}
use Rattle.grid_commands.proofs.ElsewhereLemmas.{all_servers, server_of}
use Rattle.grid_commands.proofs.init.init.Goals as goal

pub returns : goal.returns
returns g c =
    let count = c.in_ok-servers.servers in
    let files = c.in_ok-elsewhere.elsewhere.items in
    let marking = c.args.words.now.marking in
    IfOk-weaker c.lines_of.result _ _ (λ lines told. record {
      count = count;
      few = c.in_ok-servers.ensures.few;
      marked = c.in_ok-servers.ensures.marked;
      servers = map server_of files;
      named = subst (λ (words : List (Bor (List ℕ))). AreNamed words (map server_of files)) c.as_slice.ensures.value c.in_ok-elsewhere.ensures.named;
      distinct = c.in_ok-elsewhere.ensures.distinct;
      new = all_servers marking count files (subst (All (λ (f : AddressFile). IsNewServer marking count f.server)) c.as_slice-2.ensures.value c.in_ok-servers.ensures.new);
      secret = told.0;
      kept = told.1;
      takes = c.in_ok-refuse_ways.ensures;
      told = told.2;
    }) c.lines_of.ensures
