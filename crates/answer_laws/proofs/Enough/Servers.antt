-- What an answer of a sound server tells.
use Rattle.std.proofs.Common.{Some, Ok}
use Rattle.server_core.proofs.Keeps.{messages_keep}
use Rattle.answer_laws.proofs.Servers.Telling.{asks_list_all, reads_bring_closed}
use Rattle.answer_laws.specs.Enough.Servers.{ServersTellAll}

pub servers_tell_all : ServersTellAll
servers_tell_all old new from now request r sound serves = record {
  tells = (messages_keep old new from now request (Ok (Some r)) sound serves).answers.tells;
  lists = λ index is. asks_list_all old new from now request r index is serves;
  brings = λ id offset len is. reads_bring_closed old new from now request r id offset len is serves;
}
