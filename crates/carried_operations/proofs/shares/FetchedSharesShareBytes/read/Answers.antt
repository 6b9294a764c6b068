use Rattle.std.proofs.Common.{inr}
use Rattle.carried_operations.proofs.shares.FetchedSharesShareBytes.read.Goals as goal

pub returns-in-Ok-false-clause-fails : goal.returns-in-Ok-false-clause-fails
returns-in-Ok-false-clause-fails g c =
    let stays = c.fetch.ensures.stays in
    record { index = stays.index; places = stays.places; why = inr (stays.lacks_memory, c.in-Ok-false.ensures.unread c.in-Ok-false.field-0-test) }
