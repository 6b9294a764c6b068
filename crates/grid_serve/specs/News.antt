-- What is told of clients.
use Rattle.std.specs.Prelude.{ℕ, ◌++◌, List, codes, decimal}
use Rattle.connections.specs.declared.fault.ConnectionFault.TheVariants as fault
use Rattle.grid_serving.specs.declared.clients.Why.{Why}
use Rattle.grid_serving.specs.declared.clients.Why.TheVariants as why
use Rattle.grid_serving.specs.declared.serving.News.{News}
use Rattle.grid_serving.specs.declared.serving.News.TheVariants.{Came, Refused, Gone}

abbrev pub why_text : Why → List ℕ
why_text (why.Ended fault.Ended) = codes "it ended the connection"
why_text (why.Ended fault.OtherGreeting) = codes "it is none of this server's clients"
why_text (why.Ended fault.NoFrame) = codes "it sent what is no frame"
why_text (why.Ended fault.OutOfMemory) = codes "there was not enough memory for it"
why_text why.Late = codes "nothing came and nothing went for too long"
why_text why.NoPlace = codes "it had not greeted, and another one came"
why_text why.OutOfMemory = codes "there was not enough memory for its message"

-- the line that tells what happened to a client, with its end
abbrev pub news_text : News → List ℕ
news_text (Came node) = codes "client " ++ (decimal node ++ codes " came\n")
news_text Refused = codes "a client was refused: no place is free\n"
news_text (Gone gone) =
    codes "client " ++ (decimal gone.node ++ (codes " is gone: " ++ (why_text gone.why
    ++ codes "\n")))
