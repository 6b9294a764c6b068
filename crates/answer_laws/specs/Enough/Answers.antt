-- What a server's answers to an operation's requests tell of a share.
use Rattle.std.specs.Prelude.{◌≡◌, ℕ, List, Some, drop, slice_get, take}
use Rattle.wire.specs.declared.message.Body.{Body}
use Rattle.wire.specs.declared.message.Body.TheVariants.{Data}
use Rattle.request_record.specs.declared.requests.Asked.TheVariants.{Holdings, Reading}
use Rattle.request_record.specs.declared.requests.Outcome.TheVariants.{Answered, Lost}
use Rattle.request_record.specs.declared.requests.Request.{Request}
use Rattle.answer_laws.specs.Servers.Telling.{ListsShare}

-- the answer is a list that has the share's number
abbrev pub Lists : Body → ℕ → Type 0
Lists said num = (digest : List ℕ) × ListsShare said num digest

-- The server tells this share: each answer of it to an Ask lists the number, and each to a read of
-- the share has the bytes that the share has there: as many as asked, and fewer at its end.
pub record TellsShare (entries : List Request) (server num : ℕ) (share : List ℕ) : Type 0 where
  pub lists : (position : ℕ) (request : Request) (said : Body)
      → slice_get entries position ≡ Some request → request.server ≡ server
      → request.asked ≡ Holdings → request.outcome ≡ Answered said → Lists said num
  pub reads : (position offset len : ℕ) (request : Request) (said : Body)
      → slice_get entries position ≡ Some request → request.server ≡ server
      → request.asked ≡ Reading num offset len → request.outcome ≡ Answered said
      → said ≡ Data (take len (drop offset share))

-- one of the requests to the server was lost
pub record WasLost (entries : List Request) (server : ℕ) : Type 0 where
  pub position : ℕ
  pub request : Request
  pub there : slice_get entries position ≡ Some request
  pub of_server : request.server ≡ server
  pub lost : request.outcome ≡ Lost
