-- A download that runs holds nothing back.
use Rattle.std.specs.Prelude.{Bool, List, Option, Some, None, ⊤}
use Rattle.request_record.specs.declared.requests.Request.{Request}
use Rattle.download_core.specs.ReadingPrompt.{IsPrompt}
use Rattle.download_core.specs.State.{DownloadState, Found}

abbrev pub IsPromptIfFound : Bool → List Request → Option Found → Type 0
IsPromptIfFound patient entries None = ⊤
IsPromptIfFound patient entries (Some f) = IsPrompt patient entries f.file

-- Once an extension block is accepted, each segment is handed out as soon as all that it is made of
-- was answered: the next one lacks something that is not. Where the download is patient, eight
-- segments may be on their way instead.
abbrev pub HoldsNothingBack : Bool → DownloadState → Type 0
HoldsNothingBack patient d = IsPromptIfFound patient d.requests.entries d.found
