-- What is told of a world at a script's end.
use Rattle.std.specs.Prelude.{ℕ, List, [], ◌∷◌, ◌++◌, ◌+◌, Bool, true, false, codes, decimal}
use Rattle.std.specs.Prelude.{length, map, sum}
use Rattle.download_segments.specs.declared.piece.Piece.{Piece}
use Rattle.world_operations.specs.declared.job.Job.{Job}
use Rattle.world_operations.specs.declared.job.Job.TheVariants.{Upload, Download, Check, Repair}
use Rattle.world_operations.specs.declared.job.Job.TheVariants.{Changing, NoRepair}
use Rattle.world_operations.specs.declared.operation.Operation.{Operation}
use Rattle.world_operations.specs.declared.status.Status.{Status}
use Rattle.world_operations.specs.declared.status.Status.TheVariants.{Running, Forgotten, Happy}
use Rattle.world_operations.specs.declared.status.Status.TheVariants.{Unhappy, Done}
use Rattle.world_operations.specs.declared.status.Status.TheVariants.{NotEnoughShares}
use Rattle.world_operations.specs.declared.status.Status.TheVariants.{Inconsistent, Failed}
use Rattle.world_operations.specs.Status.{status_of}

abbrev pub kind_text : Job → List ℕ
kind_text (Upload file secret p) = codes "upload"
kind_text (Changing file other after secret p) = codes "upload"
kind_text (Download cap from to) = codes "download"
kind_text (Check cap) = codes "check"
kind_text (Repair cap happy) = codes "repair"
kind_text (NoRepair cap why) = codes "repair"

-- how many bytes these pieces have together
abbrev pub byte_count : List Piece → ℕ
byte_count pieces = sum (map (λ (piece : Piece). length piece.bytes) pieces)

-- A download that is done tells how many bytes it handed out.
abbrev pub done_text : Job → List Piece → List ℕ
done_text (Download cap from to) given = codes "done " ++ decimal (byte_count given)
done_text job given = codes "done"

abbrev pub status_text : Status → Job → List Piece → List ℕ
status_text (Happy pairs) job given = codes "happy " ++ decimal pairs
status_text (Unhappy reached wanted) job given =
    codes "unhappy " ++ (decimal reached ++ (codes " " ++ decimal wanted))
status_text Done job given = done_text job given
status_text Running job given = codes "running"
status_text Forgotten job given = codes "forgotten"
status_text NotEnoughShares job given = codes "not-enough"
status_text Inconsistent job given = codes "inconsistent"
status_text (Failed fault) job given = codes "failed"

-- the line of an operation, by its number
abbrev pub operation_line : ℕ → Operation → List ℕ
operation_line number op = decimal number ++ (codes " " ++ (kind_text op.job
    ++ (codes " " ++ (status_text (status_of op) op.job op.given ++ codes "\n"))))

-- the lines of operations, of which the first has this number
abbrev pub lines_from : ℕ → List Operation → List ℕ
lines_from number [] = []
lines_from number (op ∷ ops) = operation_line number op ++ lines_from (number + 1) ops

abbrev pub word_of : Bool → List ℕ
word_of true = codes "yes"
word_of false = codes "no"

-- the lines after them: whether all bytes agree, and how many events were taken
abbrev pub end_lines : Bool → ℕ → List ℕ
end_lines agrees events = codes "agree "
    ++ (word_of agrees ++ (codes "\nevents " ++ (decimal events ++ codes "\n")))

abbrev pub ending_text : List Operation → Bool → ℕ → List ℕ
ending_text operations agrees events = lines_from 0 operations ++ end_lines agrees events
