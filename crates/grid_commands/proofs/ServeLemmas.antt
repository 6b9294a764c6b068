-- How a command that serves ends, and which commands end by themselves.
use Rattle.std.proofs.Common.{◌≡◌, ℕ, List, Option, Result, Ok, Err, refl, subst, sym}
use Rattle.grid_servers.specs.Grids.{GridCalls}
use Rattle.sources.specs.Opened.{Opened}
use Rattle.grid_gets.specs.Files.{FileAct}
use Rattle.grid_words.specs.declared.words.Request.{Request}
use Rattle.grid_words.specs.declared.words.Request.TheVariants.{Init, Put, Get, GetFiles, Check, CheckFiles, Verify, VerifyFiles, Repair, RepairFiles, Scrub, Serve, Status}
use Rattle.grid_words.specs.declared.words.Request.TheVariants.{World, Describe}
use Rattle.grid_words.specs.declared.words.ServeWords.{ServeWords}
use Rattle.grid_commands.specs.Commands.{EndsByItself, IsServedBy}
use Rattle.grid_commands.specs.Exit.{IsServingEnd}

pub serve_run : {F S : Type 0} (gives : Opened F → ℕ → List ℕ → Opened F → Type 0) (calls : GridCalls S) (request : Request) (status : ℕ) (out : Option (List ℕ))
    (acts : Option (List FileAct)) (words : ServeWords) → request ≡ Serve words → IsServingEnd status → IsServedBy gives calls request status out out acts acts
serve_run gives calls request status out acts words is ended =
    subst (λ (r : Request). IsServedBy gives calls r status out out acts acts) (sym is)
    (record { ended = Ok status; run = record { done = record { end = ended; unwritten = refl }; undone = tt; filed = refl }; exit = refl })

pub other_ends : (request : Request) → ((words : ServeWords) → request ≡ Serve words → ⊥) → EndsByItself request
other_ends (Serve words) other = other words refl
other_ends (Init words) other = tt
other_ends (Put words) other = tt
other_ends (Get words) other = tt
other_ends (GetFiles words) other = tt
other_ends (Check words) other = tt
other_ends (CheckFiles words) other = tt
other_ends (Verify words) other = tt
other_ends (VerifyFiles words) other = tt
other_ends (Repair words) other = tt
other_ends (RepairFiles words) other = tt
other_ends (Scrub words) other = tt
other_ends (Status words) other = tt
other_ends (World path) other = tt
other_ends (Describe text) other = tt
