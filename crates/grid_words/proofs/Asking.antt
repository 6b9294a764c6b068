-- What a request says of the subcommand that a parse entered.
use Rattle.std.proofs.Common.{◌≡◌, sym, subst, refl, true, List, Option, Some, None, Result, Ok, Err, IfErr}
use Rattle.std.specs.Option.{option_map}
use Rattle.std.specs.Prelude.{IsErrAnd}
use Rattle.clap.specs.Matches.{subcommand_name_of}
use Rattle.clap.specs.Simple.{is_simple, subcommand_rows_of}
use Rattle.clap.specs.Walk.{Row, Text}
use Rattle.clap.specs.declared.parser.matches.ArgMatches.{ArgMatches}
use Rattle.grid_words.specs.Asked.{Asks, IsAsked}
use Rattle.grid_words.specs.CommandLine.{grid_app}
use Rattle.grid_words.specs.declared.words.Request.{Request}

pub grid_is_simple : (grid : Option Text) → is_simple (grid_app grid) ≡ true
grid_is_simple None = refl
grid_is_simple (Some grid) = refl

first_of_pairs : {X : Type 0} (f : X → Text) (g : X → List Row) (found : Option X)
    → option_map (λ (p : Text × List Row). p.0) (option_map (λ x. (f x, g x)) found) ≡ option_map f found
first_of_pairs f g None = refl
first_of_pairs f g (Some x) = refl

pub name_in_rows : (m : ArgMatches) → option_map (λ (p : Text × List Row). p.0) (subcommand_rows_of m) ≡ subcommand_name_of m
name_in_rows m = first_of_pairs _ _ _

-- a request is asked by what has this name and these rows
pub asked : (entered : Option (Text × List Row)) (name : Text) (rows : List Row) (request : Request)
    → option_map (λ (p : Text × List Row). p.0) entered ≡ Some name → option_map (λ (p : Text × List Row). p.1) entered ≡ Some rows
    → Asks name rows request → IsAsked entered request
asked None name rows request named held asks = cc
asked (Some p) name rows request named held asks =
    let same_name : p.0 ≡ name = cc in
    let same_rows : p.1 ≡ rows = cc in
    subst (λ (n : Text). Asks n p.1 request) (sym same_name)
    (subst (λ (r : List Row). Asks name r request) (sym same_rows) asks)

-- an error that is handed on
pub handed_on : {X E : Type 0} (r : Result X E) (error : E) (P : E → Type 0) → IsErrAnd r (λ e. e ≡ error)
    → P error → IfErr r P
handed_on (Ok x) error P is holds = absurd is
handed_on (Err e) error P is holds = subst P (sym is) holds
