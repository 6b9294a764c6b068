-- What plans give next is what their commands make next.
use Rattle.std.proofs.Common.{◌≡◌, inl, inr, ℕ, suc, ◌+◌, ◌<◌, ◌%◌, List, [], ◌∷◌, ◌++◌, Bool, length, reverse, Option, Some, None, refl, sym, ap, subst, ◌∙◌, arith, append_assoc}
use Rattle.std.specs.Prelude.{slice_get}
use Rattle.std.proofs.lemmas.List.{reverse-append, length-append}
use Rattle.rand_pcg.specs.Lcg.{Lcg}
use Rattle.rand_pcg.specs.Pcg.{pcg32}
use Rattle.world_operations.specs.declared.operation.Operation.{Operation}
use Rattle.world.specs.declared.event.Event.{Event}
use Rattle.world.specs.declared.event.Event.TheVariants.{Deliver, Start}
use Rattle.world_script.specs.declared.command.Command.{Command}
use Rattle.world_script.specs.declared.command.Command.TheVariants as commands
use Rattle.world_script.specs.declared.plan.Plan.{Plan}
use Rattle.world_script.specs.declared.plan.Plan.TheVariants.{Fixed, Oldest, Drawn}
use Rattle.cap_text.specs.Cap.{ReadCapValue, verify_cap_of}
use Rattle.file_encoding.specs.Params.{UploadParameters}
use Rattle.world_operations.specs.declared.job.Job.{Job}
use Rattle.world_operations.specs.declared.job.Job.TheVariants.{Upload, Download, Check}
use Rattle.world_script.specs.Events.{AreEventsOf, IsCapOf, IsEventOf, IsOldest, MakesNext, after_words, most_drained}
use Rattle.world_script.specs.Plans.{AreMarked, GivesNext, IsFirstLeft, IsPlanOf, IsUploadCap, MakesNone, most_of}

-- so many events are there in all, of which so many were made
abbrev pub IsMost : Plan → ℕ → ℕ → Type 0
IsMost (Fixed left) made most = length left.items + made ≡ most
IsMost Oldest made most = most ≡ most_drained
IsMost (Drawn words count) made most = most ≡ count

-- the events of a command that has them at once
makes_fixed : (command : Command) (honest : ℕ) (ops : List Operation) (before made events : List Event) (sent : ℕ) (next : Option Event) → AreEventsOf command honest ops events → slice_get events (length made) ≡ next → MakesNext command honest ops before made sent next
makes_fixed commands.Drain honest ops before made events sent next are at = absurd are.1
makes_fixed (commands.Random seed count) honest ops before made events sent next are at = absurd are.1
makes_fixed (commands.Upload a b p) honest ops before made events sent next are at = (events, are, at)
makes_fixed (commands.Download a b) honest ops before made events sent next are at = (events, are, at)
makes_fixed (commands.DownloadRange a b d e) honest ops before made events sent next are at = (events, are, at)
makes_fixed (commands.Check a b) honest ops before made events sent next are at = (events, are, at)
makes_fixed (commands.Repair a b d) honest ops before made events sent next are at = (events, are, at)
makes_fixed (commands.Deliver a) honest ops before made events sent next are at = (events, are, at)
makes_fixed (commands.Pass a) honest ops before made events sent next are at = (events, are, at)
makes_fixed (commands.Restart a) honest ops before made events sent next are at = (events, are, at)
makes_fixed (commands.Fail a) honest ops before made events sent next are at = (events, are, at)
makes_fixed (commands.Refuse a) honest ops before made events sent next are at = (events, are, at)
makes_fixed (commands.Turn a) honest ops before made events sent next are at = (events, are, at)
makes_fixed (commands.Forge a b d) honest ops before made events sent next are at = (events, are, at)

-- a command that has no events makes none
pub makes_none : (command : Command) (honest : ℕ) (ops : List Operation) → (command ≡ commands.Drain → ⊥) → ((seed count : ℕ) → command ≡ commands.Random seed count → ⊥) → ((events : List Event) → AreEventsOf command honest ops events → ⊥) → MakesNone command honest ops
makes_none commands.Drain honest ops drain random none before sent next makes = drain refl
makes_none (commands.Random seed count) honest ops drain random none before sent next makes = random seed count refl
makes_none (commands.Upload a b p) honest ops drain random none before sent next makes = none makes.0 makes.1
makes_none (commands.Download a b) honest ops drain random none before sent next makes = none makes.0 makes.1
makes_none (commands.DownloadRange a b d e) honest ops drain random none before sent next makes = none makes.0 makes.1
makes_none (commands.Check a b) honest ops drain random none before sent next makes = none makes.0 makes.1
makes_none (commands.Repair a b d) honest ops drain random none before sent next makes = none makes.0 makes.1
makes_none (commands.Deliver a) honest ops drain random none before sent next makes = none makes.0 makes.1
makes_none (commands.Pass a) honest ops drain random none before sent next makes = none makes.0 makes.1
makes_none (commands.Restart a) honest ops drain random none before sent next makes = none makes.0 makes.1
makes_none (commands.Fail a) honest ops drain random none before sent next makes = none makes.0 makes.1
makes_none (commands.Refuse a) honest ops drain random none before sent next makes = none makes.0 makes.1
makes_none (commands.Turn a) honest ops drain random none before sent next makes = none makes.0 makes.1
makes_none (commands.Forge a b d) honest ops drain random none before sent next makes = none makes.0 makes.1

behind : {X : Type 0} (xs : List X) (x : X) (ys : List X) → slice_get (xs ++ x ∷ ys) (length xs) ≡ Some x
behind [] x ys = refl
behind (z ∷ zs) x ys = behind zs x ys

past : {X : Type 0} (xs : List X) → slice_get (xs ++ []) (length xs) ≡ None
past [] = refl
past (z ∷ zs) = past zs

-- the oldest message that was not delivered
oldest_of : (flags : List Bool) (events : List Event) (sent position : ℕ) → AreMarked flags events → IsFirstLeft flags sent (Some position) → IsOldest events sent position
oldest_of flags events sent position marks first = record {
  there = first.0;
  left = λ found. first.1 ((marks position).1 found);
  older = λ p low. (marks p).0 (first.2 p low);
}

-- the generator after one more word
one_word : (seed n : ℕ) → (pcg32 (after_words seed n)).1 ≡ after_words seed (suc n)
unfolding after_words
one_word seed n = refl

next_words : (seed n : ℕ) → (pcg32 (after_words seed n)).1 ≡ after_words seed (n + 1)
next_words seed n = (let k : suc n ≡ n + 1 = omega arith in one_word seed n ∙ ap (λ (m : ℕ). after_words seed m) k)

-- what a plan gives next
pub record GoesOn (command : Command) (honest : ℕ) (ops : List Operation) (before made : List Event) (sent most : ℕ) (event : Event) (new : Plan) : Type 0 where
  pub makes : MakesNext command honest ops before made sent (Some event)
  pub plan : IsPlanOf new command honest ops (made ++ event ∷ [])
  pub most_is : IsMost new (length made + 1) most

pub gives_some : (plan new : Plan) (command : Command) (honest : ℕ) (ops : List Operation) (before made : List Event) (flags : List Bool) (sent most : ℕ) (event : Event) → IsPlanOf plan command honest ops made → IsMost plan (length made) most → length made < most → AreMarked flags (before ++ made) → GivesNext plan flags sent (Some event) new → GoesOn command honest ops before made sent most event new
gives_some (Fixed left) (Fixed rest) command honest ops before made flags sent most event is all low marks next =
    let turned : reverse left.items ≡ event ∷ reverse rest.items = ap reverse next ∙ reverse-append rest.items (event ∷ []) in
    let events : is.0 ≡ made ++ event ∷ reverse rest.items = is.2 ∙ ap (λ (l : List Event). made ++ l) turned in
    let count : length left.items ≡ length rest.items + 1 = ap length next ∙ length-append rest.items (event ∷ []) in
    record {
      makes = makes_fixed command honest ops before made is.0 sent (Some event) is.1 (ap (λ (l : List Event). slice_get l (length made)) events ∙ behind made event (reverse rest.items));
      plan = (is.0, is.1, events ∙ sym (append_assoc made (event ∷ []) (reverse rest.items)));
      most_is = omega (arith, all, count);
    }
gives_some (Fixed left) Oldest command honest ops before made flags sent most event is all low marks next = absurd next
gives_some (Fixed left) (Drawn w n) command honest ops before made flags sent most event is all low marks next = absurd next
gives_some Oldest new command honest ops before made flags sent most event is all low marks (Some position, first, at, e) =
    record {
      makes = subst (λ (k : Command). MakesNext k honest ops before made sent (Some event)) (sym is) (omega (arith, low, all), (position, oldest_of flags (before ++ made) sent position marks first, at));
      plan = subst (λ (q : Plan). IsPlanOf q command honest ops (made ++ event ∷ [])) (sym e) is;
      most_is = subst (λ (q : Plan). IsMost q (length made + 1) most) (sym e) all;
    }
gives_some Oldest new command honest ops before made flags sent most event is all low marks (None, first, at, e) = absurd cc
gives_some (Drawn words count) (Drawn rest same) command honest ops before made flags sent most event (seed, k, w) all low marks (Some position, drawn, at, e) =
    record {
      makes = subst (λ (k : Command). MakesNext k honest ops before made sent (Some event)) (sym k) (omega (arith, low, all), drawn.0, at ∙ ap Deliver (drawn.1 ∙ ap (λ (g : Lcg). (pcg32 g).0 % sent) w));
      plan = (seed, k ∙ ap (λ (n : ℕ). commands.Random seed n) (sym e), drawn.2 ∙ ap (λ (g : Lcg). (pcg32 g).1) w ∙ next_words seed (length made) ∙ ap (λ (n : ℕ). after_words seed n) (sym (length-append made (event ∷ []))));
      most_is = all ∙ sym e;
    }
gives_some (Drawn words count) (Drawn rest same) command honest ops before made flags sent most event is all low marks (None, drawn, at, e) = absurd cc
gives_some (Drawn words count) (Fixed rest) command honest ops before made flags sent most event is all low marks next = absurd next
gives_some (Drawn words count) Oldest command honest ops before made flags sent most event is all low marks next = absurd next

pub gives_none : (plan new : Plan) (command : Command) (honest : ℕ) (ops : List Operation) (before made : List Event) (flags : List Bool) (sent : ℕ) → IsPlanOf plan command honest ops made → AreMarked flags (before ++ made) → GivesNext plan flags sent None new → MakesNext command honest ops before made sent None
gives_none (Fixed left) new command honest ops before made flags sent is marks next =
    let events : is.0 ≡ made ++ [] = is.2 ∙ ap (λ (l : List Event). made ++ reverse l) next in
    makes_fixed command honest ops before made is.0 sent None is.1 (ap (λ (l : List Event). slice_get l (length made)) events ∙ past made)
gives_none Oldest new command honest ops before made flags sent is marks (None, first, at, e) =
    subst (λ (k : Command). MakesNext k honest ops before made sent None) (sym is) (inr (λ p low. (marks p).0 (first p low)))
gives_none Oldest new command honest ops before made flags sent is marks (Some position, first, at, e) = absurd cc
gives_none (Drawn words count) (Drawn rest same) command honest ops before made flags sent (seed, k, w) marks (None, drawn, at, e) =
    subst (λ (k : Command). MakesNext k honest ops before made sent None) (sym k) (inr drawn.0)
gives_none (Drawn words count) (Drawn rest same) command honest ops before made flags sent is marks (Some position, drawn, at, e) = absurd cc
gives_none (Drawn words count) (Fixed rest) command honest ops before made flags sent is marks next = absurd next
gives_none (Drawn words count) Oldest command honest ops before made flags sent is marks next = absurd next

-- a plan that made as much as it makes at most makes no more
pub done_none : (plan : Plan) (command : Command) (honest : ℕ) (ops : List Operation) (before made : List Event) (sent most : ℕ) → IsPlanOf plan command honest ops made → IsMost plan (length made) most → length made ≡ most → MakesNext command honest ops before made sent None
done_none (Fixed left) command honest ops before made sent most is all done =
    let none : length left.items ≡ 0 = omega (arith, all, done) in
    let events : is.0 ≡ made ++ [] = is.2 ∙ ap (λ (l : List Event). made ++ reverse l) (nothing left.items none) in
    makes_fixed command honest ops before made is.0 sent None is.1 (ap (λ (l : List Event). slice_get l (length made)) events ∙ past made)
  where
    nothing : (l : List Event) → length l ≡ 0 → l ≡ []
    nothing [] e = refl
    nothing (x ∷ xs) e = absurd (omega (arith, e))
done_none Oldest command honest ops before made sent most is all done =
    subst (λ (k : Command). MakesNext k honest ops before made sent None) (sym is) (inl (done ∙ all))
done_none (Drawn words count) command honest ops before made sent most (seed, k, w) all done =
    subst (λ (k : Command). MakesNext k honest ops before made sent None) (sym k) (inl (done ∙ all))

pub first_most : (plan : Plan) → IsMost plan 0 (most_of plan)
first_most (Fixed left) = omega arith
first_most Oldest = refl
first_most (Drawn words count) = refl

-- an operation that is no upload with a cap has none by its number
pub no_cap : (operations : List Operation) (number : ℕ) (operation : Operation) (cap : ReadCapValue) → slice_get operations number ≡ Some operation → IsUploadCap operation.job None → IsCapOf operations number cap → ⊥
no_cap operations number operation cap at none is =
    let both : Some is.operation ≡ Some operation = sym is.at ∙ at in
    let same : is.operation ≡ operation = cc in
    let job : operation.job ≡ Upload is.file is.secret is.p = ap (λ (o : Operation). o.job) (sym same) ∙ is.job in
    (subst (λ (j : Job). IsUploadCap j None) job none) is.upload

pub nobody : (operations : List Operation) (number : ℕ) (cap : ReadCapValue) → slice_get operations number ≡ None → IsCapOf operations number cap → ⊥
nobody operations number cap at is = let both : Some is.operation ≡ None = sym is.at ∙ at in absurd cc

-- commands that start no operation have no event that starts one
pub no_start : (command : Command) (ops : List Operation) (node : ℕ) (job : Job) → ((a : ℕ) (b : List ℕ) (p : UploadParameters) → command ≡ commands.Upload a b p → ⊥) → ((a b : ℕ) → command ≡ commands.Download a b → ⊥) → ((a b d e : ℕ) → command ≡ commands.DownloadRange a b d e → ⊥) → ((a b : ℕ) → command ≡ commands.Check a b → ⊥) → IsEventOf command ops (Start node job) → ⊥
no_start (commands.Upload a b p) ops node job upload download range check is = upload a b p refl
no_start (commands.Download a b) ops node job upload download range check is = download a b refl
no_start (commands.DownloadRange a b d e) ops node job upload download range check is = range a b d e refl
no_start (commands.Check a b) ops node job upload download range check is = check a b refl
no_start (commands.Repair a b d) ops node job upload download range check is = absurd (let e = is.2 in cc)
no_start (commands.Deliver a) ops node job upload download range check is = absurd cc
no_start commands.Drain ops node job upload download range check is = absurd is
no_start (commands.Random a b) ops node job upload download range check is = absurd is
no_start (commands.Pass a) ops node job upload download range check is = absurd is
no_start (commands.Restart a) ops node job upload download range check is = absurd (let e = is.1 in cc)
no_start (commands.Fail a) ops node job upload download range check is = absurd (let e = is.1 in cc)
no_start (commands.Refuse a) ops node job upload download range check is = absurd cc
no_start (commands.Turn a) ops node job upload download range check is = absurd (let e = is.1 in cc)
no_start (commands.Forge a b d) ops node job upload download range check is = absurd (let e = is.2 in cc)

-- a command of none of these kinds has an event only if it has one that starts an operation
pub no_event : (command : Command) (ops : List Operation) (event : Event) → ((a : ℕ) → command ≡ commands.Deliver a → ⊥) → ((a : ℕ) → command ≡ commands.Refuse a → ⊥) → ((a : ℕ) → command ≡ commands.Restart a → ⊥) → ((a : ℕ) → command ≡ commands.Fail a → ⊥) → ((a : ℕ) → command ≡ commands.Turn a → ⊥) → ((a b d : ℕ) → command ≡ commands.Repair a b d → ⊥) → ((a b : ℕ) (d : List ℕ) → command ≡ commands.Forge a b d → ⊥) → ((node : ℕ) (job : Job) → IsEventOf command ops (Start node job) → ⊥) → IsEventOf command ops event → ⊥
no_event (commands.Upload a b p) ops event deliver refuse restart fail turn repair forge none is = none a (Upload b [] p) (is.0, refl)
no_event (commands.Download a b) ops event deliver refuse restart fail turn repair forge none is = none a (Download is.0 0 is.0.size) (is.0, is.1, is.2, refl)
no_event (commands.DownloadRange a b d e) ops event deliver refuse restart fail turn repair forge none is = none a (Download is.0 d e) (is.0, is.1, is.2, refl)
no_event (commands.Check a b) ops event deliver refuse restart fail turn repair forge none is = none a (Check (verify_cap_of is.0)) (is.0, is.1, is.2, refl)
no_event (commands.Repair a b d) ops event deliver refuse restart fail turn repair forge none is = repair a b d refl
no_event (commands.Deliver a) ops event deliver refuse restart fail turn repair forge none is = deliver a refl
no_event commands.Drain ops event deliver refuse restart fail turn repair forge none is = absurd is
no_event (commands.Random a b) ops event deliver refuse restart fail turn repair forge none is = absurd is
no_event (commands.Pass a) ops event deliver refuse restart fail turn repair forge none is = absurd is
no_event (commands.Restart a) ops event deliver refuse restart fail turn repair forge none is = restart a refl
no_event (commands.Fail a) ops event deliver refuse restart fail turn repair forge none is = fail a refl
no_event (commands.Refuse a) ops event deliver refuse restart fail turn repair forge none is = refuse a refl
no_event (commands.Turn a) ops event deliver refuse restart fail turn repair forge none is = turn a refl
no_event (commands.Forge a b d) ops event deliver refuse restart fail turn repair forge none is = forge a b d refl

-- a command that lets no time pass and has no event has no events
pub no_events : (command : Command) (honest : ℕ) (ops : List Operation) (events : List Event) → ((a : ℕ) → command ≡ commands.Pass a → ⊥) → ((event : Event) → IsEventOf command ops event → ⊥) → AreEventsOf command honest ops events → ⊥
no_events (commands.Pass a) honest ops events pass none are = pass a refl
no_events (commands.Upload a b p) honest ops events pass none are = none are.0 are.1
no_events (commands.Download a b) honest ops events pass none are = none are.0 are.1
no_events (commands.DownloadRange a b d e) honest ops events pass none are = none are.0 are.1
no_events (commands.Check a b) honest ops events pass none are = none are.0 are.1
no_events (commands.Repair a b d) honest ops events pass none are = none are.0 are.1
no_events (commands.Deliver a) honest ops events pass none are = none are.0 are.1
no_events (commands.Random a b) honest ops events pass none are = none are.0 are.1
no_events (commands.Restart a) honest ops events pass none are = none are.0 are.1
no_events (commands.Fail a) honest ops events pass none are = none are.0 are.1
no_events (commands.Refuse a) honest ops events pass none are = none are.0 are.1
no_events (commands.Turn a) honest ops events pass none are = none are.0 are.1
no_events (commands.Forge a b d) honest ops events pass none are = none are.0 are.1
no_events commands.Drain honest ops events pass none are = none are.0 are.1
