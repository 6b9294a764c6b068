-- What a hasher has taken in once more data is hashed.
use Rattle.std.proofs.Common.{◌≡◌, ℕ, List, [], ◌++◌, Some, subst, sym, ap, ◌∙◌}
use Rattle.std.proofs.lemmas.List.{append_assoc}
use Rattle.std.proofs.Math.Logic.{∥∥₁_elim, ∥∥₁_prop}
use Rattle.std.specs.Coded.{Coded-set, coded_ℕ, coded_list}
use Rattle.std.proofs.lemmas.Option.{same_Some}
use Rattle.std.specs.Prelude.{slice_get}
use Rattle.sha2_lanes.specs.Stream.{HasMessage, HoldsIn, Taken, taken_by, taken_of, with_more}
use Rattle.sha2_lanes.specs.Stream as streams
use Rattle.sha2_lanes.specs.declared.stream.Sha256Stream.{Sha256Stream}
use Rattle.sha2_lanes.proofs.TakenLemmas as lanes
use Rattle.tagged_hash.specs.TaggedHash.{netstring, tagged_input}
use Rattle.tagged_hash.specs.Tag.{tag_text}
use Rattle.tagged_hash.specs.TaggedHasher.{HasData, Holds, IsInput, input_of}
use Rattle.tagged_hash.specs.declared.tag.Tag.{Tag}
use Rattle.tagged_hash.specs.declared.hasher.TaggedHasher.{TaggedHasher}

pub taken_held : (h : TaggedHasher) (tag : Tag) (given : List ℕ) → Holds h tag given → input_of h ≡ taken_of (tagged_input tag given)
unfolding Holds IsInput
taken_held h tag given held = lanes.taken_held h.input.stream (tagged_input tag given) held

pub held_taken : (h : TaggedHasher) (tag : Tag) (given : List ℕ) → input_of h ≡ taken_of (tagged_input tag given) → Holds h tag given
unfolding Holds IsInput
held_taken h tag given is = lanes.held_taken h.input.stream (tagged_input tag given) is

-- more data is more of the hash input
pub more_of : (tag : Tag) (given w : List ℕ) → with_more (taken_of (tagged_input tag given)) w ≡ taken_of (tagged_input tag (given ++ w))
more_of tag given w = lanes.more_of (tagged_input tag given) w ∙ ap taken_of (append_assoc (netstring (tag_text tag)) given w)

-- equations of what is taken in have one proof at most
same_taken : {X : Type 0} (a b : Taken) → ∥ X ∥₁ → (X → a ≡ b) → a ≡ b
same_taken a b some turn =
    let total : a.total ≡ b.total = ∥∥₁_elim some (Coded-set coded_ℕ _ _) (λ x. ap (λ (t : Taken). t.total) (turn x)) in
    let hash : a.hash ≡ b.hash = ∥∥₁_elim some (Coded-set (coded_list coded_ℕ) _ _) (λ x. ap (λ (t : Taken). t.hash) (turn x)) in
    let rest : a.rest ≡ b.rest = ∥∥₁_elim some (Coded-set (coded_list coded_ℕ) _ _) (λ x. ap (λ (t : Taken). t.rest) (turn x)) in
    (λ i. record { total = total i; hash = hash i; rest = rest i })

-- the hasher h was given w more, which makes it n
abbrev pub Gives : TaggedHasher → List ℕ → TaggedHasher → Type 0
Gives h w n = (tag : Tag) (given : List ℕ) → Holds h tag given → Holds n tag (given ++ w)

pub given_more : (h n : TaggedHasher) (w : List ℕ) → ∥ HasData h ∥₁ → Gives h w n → ∥ HasData n ∥₁
given_more h n w some gives = ∥∥₁_elim some ∥∥₁_prop (λ d. ∣ (d.0, (d.1.0 ++ w, gives d.0 d.1.0 d.1.1)) ∣₁)

pub hashed : (h n : TaggedHasher) (w : List ℕ) → ∥ HasData h ∥₁ → Gives h w n → input_of n ≡ with_more (input_of h) w
hashed h n w some gives =
    same_taken (input_of n) (with_more (input_of h) w) some
    (λ d.
    taken_held n d.0 (d.1.0 ++ w) (gives d.0 d.1.0 d.1.1) ∙ sym (more_of d.0 d.1.0 w)
    ∙ ap (λ (t : Taken). with_more t w) (sym (taken_held h d.0 d.1.0 d.1.1)))

-- nothing waits
pub none_more : (h : TaggedHasher) (w : List ℕ) → ∥ HasData h ∥₁ → w ≡ [] → with_more (input_of h) w ≡ input_of h
none_more h w some none =
    ap (with_more (input_of h)) none
    ∙ same_taken (with_more (input_of h) []) (input_of h) some
    (λ d.
    let is = taken_held h d.0 d.1.0 d.1.1 in
    ap (λ (t : Taken). with_more t []) is ∙ lanes.more_none (tagged_input d.0 d.1.0) ∙ sym is)

-- a hasher that comes to what another does with w more was given some data too
pub taken_over : (h n : TaggedHasher) (w : List ℕ) → ∥ HasData h ∥₁ → input_of n ≡ with_more (input_of h) w → ∥ HasData n ∥₁
taken_over h n w some is =
    ∥∥₁_elim some ∥∥₁_prop
    (λ d.
    let own : input_of n ≡ taken_of (tagged_input d.0 (d.1.0 ++ w)) =
    is ∙ ap (λ (t : Taken). with_more t w) (taken_held h d.0 d.1.0 d.1.1) ∙ more_of d.0 d.1.0 w in
    ∣ (d.0, (d.1.0 ++ w, held_taken n d.0 (d.1.0 ++ w) own)) ∣₁)

pub has_message : (h : TaggedHasher) → ∥ HasData h ∥₁ → ∥ HasMessage h.input.stream ∥₁
unfolding Holds IsInput
has_message h some = ∥∥₁_elim some ∥∥₁_prop (λ d. ∣ (tagged_input d.0 d.1.0, d.1.1) ∣₁)

-- one of several hashers that were given what waited
pub one_of : (s : Sha256Stream) (w : List ℕ) (all : List Sha256Stream) (j : ℕ) (n : TaggedHasher) (old : Taken) → with_more (taken_by s) w ≡ old → ∥ HasMessage s ∥₁
    → ((m : List ℕ) → streams.Holds s m → HoldsIn all j (m ++ w)) → slice_get all j ≡ Some n.input.stream → input_of n ≡ old
one_of s w all j n old whole some gives there =
    same_taken (input_of n) old some
    (λ d.
    let made = gives d.0 d.1 in
    let own : made.stream ≡ n.input.stream = same_Some made.stream n.input.stream (sym made.there ∙ there) in
    lanes.taken_held n.input.stream (d.0 ++ w) (subst (λ (x : Sha256Stream). streams.Holds x (d.0 ++ w)) own made.holds)
    ∙ sym (lanes.more_of d.0 w) ∙ ap (λ (t : Taken). with_more t w) (sym (lanes.taken_held s d.0 d.1)) ∙ whole)
