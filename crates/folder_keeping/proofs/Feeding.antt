-- Buckets gather what is known to be written.
use Rattle.std.proofs.Common.{◌≡◌, ℕ, List, [], ◌∷◌, ◌++◌, Bool, true, false, cond, Option, Some, None, refl, sym, ◌∙◌, ap, subst, inl, inr, ◌⊎◌}
use Rattle.std.specs.Prelude.{filter, IsSome, nat_eq, unwrap_or}
use Rattle.wire.specs.declared.message.ShareId.{ShareId}
use Rattle.share_store.specs.Shelf.{key_of}
use Rattle.server_core.specs.declared.bucket.Gathered.{Gathered}
use Rattle.server_core.specs.declared.bucket.Gathered.TheVariants.{Part, Whole}
use Rattle.server_core.specs.declared.bucket.Bucket.{Bucket}
use Rattle.server_core.specs.Buckets.{same_id, bucket_at, changed, ended, Gathers, GoesOn, IsNothing, count_in, with_bytes, bytes_so_far}
use Rattle.server_core.specs.Sound.{AreApart}
use Rattle.server_core.proofs.Shares.{same_agrees}
use Rattle.server_core.proofs.Listed.{KeepsId, eq_of_same, other_of, bucket_push, bucket_push_other, apart_push, changed_other, changed_same, changed_none, apart_changed, apart_filter, filtered_found, ended_same, ended_other}
use Rattle.server_core.proofs.Kept.{grown}
use Rattle.server_core.proofs.Ended.{other_share}
use Rattle.folder_keeping.specs.Kept.{Contents, more_content, put_content}
use Rattle.folder_keeping.proofs.Keys.{is_some_of, none_some, put_there}

-- a bucket was given nothing yet, or what is known to be written
abbrev pub IsFedBy : Bucket → Option (List ℕ) → Type 0
IsFedBy b content = IsNothing b.gathered ⊎ ((bytes : List ℕ) × (content ≡ Some bytes) × Gathers b.length b.gathered bytes)

pub record AreFed (buckets : List Bucket) (known : Contents) : Type 0 where
  pub apart : AreApart buckets
  pub fed : (id : ShareId) (b : Bucket) → bucket_at id buckets ≡ Some b → IsFedBy b (known (key_of id))

abbrev pub OthersKnown : ShareId → Contents → Contents → Type 0
OthersKnown id old new = (other : ShareId) → same_id other id ≡ false → new (key_of other) ≡ old (key_of other)

pub others_known : (id : ShareId) (content : Option (List ℕ)) (known : Contents) → OthersKnown id known (put_content (key_of id) content known)
others_known id content known other apart = put_there (key_of id) (key_of other) content known (same_agrees id other ∙ other_of other id apart)

fed_same : (b : Bucket) (o p : Option (List ℕ)) → p ≡ o → IsFedBy b o → IsFedBy b p
fed_same b o p same fed = subst (λ (c : Option (List ℕ)). IsFedBy b c) (sym same) fed

one_bucket : (b c : Bucket) → Some b ≡ Some c → b ≡ c
one_bucket b c same = cc

pub none_fed : (known : Contents) (buckets : List Bucket) → buckets ≡ [] → AreFed buckets known
none_fed known buckets is = subst (λ (bs : List Bucket). AreFed bs known) (sym is) (record { apart = tt; fed = λ id b at. none_some b at })

pub changed_fed : (old new : Contents) (bs : List Bucket) (id : ShareId) (f : Bucket → Bucket) → KeepsId f → OthersKnown id old new
    → ((b : Bucket) → bucket_at id bs ≡ Some b → IsFedBy (f b) (new (key_of id))) → AreFed bs old → AreFed (changed id f bs) new
changed_fed old new bs id f k others here s = record {
  apart = apart_changed id f bs k s.apart;
  fed = λ other c e. by other c e (same_id other id) refl;
} where
  at_it : (c : Bucket) (o : Option Bucket) → bucket_at id bs ≡ o → bucket_at id (changed id f bs) ≡ Some c → IsFedBy c (new (key_of id))
  at_it c None none h = none_some c (sym (changed_none id f bs k none) ∙ h)
  at_it c (Some b) some h =
      subst (λ (x : Bucket). IsFedBy x (new (key_of id))) (one_bucket (f b) c (sym (changed_same id f bs b k some) ∙ h)) (here b some)

  by : (other : ShareId) (c : Bucket) → bucket_at other (changed id f bs) ≡ Some c → (same : Bool) → same_id other id ≡ same → IsFedBy c (new (key_of other))
  by other c e true is =
      let it : other ≡ id = eq_of_same other id is in
      subst (λ (i : ShareId). IsFedBy c (new (key_of i))) (sym it) (at_it c (bucket_at id bs) refl (subst (λ (i : ShareId). bucket_at i (changed id f bs) ≡ Some c) it e))
  by other c e false is = fed_same c (old (key_of other)) (new (key_of other)) (others other is) (s.fed other c (sym (changed_other id other f bs k is) ∙ e))

pub ended_fed : (old new : Contents) (bs : List Bucket) (id : ShareId) → OthersKnown id old new → AreFed bs old → AreFed (ended id bs) new
ended_fed old new bs id others s = record {
  apart = apart_filter _ bs s.apart;
  fed = λ other c e. by other c e (same_id other id) refl;
} where
  by : (other : ShareId) (c : Bucket) → bucket_at other (ended id bs) ≡ Some c → (same : Bool) → same_id other id ≡ same → IsFedBy c (new (key_of other))
  by other c e true is =
      let gone : bucket_at other (ended id bs) ≡ None = subst (λ (i : ShareId). bucket_at i (ended id bs) ≡ None) (sym (eq_of_same other id is)) (ended_same id bs) in
      none_some c (sym gone ∙ e)
  by other c e false is = fed_same c (old (key_of other)) (new (key_of other)) (others other is) (s.fed other c (sym (ended_other id other bs is) ∙ e))

-- what is known of a share that has no bucket is no bucket's
pub idle_fed : (known : Contents) (bs : List Bucket) (id : ShareId) → bucket_at id bs ≡ None → AreFed bs known → AreFed bs (put_content (key_of id) None known)
idle_fed known bs id idle s = record {
  apart = s.apart;
  fed = λ other b there. fed_same b (known (key_of other)) _ (others_known id None known other (other_share bs id other b idle there)) (s.fed other b there);
}

pub filter_fed : (known : Contents) (bs : List Bucket) (p : Bucket → Bool) → AreFed bs known → AreFed (filter p bs) known
filter_fed known bs p s = record {
  apart = apart_filter p bs s.apart;
  fed = λ other c e. s.fed other c (filtered_found p other bs c s.apart e);
}

pub push_fed : (known : Contents) (bs : List Bucket) (b : Bucket) → IsNothing b.gathered → bucket_at b.id bs ≡ None → AreFed bs known → AreFed (bs ++ b ∷ []) known
push_fed known bs b empty none s = record {
  apart = apart_push bs b none s.apart;
  fed = λ other c e. by other c e (same_id b.id other) refl;
} where
  by : (other : ShareId) (c : Bucket) → bucket_at other (bs ++ b ∷ []) ≡ Some c → (same : Bool) → same_id b.id other ≡ same → IsFedBy c (known (key_of other))
  by other c e true is =
      let at : bucket_at other bs ≡ None = subst (λ (i : ShareId). bucket_at i bs ≡ None) (eq_of_same b.id other is) none in
      let here : Some b ≡ Some c = sym (bucket_push other bs b at ∙ ap (λ (t : Bool). cond t (Some b) None) is) ∙ e in
      subst (λ (x : Bucket). IsFedBy x (known (key_of other))) (one_bucket b c here) (inl empty)
  by other c e false is = s.fed other c (sym (bucket_push_other other bs b is) ∙ e)

-- ---- bytes that came

-- a bucket that was given nothing has no bytes so far
so_far : (b : Bucket) (g : Gathered) → IsNothing g → count_in b.length g ≡ 0
so_far b (Part count hasher) empty = empty.0
so_far b (Whole digest) empty = absurd empty

-- where it begins at offset 0, or it is known what was written
pub begun_or_known : (b : Bucket) (content : Option (List ℕ)) → IsFedBy b content → (bytes_so_far b ≡ 0) ⊎ IsSome content
begun_or_known b content (inl empty) = inl (so_far b b.gathered empty)
begun_or_known b content (inr fed) = inr (is_some_of content fed.0 fed.1)

gathered_so : (b : Bucket) (content : Option (List ℕ)) → IsFedBy b content → IsNothing b.gathered ⊎ Gathers b.length b.gathered (unwrap_or content [])
gathered_so b content (inl empty) = inl empty
gathered_so b content (inr fed) =
    inr (subst (λ (bytes : List ℕ). Gathers b.length b.gathered bytes) (sym (ap (λ (o : Option (List ℕ)). unwrap_or o []) fed.1)) fed.2)

more_is : (offset : ℕ) (bytes : List ℕ) (content : Option (List ℕ)) → more_content offset bytes content ≡ cond (nat_eq offset 0) bytes (unwrap_or content [] ++ bytes)
more_is offset bytes content = by (nat_eq offset 0)
  where
    by : (t : Bool) → cond t [] (unwrap_or content []) ++ bytes ≡ cond t bytes (unwrap_or content [] ++ bytes)
    by true = refl
    by false = refl

pub fed_more : (b : Bucket) (now : ℕ) (bytes : List ℕ) (gathered : Gathered) (content new : Option (List ℕ)) → GoesOn b.length bytes b.gathered gathered → IsFedBy b content
    → new ≡ Some (more_content (bytes_so_far b) bytes content) → IsFedBy (with_bytes now gathered b) new
fed_more b now bytes gathered content new goes fed is =
    inr (
      more_content (bytes_so_far b) bytes content,
      is,
      grown b.length bytes (unwrap_or content []) (more_content (bytes_so_far b) bytes content) b.gathered gathered goes (gathered_so b content fed) (more_is (bytes_so_far b) bytes content),
    )

-- ---- a bucket that is whole

pub whole_known : (b : Bucket) (content : Option (List ℕ)) (digest : List ℕ) → b.gathered ≡ Whole digest → IsFedBy b content
    → (bytes : List ℕ) × (content ≡ Some bytes) × Gathers b.length (Whole digest) bytes
whole_known b content digest is (inl empty) = absurd (subst IsNothing is empty)
whole_known b content digest is (inr fed) = (fed.0, fed.1, subst (λ (g : Gathered). Gathers b.length g fed.0) is fed.2)
