-- The siblings that share hashes carry.
use Rattle.std.proofs.Common.{◌≡◌, ℕ, ◌<◌, ◌≤◌, List, [], Some, length, get_or, take, ap, subst, sym, ◌∙◌, arith}
use Rattle.std.proofs.lemmas.List.{ext_get_or, get_or-take, length-take-le}
use Rattle.std.proofs.lemmas.Option.{same_Some}
use Rattle.merkle.specs.Path.{LeadsBy}
use Rattle.merkle.specs.Tree.{height, node_number}
use Rattle.merkle.specs.Tree.{sibling_number}
use Rattle.share_verify.specs.ShareHashes.{LeadsByEntries, carried_hash}

module _ (total : ℕ) (root : List ℕ) (leaf : ℕ) (hash : List ℕ) (entries siblings : List (List ℕ))
    (long : height total ≤ length siblings)
    (all : (i : ℕ) → i < height total → carried_hash entries (sibling_number (height total) leaf i) ≡ Some (get_or siblings i [])) where
  pub entries_lead : carried_hash entries (node_number (height total) leaf) ≡ Some hash
      → LeadsBy total root leaf hash (take (height total) siblings) → LeadsByEntries total root leaf hash entries
  entries_lead own leads = record {
    siblings = take (height total) siblings;
    own = own;
    carried = λ i below. all i below ∙ ap Some (sym (get_or-take (height total) siblings i [] below));
    leads = leads;
  }

  pub siblings_lead : LeadsByEntries total root leaf hash entries → LeadsBy total root leaf hash (take (height total) siblings)
  siblings_lead held =
      let m : ℕ = height total in
      let front : length (take m siblings) ≡ m = length-take-le m siblings long in
      let same : held.siblings ≡ take m siblings =
      ext_get_or [] held.siblings (take m siblings) (held.leads.1 ∙ sym front) (λ i below.
      let low : i < m = omega (arith, held.leads.1) in
      same_Some (get_or held.siblings i []) (get_or siblings i []) (sym (held.carried i low) ∙ all i low)
      ∙ sym (get_or-take m siblings i [] low)) in
      subst (LeadsBy total root leaf hash) same held.leads
