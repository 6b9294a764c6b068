use Rattle.std.proofs.Common.{◌++◌, ◌∷◌, [], List, length, sym, ap, ◌∙◌, arith}
use Rattle.std.proofs.lemmas.List.{length-append}
use Rattle.request_record.specs.declared.entries.Entry.{Entry}
use Rattle.request_record.specs.declared.requests.Request.{Request}
use Rattle.request_record.specs.Entries.{entries_from}
use Rattle.request_record.proofs.EntrySteps.{pushed_entries}
use Rattle.request_record.proofs.entries.Entries.push.Goals as goal

pub invariant_of-self-2 : goal.invariant_of-self-2
invariant_of-self-2 c =
    let rs : List Request = c.self.inside.past.requests in
    let r : Request = c.args.request in
    record {
      counts = omega (arith, c.self.invariant.counts, ap length c.asked.ensures, length-append rs (r ∷ []));
      kept = c.push_reserved.ensures.items
          ∙ ap (λ (es : List Entry). es ++ record { position = c.self.inside.len; request = r } ∷ []) (c.reserve.ensures.items ∙ c.self.invariant.kept)
          ∙ ap (λ n. entries_from 0 rs ++ record { position = n; request = r } ∷ []) c.self.invariant.counts
          ∙ sym (pushed_entries rs r c.requires)
          ∙ ap (entries_from 0) (sym c.asked.ensures);
    }
