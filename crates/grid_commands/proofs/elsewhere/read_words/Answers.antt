use Rattle.std.proofs.Common.{◌≡◌, ◌∙◌, ◌+◌, ◌++◌, ◌<◌, ℕ, Bor, false, IfSome, List, Option, [], ◌∷◌, ap, eqb, get_or, length, map, rules, subst, sym, take}
use Rattle.std.specs.Cmp.{nat_eq_equiv}
use Rattle.std.specs.List.{IsDistinct, list_any}
use Rattle.std.proofs.lemmas.List.{get_or_default, map-append}
use Rattle.std.proofs.lemmas.Map.Keys.{IsDistinct-push}
use Rattle.grid_marks.specs.declared.addresses.AddressFile.{AddressFile}
use Rattle.grid_commands.specs.Elsewhere.{AreNamed, NamesServer}
use Rattle.grid_commands.proofs.ElsewhereLemmas.{flipped, named_more, none_distinct, server_of}
use Rattle.grid_commands.proofs.elsewhere.read_words.Goals as goal

pub loop-word-init : goal.loop-word-init
loop-word-init c =
    let none = c.new-files.ensures.items in (
      subst (λ (fs : List AddressFile). AreNamed [] (map (λ (f : AddressFile). f.server) fs)) (sym none) tt,
      c.new-servers.ensures.items ∙ sym (ap (map (λ (f : AddressFile). f.server)) none),
      subst (IsDistinct eqb) (sym c.new-servers.ensures.items) none_distinct,
    )

pub loop-word-preserved : goal.loop-word-preserved
loop-word-preserved c =
    let at = c.loop-word in
    let words = c.args.words.now in
    let file = c.in-Some.file in
    let word : Bor (List ℕ) = get_or words at.word-index (record { ref_ptr = (0, 0); now = [] }) in
    let within : at.word-index < length words = c.loop-word-test.true in
    let names : NamesServer word.now file.server = subst (λ (o : Option AddressFile). IfSome o (λ f. NamesServer word.now f.server)) c.in-Some.is c.in_ok-file.ensures in
    let more : c.push-in-Some.new.self.items ≡ at.files.items ++ file ∷ [] = c.in_ok-push-in-Some-2.ensures.items in
    let one : c.push.new.self.items ≡ at.servers.items ++ file.server ∷ [] = c.in_ok-push-in-Some.ensures.items in
    let mapped : map server_of c.push-in-Some.new.self.items ≡ map server_of at.files.items ++ file.server ∷ [] = ap (map server_of) more ∙ map-append server_of at.files.items (file ∷ []) in
    let absent : list_any (λ (y : ℕ). eqb y file.server) at.servers.items ≡ false = search rules in (
      subst (AreNamed (take (at.word-index + 1) words)) (sym mapped)
          (named_more words (map server_of at.files.items) at.word-index word file.server within (get_or_default words at.word-index _ word within) at.invariant.0 names),
      one ∙ ap (λ (ss : List ℕ). ss ++ file.server ∷ []) at.invariant.1 ∙ sym mapped,
      subst (IsDistinct eqb) (sym one) (IsDistinct-push nat_eq_equiv at.servers.items file.server at.invariant.2 (flipped at.servers.items file.server absent)),
    )
