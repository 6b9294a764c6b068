-- What a get writes by its words.
use Rattle.std.proofs.Common.{◌≡◌, ◌↔◌, false, ℕ, List, Option, Result, Ok, Err, OnOk, OnErr, IfErr, sym, subst, inl, inr, ◌∙◌}
use Rattle.cap_text.specs.Cap.{VerifyCapValue}
use Rattle.cap_text.specs.CapText.{Spells}
use Rattle.cap_text.specs.declared.cap.Cap.{Cap}
use Rattle.cap_text.specs.declared.cap.Cap.TheVariants.{Verify}
use Rattle.grid_faults.specs.declared.fault.Fault.{Fault}
use Rattle.grid_rules.specs.Range.{IsWithin}
use Rattle.grid_rules.specs.declared.range.ByteRange.{ByteRange}
use Rattle.grid_servers.specs.Grids.{GridCalls}
use Rattle.grid_telling.specs.declared.outcome.Failure.{Failure}
use Rattle.grid_words.specs.declared.words.GetWords.{GetWords}
use Rattle.grid_gets.specs.Files.{FileAct, IsFileBy, IsFileOf, MayBeFileBy, MayBeFileOf}
use Rattle.grid_gets.specs.Gets.{IsBegunBy, IsBegunOf, IsGotBy, IsGotOf, UnlessWriter, file_size, range_by, read}
use Rattle.grid_gets.proofs.SpanLemmas.{if_err_weaker}

-- ---- the cap that a text spells

pub ok_same : {A E : Type 0} (a b : A) → ◌≡◌ {A = Result A E} (Ok a) (Ok b) → a ≡ b
ok_same a b e = cc

pub err_same : {A E : Type 0} (a b : E) → ◌≡◌ {A = Result A E} (Err a) (Err b) → a ≡ b
err_same a b e = cc

pub ok_is_no_err : {A E : Type 0} (a : A) (e : E) → ◌≡◌ {A = Result A E} (Ok a) (Err e) → ⊥
ok_is_no_err a e same = cc

module _ (text : List ℕ) (r : Result Cap Fault) (said : (cap : Cap) → (r ≡ Ok cap) ↔ Spells text cap) (v : VerifyCapValue) (spelled : Spells text (Verify v)) where
  pub is_verify : (cap : Cap) → r ≡ Ok cap → cap ≡ Verify v
  is_verify cap is = ok_same cap (Verify v) (sym is ∙ (said (Verify v)).1 spelled)

  pub is_read : (fault : Fault) → r ≡ Err fault → ⊥
  is_read fault is = ok_is_no_err (Verify v) fault (sym ((said (Verify v)).1 spelled) ∙ is)

-- ---- what is written

module _ {S : Type 0} (calls : GridCalls S) (words : GetWords) (cap : Cap) (range : ByteRange) (spelled : Spells words.cap.now cap) (is : range ≡ range_by words cap) (within : IsWithin (file_size cap) range) where
  fits : IsWithin (file_size cap) (range_by words cap)
  fits = subst (λ (r : ByteRange). IsWithin (file_size cap) r) is within

  by_words : (held holds : Option (List ℕ)) → IsGotOf calls words.grid.now false cap range held holds → IsGotBy calls words held holds
  by_words held holds g = record { cap = cap; spelled = spelled; within = fits; got = subst (λ (r : ByteRange). IsGotOf calls words.grid.now false cap r held holds) is g }

  -- to a writer
  pub got_by : (r : Result (Unit {0}) Failure) (held holds : Option (List ℕ)) → OnOk r (IsGotOf calls words.grid.now false cap range held holds) → OnOk r (IsGotBy calls words held holds)
  got_by (Ok tt) held holds g = by_words held holds g
  got_by (Err f) held holds g = tt

  begun_words : (held holds : Option (List ℕ)) → IsBegunOf calls words.grid.now false range held holds cap → IsBegunBy calls words held holds
  begun_words held holds written = read cap spelled fits (subst (λ (x : ByteRange). IsBegunOf calls words.grid.now false x held holds cap) is written)

  pub begun_by : (r : Result (Unit {0}) Failure) (held holds : Option (List ℕ)) → IfErr r (λ f. UnlessWriter f (IsBegunOf calls words.grid.now false range held holds cap))
      → IfErr r (λ f. UnlessWriter f (IsBegunBy calls words held holds))
  begun_by r held holds b = if_err_weaker r (IsBegunOf calls words.grid.now false range held holds cap) (IsBegunBy calls words held holds) (begun_words held holds) b

  -- ---- to a file

  module _ (path : List ℕ) (old new : Option (List FileAct)) where
    file_words : (outcome : Result (Unit {0}) Failure) → IsFileOf calls words.grid.now false cap range path outcome old new → IsFileBy calls words path outcome old new
    file_words outcome h = record {
      held = h.held;
      holds = h.holds;
      acts = h.acts;
      whole = got_by outcome h.held h.holds h.whole;
      begun = if_err_weaker outcome (IsBegunOf calls words.grid.now false range h.held h.holds cap) (IsBegunBy calls words h.held h.holds) (begun_words h.held h.holds) h.begun;
    }

    pub file_by : (r : Result (Unit {0}) Failure) → OnOk r (IsFileOf calls words.grid.now false cap range path (Ok tt) old new) → OnOk r (IsFileBy calls words path (Ok tt) old new)
    file_by (Ok tt) h = file_words (Ok tt) h
    file_by (Err f) h = tt

    may_be : MayBeFileOf calls words.grid.now false cap range path old new → MayBeFileBy calls words path old new
    may_be (inl same) = inl same
    may_be (inr handed) = inr (handed.0, file_words handed.0 handed.1)

    pub part_by : (r : Result (Unit {0}) Failure) → OnErr r (MayBeFileOf calls words.grid.now false cap range path old new) → OnErr r (MayBeFileBy calls words path old new)
    part_by (Ok tt) h = tt
    part_by (Err f) h = may_be h
