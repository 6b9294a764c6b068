use Rattle.std.proofs.Common.{◌≡◌, ◌++◌, ◌∙◌, ◌+◌, ◌-◌, ℕ, List, length, take, drop, replicate, sym, ap, arith, rules, length-drop}
use Rattle.std.proofs.lemmas.List.{take-append-drop, take_all, take_at}
use Rattle.local_grid.proofs.passing.carry_piece.Goals as goal

pub returns-clause-ok : goal.returns-clause-ok
returns-clause-ok g c =
    let now = c.receive_behind.new.came in
    let before = c.len-before.result in
    let items = c.resize.new.self.items in
    let came = c.args.came.now.items in
    let most = before + length c.args.piece.now in
    let long : length now ≡ c.resize.new.self.len = search rules in
    let many : length now ≡ most = search rules in
    let start : before ≡ length came = search rules in
    let filled : items ≡ take most came ++ replicate (most - length came) 0 = search rules in
    let whole : take most came ≡ came = take_all most came (omega (arith, start)) in
    let front : take before now ≡ came =
    c.in_ok-receive_behind.ensures.front ∙ ap (take before) (c.as_mut_slice.ensures.value ∙ filled ∙ ap (λ (l : List ℕ). l ++ replicate (most - length came) 0) whole)
    ∙ take_at came (replicate (most - length came) 0) before (sym start) in (
      drop before now,
      take_at now (drop (length now) items) c.resize.new.self.len long ∙ sym (take-append-drop before now) ∙ ap (λ (l : List ℕ). l ++ drop before now) front,
      record {
        most = c.requires;
        between = c.send.new.self;
        sends = c.in_ok-send.ensures.ok;
        comes = c.in_ok-receive_behind.ensures.ok;
        count = omega (arith, many, length-drop before now);
      },
    )
