use Rattle.std.specs.Prelude.{◌≡◌, false, length}
use Rattle.grid_serve.proofs.served.tell_news.Given as goal

-- what came first is told, on standard error only where that is wanted
abbrev pub invariant-loop-news : goal.invariant-loop-news
invariant-loop-news g l =
    (l.served ≡ record l.fn.served { news = l.served.news })
    × (l.serve.verbose ≡ false → l.err ≡ l.fn.err)

abbrev pub decreases-loop-news : goal.decreases-loop-news
decreases-loop-news g l = length l.served.news
